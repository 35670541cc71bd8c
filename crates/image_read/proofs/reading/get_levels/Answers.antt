-- `get_levels` meets its contract: 12 bits are below 4096.
use mathlib.Core.Path.{refl, sym, ap, ◌∙◌}
use Prim.Native.Nat.{◌-◌}
use lib.ListN.{replicate}
use Rattle.bits.specs.Fields.{total}
use mathlib.Core.List.{map}
use Rattle.image_read.specs.Reading.{output_from}
use Rattle.bits.proofs.Fields.{fit-below}
use Rattle.image_write.specs.Sections.{levels_at, out_at}
use Rattle.image_read.proofs.Sections.{section-is}
use native.Mathlib.Omega.{arith}
use Rattle.image_read.proofs.reading.get_levels.Goals as goal

pub levels_of-requires : goal.levels_of-requires
levels_of-requires c = fit-below 8 12 c.get_run.new.xs c.get_run.ensures.fit

pub returns : goal.returns
unfolding total
returns c = c.levels_of.ensures ∙ ap (map (output_from c.args.signed))
    (sym (section-is c.args.img.now levels_at (out_at - levels_at) (omega arith) _ (replicate 8 12) _ refl
    (rw c.at_byte.ensures at c.get_run.ensures)))
