-- `get_phases` meets its contract.
use mathlib.Core.Path.{refl, sym}
use Prim.Native.Nat.{◌-◌}
use lib.ListN.{replicate}
use Rattle.bits.specs.Fields.{total}
use Rattle.image_write.specs.Sections.{phases_at, prg_pages_at}
use Rattle.image_read.proofs.Sections.{section-is}
use native.Mathlib.Omega.{arith}
use Rattle.image_read.proofs.reading.get_phases.Goals as goal

pub returns : goal.returns
unfolding total
returns c = sym (section-is c.args.img.now phases_at (prg_pages_at - phases_at) (omega arith) _ (replicate 8 24) _ refl
    (rw c.at_byte.ensures at c.get_run.ensures))
