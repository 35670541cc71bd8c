-- `read_sound` meets its contract, part by part.
use mathlib.Core.Path.{◌≡◌}
use Prim.Native.Nat.{◌-◌}
use lib.ListN.{take, drop}
use Rattle.bits.specs.Words.{word_of}
use Rattle.image_write.specs.Sections.{port_at, levels_at}
use Rattle.image_read.specs.Sections.{sound_at}
use Rattle.image_read.proofs.Fields.{port-at}
use native.Mathlib.Omega.{arith}
use Rattle.image_read.proofs.reading.read_sound.Goals as goal

pub float_from_bits-result : goal.float_from_bits-result
float_from_bits-result c = c.requires

pub returns : goal.returns
unfolding sound_at
returns c =
    let e : c.load-port.result ≡ word_of (take (levels_at - port_at) (drop port_at c.args.img.now)) =
    omega (arith, c.load-port.ensures.value) in
    rw (port-at c.args.img.now c.load-port.result e, c.get_ram.ensures, c.get_levels.ensures, c.get_phases.ensures)
