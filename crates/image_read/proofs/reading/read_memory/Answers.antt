-- `read_memory` meets its contract, part by part.
use mathlib.Core.Path.{◌≡◌}
use Prim.Native.Nat.{◌-◌, ◌%◌}
use native.Mathlib.Nat.{mul_comm}
use lib.ListN.{take, drop}
use Rattle.bits.specs.Words.{word_of}
use Rattle.limits.specs.Limits.{used_most}
use Rattle.image_write.specs.Image.{image_bytes}
use Rattle.image_write.specs.Sections.{layout_at}
use Rattle.image_read.specs.Sections.{memory_at}
use Rattle.image_read.proofs.Fields.{layout-at}
use native.Mathlib.Omega.{arith}
use Rattle.image_read.proofs.reading.read_memory.Goals as goal

pub returns : goal.returns
unfolding memory_at
returns c =
    let e : c.load-w.result ≡ word_of (take (image_bytes - layout_at) (drop layout_at c.args.img.now)) =
    omega (arith, c.load-w.ensures.value) in
    rw (layout-at c.args.img.now c.load-w.result e, mul_comm used_most (c.load-w.result % 2), c.get_pages.ensures, c.get_pages-2.ensures)
