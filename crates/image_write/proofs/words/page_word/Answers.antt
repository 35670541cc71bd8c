-- `page_word` meets its contract: the flag stands below the page number.
use Rattle.bits.specs.Fields.{total, pack}
use Rattle.image_write.proofs.Parts.{bit-is, bit-small}
use native.Mathlib.Omega.{arith}
use Rattle.image_write.proofs.words.page_word.Goals as goal

pub returns : goal.returns
unfolding total pack
returns c =
    let f = rw c.is_writable.ensures at c.from.ensures in
    omega (arith, bit-is, bit-small)
