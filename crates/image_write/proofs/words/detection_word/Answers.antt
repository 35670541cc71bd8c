-- `detection_word` meets its contract: the fields stand one above the other.
use Rattle.bits.specs.Fields.{total, pack}
use Rattle.image_write.proofs.Parts.{bit-is, bit-small, mirroring-small}
use native.Mathlib.Omega.{arith}
use Rattle.image_write.proofs.words.detection_word.Goals as goal

pub returns : goal.returns
unfolding total pack
returns c = omega (arith, bit-is, bit-small, mirroring-small)
