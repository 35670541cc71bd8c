-- `quad_word` meets its contract: the four words stand one above the other.
use Rattle.bits.specs.Fields.{total, pack, times, each}
use native.Mathlib.Omega.{arith}
use Rattle.image_write.proofs.words.quad_word.Goals as goal

pub returns : goal.returns
unfolding total pack times each
returns c = omega arith
