-- `high_of` meets its contract.
use mathlib.Core.Path.{refl}
use Rattle.bits.specs.Fields.{total, unpack}
use Rattle.image_read.proofs.words.high_of.Goals as goal

pub returns : goal.returns
unfolding unpack total
returns c = refl
