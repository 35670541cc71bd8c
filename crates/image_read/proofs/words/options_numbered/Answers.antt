-- `options_numbered` meets its contract: bit by bit.
use mathlib.Core.Path.{refl}
use Rattle.bits.specs.Fields.{total, unpack}
use Rattle.image_read.proofs.words.options_numbered.Goals as goal

pub returns : goal.returns
unfolding unpack total
returns c = refl
