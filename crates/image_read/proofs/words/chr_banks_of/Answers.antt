-- `chr_banks_of` meets its contract: six bytes, then six.
use Rattle.std.proofs.Common.{ℕ, List, ap, ◌∙◌}
use Rattle.std.proofs.Math.Seq.{paste}
use Rattle.bits.specs.Fields.{unpack}
use Rattle.bits.specs.Words.{bytes_of}
use Rattle.image_read.proofs.words.chr_banks_of.Goals as goal

pub returns : goal.returns
unfolding unpack
returns c = c.store-2.ensures ∙ ap (λ (l : List ℕ). paste l 6 (bytes_of 6 c.args.b) 6) c.store.ensures
