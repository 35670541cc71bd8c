-- `banks_word` meets its contract: the three banks stand one above the other.
use Rattle.bits.specs.Fields.{total, pack}
use mathlib.Core.Path.{◌≡◌}
use lib.ListN.{length}
use Rattle.bits.proofs.Lists.{listed-is}
use native.Mathlib.Omega.{arith}
use borrow.Author.Rules.{rules}
use Rattle.image_write.proofs.words.banks_word.Goals as goal

pub returns : goal.returns
unfolding total pack
returns c =
    let l : length c.args.banks.now ≡ 3 = search rules in rw (← listed-is 0 3 c.args.banks.now l) (omega arith)
