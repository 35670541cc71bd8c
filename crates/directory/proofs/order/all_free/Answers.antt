-- By the pass.
use Rattle.std.proofs.Common.{◌≡◌, rules}
use lib.Bits.{bit_or}
use Rattle.std.specs.List.{fold}
use Rattle.directory.proofs.Laws.Eights.{free_fold}
use Rattle.directory.proofs.order.all_free.Goals as goal

pub returns : goal.returns
returns c = let e : c.fold.result ≡ fold bit_or 0 c.args.d.now = search rules in rw e (free_fold 0 c.args.d.now)
