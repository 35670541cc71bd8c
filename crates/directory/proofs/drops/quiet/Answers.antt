-- By the pass.
use Rattle.std.proofs.Common.{◌≡◌, rules}
use lib.Bits.{bit_or}
use Rattle.std.specs.List.{fold}
use Rattle.directory.specs.Eights.{seen_from}
use Rattle.directory.proofs.Laws.Eights.{quiet_fold}
use Rattle.directory.proofs.drops.quiet.Goals as goal

pub returns : goal.returns
returns c =
    let e : c.fold-seen.result ≡ fold (λ seen w. bit_or seen (seen_from c.args.touched w)) 0 c.args.eight.now = search rules in
    rw e (quiet_fold c.args.touched 0 c.args.eight.now)
