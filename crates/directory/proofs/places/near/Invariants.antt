-- The rest decides.
use Rattle.std.proofs.Common.{◌≡◌, length}
use Rattle.directory.specs.Calls.{word_at}
use Rattle.directory.proofs.places.near.Given as goal

abbrev pub invariant-loop-eight : goal.invariant-loop-eight
invariant-loop-eight l = word_at l.start l.rest ≡ word_at l.start l.d

abbrev pub decreases-loop-eight : goal.decreases-loop-eight
decreases-loop-eight l = length l.rest
