-- The rest decides.
use Rattle.std.proofs.Common.{◌≡◌, ◌≤◌, length}
use Rattle.directory.specs.Ordered.{ordered}
use Rattle.directory.proofs.order.ordered.Given as goal

abbrev pub invariant-loop-w : goal.invariant-loop-w
invariant-loop-w l = (0x5FFF ≤ l.s) × (ordered l.s l.rest ≡ ordered 0x5FFF l.d)

abbrev pub decreases-loop-w : goal.decreases-loop-w
decreases-loop-w l = length l.rest
