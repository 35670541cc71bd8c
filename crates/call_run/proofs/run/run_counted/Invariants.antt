-- The loop of `run_counted`: before its piece or behind it (`Going`).
use Prim.Native.Nat.{◌-◌}
use mathlib.Core.Path.{◌≡◌}
use lib.ListN.{length}
use Rattle.call_run.proofs.run.Loop.{Going}
use Rattle.call_run.proofs.run.run_counted.Given as goal

abbrev pub invariant-loop-ran : goal.invariant-loop-ran
invariant-loop-ran l = Going l.n l.initial.ran.state l.initial.samples l.samples l.ran l.clocks
    × (length l.samples ≡ length l.initial.samples)

abbrev pub decreases-loop-ran : goal.decreases-loop-ran
decreases-loop-ran l = l.n - l.clocks
