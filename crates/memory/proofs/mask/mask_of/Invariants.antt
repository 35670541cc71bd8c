-- The mask so far is that of the entries from i on.
use Prim.Native.Nat.{ℕ, ◌-◌, ◌^◌, ◌<◌}
use mathlib.Core.Path.{◌≡◌}
use mathlib.Core.Bool.{Bool}
use Rattle.memory.specs.Mask.{mask_from, TestIs}
use Rattle.memory.proofs.mask.mask_of.Given as goal

abbrev pub invariant-loop-i : goal.invariant-loop-i
invariant-loop-i g l =
    (l.mask < 2 ^ (l.count - l.i))
    × ((p : ℕ → Bool) → TestIs (goal.F-post g l.passes) p l.count → l.mask ≡ mask_from p l.i (l.count - l.i))
