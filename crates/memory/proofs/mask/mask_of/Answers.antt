-- The mask so far is that of the entries from i on.
use native.Mathlib.Omega.{arith}
use mathlib.Core.Path.{◌≡◌, refl}
use Prim.Native.Nat.{◌-◌}
use Rattle.memory.specs.Mask.{mask_from}
use Rattle.memory.proofs.Laws.Mask.{mask-room, mask-next}
use Rattle.memory.proofs.mask.mask_of.Goals as goal

pub loop-i-init : goal.loop-i-init
unfolding mask_from
loop-i-init g c = let e : c.args.count - c.args.count ≡ 0 = omega arith in rw e (omega arith, λ p h. refl)

pub loop-i-preserved : goal.loop-i-preserved
loop-i-preserved g c = (
  mask-room _ _ _ _ c.loop-i-test.true c.loop-i.auto.i c.loop-i.invariant.0,
  λ p h. rw (h (c.loop-i.i - 1) _ (omega arith) c.passes.ensures)
      (mask-next p _ _ _ c.loop-i-test.true c.loop-i.auto.i (c.loop-i.invariant.1 p h)),
)
