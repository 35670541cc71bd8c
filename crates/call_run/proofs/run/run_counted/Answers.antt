-- The loop of `run_counted`: before its piece or behind it (`Going`).
use Prim.Native.Nat.{◌^◌, ◌<◌}
use mathlib.Core.Path.{refl, sym, ◌∙◌}
use mathlib.Core.Logic.{inl, inr}
use native.Mathlib.Omega.{arith}
use Rattle.board_state.proofs.Range.{owned-typed}
use Rattle.call_run.proofs.run.Idle.{counted-least}
use Rattle.call_run.proofs.run.Loop.{going-within, going_end, next-piece, piece-done}
use Rattle.call_run.proofs.run.run_counted.Goals as goal

pub loop-ran-init : goal.loop-ran-init
loop-ran-init c = (inl (record { ran = refl; samples = refl; none = refl }), refl)

pub returns-then-ended : goal.returns-then-ended
returns-then-ended c =
    let done = going_end _ _ _ c.requires _ _ _ c.loop-ran.invariant.0 (sym c.ended.ensures ∙ c.if-ended.true) in
    record { ran_value = (done.ran, done.samples); least = done.least }

-- the piece of a turn
pub run_piece-ran-requires : goal.run_piece-ran-requires
run_piece-ran-requires c =
    let small : c.args.s.chip.regs.irq_counter < 2 ^ 16 = (owned-typed c.args.s _ c.well_formed.0).chip.counter in
    let taken =
    next-piece _ _ _ c.requires small _ _ _ _ c.loop-ran.invariant.0 (sym c.ended.ensures ∙ c.if-ended.false) c.piece-more.ensures in
    taken.checks

-- with it no more clocks are made than there are
pub overflow_add-clocks : goal.overflow_add-clocks
overflow_add-clocks c =
    let small : c.args.s.chip.regs.irq_counter < 2 ^ 16 = (owned-typed c.args.s _ c.well_formed.0).chip.counter in
    let taken =
    next-piece _ _ _ c.requires small _ _ _ _ c.loop-ran.invariant.0 (sym c.ended.ensures ∙ c.if-ended.false) c.piece-more.ensures in
    omega (arith, taken.count, (counted-least c.args.n c.args.s small).ends.within)

pub loop-ran-smaller : goal.loop-ran-smaller
loop-ran-smaller c =
    let small : c.args.s.chip.regs.irq_counter < 2 ^ 16 = (owned-typed c.args.s _ c.well_formed.0).chip.counter in
    let taken =
    next-piece _ _ _ c.requires small _ _ _ _ c.loop-ran.invariant.0 (sym c.ended.ensures ∙ c.if-ended.false) c.piece-more.ensures in
    omega (arith, taken.count, taken.some, (counted-least c.args.n c.args.s small).ends.within)

pub loop-ran-preserved : goal.loop-ran-preserved
loop-ran-preserved c =
    let small : c.args.s.chip.regs.irq_counter < 2 ^ 16 = (owned-typed c.args.s _ c.well_formed.0).chip.counter in
    let taken =
    next-piece _ _ _ c.requires small _ _ _ _ c.loop-ran.invariant.0 (sym c.ended.ensures ∙ c.if-ended.false) c.piece-more.ensures in (
      inr (piece-done _ _ _ c.requires small _ _ _ _ taken _ _ c.run_piece-ran.ensures.0 c.run_piece-ran.ensures.1),
      c.run_piece-ran.auto.samples ∙ c.loop-ran.invariant.1,
    )

pub overflow_sub-n : goal.overflow_sub-n
overflow_sub-n c = going-within _ _ _ _ _ _ c.loop-ran.invariant.0

pub shape_of-samples-then-ended : goal.shape_of-samples-then-ended
shape_of-samples-then-ended c = c.loop-ran.invariant.1

pub overflow_sub-n-in-loop-ran : goal.overflow_sub-n-in-loop-ran
overflow_sub-n-in-loop-ran c = going-within _ _ _ _ _ _ c.loop-ran.invariant.0
