-- `check_reset` meets its contract: the state's check, and one more.
use Prim.Native.Nat.{◌≤◌}
use mathlib.Core.Path.{◌∙◌}
use native.Mathlib.Omega.{arith}
use borrow.Author.Tests.{lt-ltb, le-ltb}
use Rattle.board_chip.specs.declared.reset.ResetKind.{ResetKind}
use Rattle.board_chip.specs.declared.reset.ResetKind.TheVariants.{Soft, Hard}
use Rattle.board_chip.specs.Reset.{kind_num}
use Rattle.refusals.proofs.Numbers.{passed}
use Rattle.call_refusals.specs.Refusals.{first_of}
use Rattle.call_refusals.proofs.Laws.{unknown, known-range}
use Rattle.call_refusals.proofs.check_reset.Goals as goal

pub returns-in_err-new-clause-number : goal.returns-in_err-new-clause-number
returns-in_err-new-clause-number c = passed _ _ c.from_residual.ensures.1 ∙ unknown _ _ _ c.in_err-new.ensures

small : (k : ResetKind) → kind_num k ≤ 1
small Soft = omega arith
small Hard = omega arith

pub returns-in-Ok-clause-number : goal.returns-in-Ok-clause-number
unfolding first_of
returns-in-Ok-clause-number c = rw (
  known-range c.in_ok-new.field-0 c.in_ok-new.ensures,
  le-ltb 1 c.args.kind (omega (arith, small c.in-Ok.kind, c.in-Ok.ensures)),
)

pub returns-in-Err-clause-number : goal.returns-in-Err-clause-number
unfolding first_of
returns-in-Err-clause-number c = rw (
  known-range c.in_ok-new.field-0 c.in_ok-new.ensures,
  lt-ltb 1 c.args.kind c.in-Err.ensures.1,
)
