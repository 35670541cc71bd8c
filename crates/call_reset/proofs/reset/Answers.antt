-- `reset` meets its contract: refused, and accepted.
use mathlib.Core.Path.{◌≡◌, refl}
use Rattle.board_chip.specs.declared.reset.ResetKind.{ResetKind}
use Rattle.board_chip.specs.declared.reset.ResetKind.TheVariants.{Soft, Hard}
use Rattle.board_chip.specs.Reset.{kind_num}
use Rattle.refusals.proofs.Numbers.{errs, refuses}
use Rattle.call_reset.specs.Reset.{kind_of, reset_state}
use Rattle.call_reset.proofs.reset.Goals as goal

pub returns-in_err-kind : goal.returns-in_err-kind
unfolding reset_state
returns-in_err-kind c = rw (errs _ _ c.from_residual.ensures.1, ← c.in_err-kind.ensures.number, refuses _)

-- a kind is that of its number
numbered-kind : (k : ResetKind) → kind_of (kind_num k) ≡ k
numbered-kind Soft = refl
numbered-kind Hard = refl

pub returns : goal.returns
unfolding reset_state
returns c = rw (
  ← c.in_ok-kind.ensures.number,
  c.reset-chip.ensures,
  ← c.in_ok-kind.ensures.kind,
  numbered-kind,
)
