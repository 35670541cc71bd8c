-- Reset, C7 and C8: what it answers and alters, refused too.
use Rattle.std.specs.Prelude.{ℕ, cond, eqb}
use Rattle.board_chip.specs.declared.reset.ResetKind.{ResetKind}
use Rattle.board_chip.specs.declared.reset.ResetKind.TheVariants.{Soft, Hard}
use Rattle.board_chip.specs.Reset.{reset_chip}
use Rattle.board_state.specs.declared.State.{State}
use Rattle.board_state.specs.State.{with_chip}
use Rattle.call_answers.specs.Answers.{Altered}
use Rattle.call_refusals.specs.Refusals.{unless_refused, reset_checks}

-- N3: kind 0 is soft; of the accepted ones the other is hard
abbrev pub kind_of : ℕ → ResetKind
kind_of kind = cond (eqb kind 0) Soft Hard

-- C7, C8: the chip is reset, and the memory stays, its tables too
unfoldable pub reset_state : State → ℕ → Altered
reset_state s kind =
    unless_refused (reset_checks s kind) (λ q. record { refusal = q; state = s })
    (record { refusal = 0; state = with_chip s (reset_chip s.chip (kind_of kind)) })
