-- N10 and N11, both ways.
use Prim.Native.Nat.{ℕ, ◌≤◌, ◌<◌}
use mathlib.Core.Path.{◌≡◌, refl}
use mathlib.Core.Bool.{true}
use mathlib.Core.List.{[], ◌∷◌}
use mathlib.Core.Logic.{◌↔◌}
use native.Mathlib.Omega.{arith}
use borrow.Author.Tests.{not-false, lt-ltb, le-ltb, ltb-true, ltb-false}
use Rattle.board_state.specs.declared.State.{State}
use Rattle.board_state.specs.State.{in_range}
use Rattle.call_refusals.specs.Refusals.{first_of, state_check}
use Rattle.call_run.specs.Run.{made, run_limit, length_check, room_check, run_checks}
use Rattle.thm_range.proofs.Decided.{Decided, decided}

pub run-decided : (s : State) (n room : ℕ) → Decided (run_checks s n room)
run-decided s n room = decided _ (omega arith, (omega arith, (omega arith, tt)))

-- N10
pub refused-10 : (s : State) (n room : ℕ) → (first_of (run_checks s n room) ≡ 10) ↔ ((in_range s ≡ true) × (run_limit < n))
refused-10 s n room =
    let r = (run-decided s n room).refused (state_check s ∷ []) (room_check s n room ∷ []) (length_check n) refl in (
      (λ e. let h = r.0 e in (not-false (in_range s) h.0.0, ltb-true run_limit n h.1)),
      (λ h. r.1 ((rw h.0, tt), lt-ltb run_limit n h.1)),
    )

-- N11
pub refused-11 : (s : State) (n room : ℕ)
    → (first_of (run_checks s n room) ≡ 11) ↔ ((in_range s ≡ true) × ((n ≤ run_limit) × (room < made n s)))
refused-11 s n room =
    let r = (run-decided s n room).refused (state_check s ∷ length_check n ∷ []) [] (room_check s n room) refl in (
      (λ e. let h = r.0 e in (not-false (in_range s) h.0.0, (ltb-false run_limit n h.0.1.0, ltb-true room (made n s) h.1))),
      (λ h. r.1 ((rw h.0, (le-ltb run_limit n h.1.0, tt)), lt-ltb room (made n s) h.1.1)),
    )
