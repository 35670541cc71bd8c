-- H3: the image of every state that a call owns reads back to it, at each length that holds it. N1 and N2 of image writing and reading,
-- both ways.
use Prim.Native.Nat.{ℕ}
use mathlib.Core.Path.{◌≡◌, refl}
use mathlib.Core.Bool.{Bool, true, false}
use mathlib.Core.List.{List, [], ◌∷◌}
use mathlib.Core.Logic.{◌↔◌}
use native.Mathlib.Omega.{arith}
use borrow.Author.Tests.{not-true, not-false}
use lib.ListN.{length}
use mir.Val.{Val}
use denote.Laws.{Is}
use Rattle.board_state.specs.declared.State.{State}
use Rattle.board_state.specs.State.{in_range}
use Rattle.board_state.specs.contracts.State as Row
use Rattle.board_state.proofs.Range.{known}
use Rattle.call_refusals.specs.Refusals.{Check, first_of, state_check}
use Rattle.image_write.specs.Options.{image_at, option_set, room_for, Room}
use Rattle.image_write.specs.Writing.{room_check, image_check, write_checks}
use Rattle.image_write.proofs.writing.Laws.{room, room-holds}
use Rattle.image_read.specs.Reading.{image_ok, fields_check, read_checks, read_image}
use Rattle.image_read.proofs.RoundTrip.{read-written}
use Rattle.thm_range.proofs.Decided.{Decided, decided}

-- H3, H10: of every state that a call owns and that is in range
pub owned-read-written : (s : State) (vs : List Val) → Is Row.the_row s vs → in_range s ≡ true → (n : ℕ) → Room (option_set s) n
    → read_image (image_at n s) ≡ record { refusal = 0; state = s }
owned-read-written s vs is e n r = read-written s (known s vs is e) n (room-holds (option_set s) n r)

-- ---- what is refused: N1, N2

write-decided : (s : State) (len : ℕ) → Decided (write_checks s len)
write-decided s len = decided _ (omega arith, (omega arith, tt))

read-decided : (img : List ℕ) → Decided (read_checks img)
read-decided img = decided _ (omega arith, (omega arith, tt))

-- N1, both ways: the bytes are of neither length, or too few for an option
no_room : (option : Bool) (n : ℕ) → (Room option n → ⊥) → room_for option n ≡ false
no_room option n h = go (room_for option n) refl
  where
    go : (t : Bool) → room_for option n ≡ t → room_for option n ≡ false
    go true e = absurd (h (room option n e))
    go false e = e

pub refused-1 : (option : Bool) (len : ℕ) (rest : List Check) → Decided (room_check option len ∷ rest)
    → (first_of (room_check option len ∷ rest) ≡ 1) ↔ (Room option len → ⊥)
refused-1 option len rest d =
    let r = d.refused [] rest (room_check option len) refl in (
      (λ e h. let p = not-true (room_for option len) (r.0 e).1 in let q = room-holds option len h in
          let z : ◌≡◌ {A = ℕ} 0 1 = cc in omega arith),
      (λ h. r.1 (tt, rw (no_room option len h))),
    )

pub write-refused-1 : (s : State) (len : ℕ) → (first_of (write_checks s len) ≡ 1) ↔ (Room (option_set s) len → ⊥)
write-refused-1 s len = refused-1 (option_set s) len (state_check s ∷ []) (write-decided s len)

pub read-refused-1 : (img : List ℕ) → (first_of (read_checks img) ≡ 1) ↔ (Room false (length img) → ⊥)
read-refused-1 img = refused-1 false (length img) (fields_check img ∷ []) (read-decided img)

-- N2, both ways
pub write-refused-2 : (s : State) (len : ℕ) → (first_of (write_checks s len) ≡ 2) ↔ (Room (option_set s) len × (in_range s ≡ false))
write-refused-2 s len =
    let set = option_set s in
    let r = (write-decided s len).refused (room_check set len ∷ []) [] (state_check s) refl in (
      (λ e. let h = r.0 e in (room set len (not-false (room_for set len) h.0.0), not-true (in_range s) h.1)),
      (λ h. r.1 ((rw (room-holds set len h.0), tt), rw h.1)),
    )

pub read-refused-2 : (img : List ℕ) → (first_of (read_checks img) ≡ 2) ↔ (Room false (length img) × (image_ok img ≡ false))
read-refused-2 img =
    let len = length img in
    let r = (read-decided img).refused (image_check len ∷ []) [] (fields_check img) refl in (
      (λ e. let h = r.0 e in (room false len (not-false (room_for false len) h.0.0), not-true (image_ok img) h.1)),
      (λ h. r.1 ((rw (room-holds false len h.0), tt), rw h.1)),
    )
