-- The three answers of image writing: refused by its length, refused by its state, accepted; and which lengths hold an image.
use mathlib.Core.Path.{◌≡◌, refl, sym, ap, ◌∙◌}
use mathlib.Core.Bool.{Bool, true, false, not, ◌&&◌, ◌||◌}
use mathlib.Core.List.{List, [], ◌∷◌, ◌++◌}
use Prim.Native.Nat.{ℕ, zero, suc, ◌≤◌}
use native.Mathlib.Omega.{arith}
use borrow.Author.Tests.{ne_eqb, eqb-true}
use lib.Dec.{eqb}
use lib.ListN.{length, set, drop, length-drop, length-append}
use Rattle.bits.specs.Fields.{pack}
use Rattle.bits.proofs.words.Laws.{length-bytes}
use Rattle.board_state.specs.declared.State.{State}
use Rattle.board_state.specs.State.{options_in, in_range}
use Rattle.call_refusals.specs.Refusals.{first_of}
use Rattle.image_write.specs.Image.{image_bytes, widths, fields, image_of}
use Rattle.image_write.specs.Options.{options_image_bytes, option_widths, option_fields, options_byte, image_at, option_set, room_for, Room, short, long}
use Rattle.image_write.specs.Writing.{write_refusal, written_image}

-- ---- lengths

-- bytes that hold an image are of one of the two lengths; the shorter holds no option
pub room : (option : Bool) (n : ℕ) → room_for option n ≡ true → Room option n
unfolding room_for
room option n e = go (eqb n options_image_bytes) refl (eqb n image_bytes) refl option refl e
  where
    go : (l : Bool) → eqb n options_image_bytes ≡ l → (m : Bool) → eqb n image_bytes ≡ m → (b : Bool) → option ≡ b
        → (l || (m && not b)) ≡ true → Room option n
    go true p m q b r e = long (eqb-true n options_image_bytes p)
    go false p true q false r e = short (eqb-true n image_bytes q) r
    go false p true q true r e = let z : ◌≡◌ {A = ℕ} 0 1 = cc in absurd (omega arith)
    go false p false q b r e = let z : ◌≡◌ {A = ℕ} 0 1 = cc in absurd (omega arith)

pub short-room : (n : ℕ) → n ≡ image_bytes → room_for false n ≡ true
unfolding room_for
short-room n e = rw e

pub long-room : (option : Bool) (n : ℕ) → n ≡ options_image_bytes → room_for option n ≡ true
unfolding room_for
long-room option n e = rw e

pub room-holds : (option : Bool) (n : ℕ) → Room option n → room_for option n ≡ true
room-holds option n (short l f) = rw f (short-room n l)
room-holds option n (long l) = long-room option n l

-- what holds an option holds an image without one
pub room-none : (option : Bool) (n : ℕ) → room_for option n ≡ true → room_for false n ≡ true
room-none option n e = go (room option n e)
  where
    go : Room option n → room_for false n ≡ true
    go (short l f) = short-room n l
    go (long l) = long-room false n l

-- bytes that hold an image are as many as the shorter one has, or more
pub room-first : (option : Bool) (n : ℕ) → room_for option n ≡ true → image_bytes ≤ n
room-first option n e = go (room option n e)
  where
    go : Room option n → image_bytes ≤ n
    go (short l f) = omega arith
    go (long l) = omega arith

pub room-short : (option : Bool) (n : ℕ) → room_for option n ≡ true → (n ≡ options_image_bytes → ⊥) → n ≡ image_bytes
room-short option n e ne = go (room option n e)
  where
    go : Room option n → n ≡ image_bytes
    go (short l f) = l
    go (long l) = absurd (ne l)

pub no_room : (option : Bool) (n : ℕ) → (n ≡ image_bytes → ⊥) → (n ≡ options_image_bytes → ⊥) → room_for option n ≡ false
unfolding room_for
no_room option n p q = rw (ne_eqb n options_image_bytes q, ne_eqb n image_bytes p)

-- ---- the image at each length

module _ (s : State) where
  pub length-image : length (image_of s) ≡ image_bytes
  unfolding image_of
  length-image = length-bytes image_bytes (pack widths (fields s))

  pub image-short : (n : ℕ) → n ≡ image_bytes → image_at n s ≡ image_of s
  unfolding image_at
  image-short n e = rw e

  pub image-long : (n : ℕ) → n ≡ options_image_bytes → image_at n s ≡ image_of s ++ (options_byte s ∷ [])
  unfolding image_at
  image-long n e = rw e

-- the last byte stored behind others
set_last : (xs ys : List ℕ) (n v : ℕ) → length xs ≡ n → length ys ≡ 1 → set (xs ++ ys) n v ≡ xs ++ (v ∷ [])
set_last [] [] n v e f = absurd (omega arith)
set_last [] (y ∷ []) zero v e f = refl
set_last [] (y ∷ []) (suc n) v e f = absurd (omega arith)
set_last [] (y ∷ z ∷ ys) n v e f = absurd (omega arith)
set_last (x ∷ xs) ys zero v e f = absurd (omega arith)
set_last (x ∷ xs) ys (suc n) v e f = ap (λ (l : List ℕ). x ∷ l) (set_last xs ys n v (omega arith) f)

-- the image over the first bytes leaves as many
pub length-put : (s : State) (img new : List ℕ) → image_bytes ≤ length img → new ≡ image_of s
    → length (new ++ drop image_bytes img) ≡ length img
length-put s img new h e =
    omega (arith, length-append new (drop image_bytes img), length-drop image_bytes img, ap length e ∙ length-image s)

pub put-long : (s : State) (img : List ℕ) (v : ℕ) → length img ≡ options_image_bytes
    → v ≡ pack option_widths (option_fields (options_in s) s.memory.layout.prg_ram)
    → set (image_of s ++ drop image_bytes img) image_bytes v ≡ image_at (length img) s
unfolding options_byte
put-long s img v l e =
    set_last (image_of s) (drop image_bytes img) image_bytes v (length-image s) (rw (length-drop, l))
    ∙ ap (λ (b : ℕ). image_of s ++ (b ∷ [])) e
    ∙ sym (image-long s (length img) l)

-- ---- the answers

-- a write of s over the bytes img answers this number and leaves these bytes
abbrev Answers : State → List ℕ → ℕ → List ℕ → Type 0
Answers s img number bytes = (number ≡ write_refusal s (length img)) × (bytes ≡ written_image s img)

module _ (s : State) (img : List ℕ) where
  pub refused-length : room_for (option_set s) (length img) ≡ false → Answers s img 1 img
  unfolding write_refusal written_image first_of
  refused-length e = (rw e, rw e)

  pub refused-state : room_for (option_set s) (length img) ≡ true → in_range s ≡ false → Answers s img 2 img
  unfolding write_refusal written_image first_of
  refused-state e f = (rw (e, f), rw (e, f))

  pub accepted : room_for (option_set s) (length img) ≡ true → in_range s ≡ true → Answers s img 0 (image_at (length img) s)
  unfolding write_refusal written_image first_of
  accepted e f = (rw (e, f), rw (e, f))
