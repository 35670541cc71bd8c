-- Both ways between what a state holds and its fields' values, element by element.
use mathlib.Core.Path.{◌≡◌, refl, sym, ap, ap₂, ◌∙◌}
use mathlib.Core.Bool.{Bool, true, false, cond}
use mathlib.Core.List.{List, [], ◌∷◌, map}
use Prim.Native.Nat.{ℕ, zero, suc, ◌+◌, ◌-◌, ◌*◌, ◌^◌, ◌/◌, ◌%◌, ◌≤◌, ◌<◌}
use native.Mathlib.Omega.{arith}
use borrow.Author.Tests.{eqb-true, eqb-false, le-leb, lt-leb}
use lib.Dec.{leb, le→leb, lt→ltb}
use lib.Ieee.{Float, binary32, in_float, to_signed}
use lib.Ieee.Back.{positive_back, negative_back}
use lib.IntN.{ℤ, pos, negsuc, nat_abs}
use lib.ListN.{length, get_or}
use Rattle.bits.specs.Fields.{bit, Fit, times, each}
use Rattle.bits.proofs.Fields.{bit-eqb}
use Rattle.board_chip.specs.declared.namco163.Board.{Board}
use Rattle.board_chip.specs.declared.namco163.Board.TheVariants.{Unknown, Namco163, Namco175, Namco340}
use Rattle.board_chip.specs.Namco163.{board_num}
use Rattle.memory.specs.declared.mirroring.Mirroring.{Mirroring}
use Rattle.memory.specs.declared.mirroring.Mirroring.TheVariants.{Vertical, Horizontal, SingleScreenA, SingleScreenB, FourScreen}
use Rattle.memory.specs.declared.page.Page.{Page}
use Rattle.memory.specs.Mirroring.{mirroring_num}
use Rattle.memory.specs.Range.{EntryIn}
use Rattle.memory.specs.Page.{unmapped, page_of, offset_of, writable_of}
use Rattle.sound.specs.Levels.{whole_z}
use Rattle.sound.specs.Range.{level_low, level_high, WholeIn, Level}
use Rattle.sound.proofs.range.Laws.{level-size}
use Rattle.image_write.specs.Image.{level_num, page_widths, page_fields}
use Rattle.image_write.proofs.Levels.{field_of, level-num as level-field}
use Rattle.image_read.specs.Reading.{is_set, board_numbered, mirroring_numbered, pages_of, level_from, output_from}

-- ---- one element

pub bit-back : (b : Bool) → is_set (bit b) ≡ b
bit-back true = refl
bit-back false = refl

pub is-set-back : (v : ℕ) → v < 2 → bit (is_set v) ≡ v
is-set-back v h = sym (bit-eqb v h)

pub board-back : (b : Board) → board_numbered (board_num b) ≡ b
board-back Unknown = refl
board-back Namco163 = refl
board-back Namco175 = refl
board-back Namco340 = refl

pub board-num : (v : ℕ) → v < 4 → board_num (board_numbered v) ≡ v
board-num zero h = refl
board-num (suc zero) h = refl
board-num (suc (suc zero)) h = refl
board-num (suc (suc (suc zero))) h = refl
board-num (suc (suc (suc (suc v)))) h = absurd (let z : ⊥ = omega arith in z)

pub mirroring-back : (m : Mirroring) → mirroring_numbered (mirroring_num m) ≡ m
mirroring-back Vertical = refl
mirroring-back Horizontal = refl
mirroring-back SingleScreenA = refl
mirroring-back SingleScreenB = refl
mirroring-back FourScreen = refl

pub mirroring-most : (m : Mirroring) → mirroring_num m ≤ 4
mirroring-most Vertical = omega arith
mirroring-most Horizontal = omega arith
mirroring-most SingleScreenA = omega arith
mirroring-most SingleScreenB = omega arith
mirroring-most FourScreen = omega arith

pub mirroring-num : (v : ℕ) → v ≤ 4 → mirroring_num (mirroring_numbered v) ≡ v
mirroring-num zero h = refl
mirroring-num (suc zero) h = refl
mirroring-num (suc (suc zero)) h = refl
mirroring-num (suc (suc (suc zero))) h = refl
mirroring-num (suc (suc (suc (suc zero)))) h = refl
mirroring-num (suc (suc (suc (suc (suc v))))) h = absurd (let z : ⊥ = omega arith in z)

-- H11: a level comes back from its 12 bits
there_and_back : (signed : Bool) (z : ℤ) → WholeIn (level_low signed) (level_high signed) z → level_from signed (field_of z) ≡ z
there_and_back true (pos n) h = rw (lt-leb 2048 n (omega arith))
there_and_back true (negsuc n) h = rw (le-leb 2048 (4096 - suc n) (omega arith)) (ap negsuc (omega arith))
there_and_back false (pos n) h = refl
there_and_back false (negsuc n) h = absurd (omega arith)

pub level-back : (signed : Bool) (x : Float) → Level signed x → output_from signed (level_num x) ≡ x
level-back signed x l =
    ap (output_from signed) (level-field signed x l)
    ∙ ap whole_z (there_and_back signed l.number l.within)
    ∙ sym l.is

-- and 12 bits from their number, which is small
record Trip (z : ℤ) (n : ℕ) : Type 0 where
  pub back : field_of z ≡ n
  pub small : nat_abs z ≤ 4096

back-and-there : (signed : Bool) (n : ℕ) → n < 4096 → Trip (level_from signed n) n
back-and-there false n h = record { back = refl; small = omega arith }
back-and-there true n h = go (leb 2048 n)
  where
    go : (t : Bool) → Trip (cond t (negsuc (4095 - n)) (pos n)) n
    go true = record { back = omega arith; small = omega arith }
    go false = record { back = refl; small = omega arith }

-- whole numbers up to 2 ^ 24 in size are floats
whole_back : (z : ℤ) → nat_abs z ≤ 2 ^ 24 → to_signed 31 (whole_z z) ≡ z
unfolding in_float
whole_back (pos n) h = (positive_back binary32 31 n (le→leb n (2 ^ 24) h) (omega arith)).1
whole_back (negsuc n) h = (negative_back binary32 31 n (lt→ltb n (2 ^ 24) h) (omega arith)).1

pub level-num : (signed : Bool) (n : ℕ) → n < 4096 → Level signed (output_from signed n) → level_num (output_from signed n) ≡ n
level-num signed n h l =
    let trip = back-and-there signed n h in
    let same : l.number ≡ level_from signed n =
    sym (whole_back l.number (omega (arith, level-size signed l.number l.within)))
    ∙ ap (to_signed 31) (sym l.is)
    ∙ whole_back (level_from signed n) (omega (arith, trip.small)) in
    level-field signed (output_from signed n) l ∙ ap field_of same ∙ trip.back

pub page-back : (n : ℕ) (p : Page) → p.0 < 2 ^ 32 → EntryIn n p → page_of (1024 * (offset_of p / 1024)) (is_set (bit (writable_of p)))
    ≡ p
page-back n p h e =
    let c = eqb-false (p.0 / 2 ^ 30 % 2) 1 e.clear in
    let s = e.page_start in
    (λ i. page_of (1024 * (offset_of p / 1024)) (bit-back (writable_of p) i)) ∙ (λ i. record { 0 = go c s (writable_of p) refl i })
  where
    -- the offset is a whole page's start
    start : p.0 % 2 ^ 30 % 1024 ≡ 0 → 1024 * (offset_of p / 1024) % 2 ^ 30 ≡ offset_of p
    start s =
        let a : 1024 * (offset_of p / 1024) ≡ offset_of p = omega arith in
        rw a (omega arith)

    bits : (q r : ℕ) → p.0 / 2 ^ 30 % 2 ≡ q → p.0 / 2 ^ 31 % 2 ≡ r → r * 2 ^ 31 + (q * 2 ^ 30 + offset_of p) ≡ p.0
    bits q r eq er = omega arith

    zero_of : (k : ℕ) → k < 2 → (k ≡ 1 → ⊥) → k ≡ 0
    zero_of zero l n = refl
    zero_of (suc zero) l n = absurd (n refl)
    zero_of (suc (suc k)) l n = absurd (let z : ⊥ = omega arith in z)

    go : (p.0 / 2 ^ 30 % 2 ≡ 1 → ⊥) → p.0 % 2 ^ 30 % 1024 ≡ 0 → (w : Bool) → writable_of p ≡ w
        → cond w (2 ^ 31) 0 + 1024 * (offset_of p / 1024) % 2 ^ 30 ≡ p.0
    go c s true q =
        let z = zero_of (p.0 / 2 ^ 30 % 2) (omega arith) c in
        ap (λ (x : ℕ). 2 ^ 31 + x) (start s) ∙ omega (arith, bits 0 1 z (eqb-true (p.0 / 2 ^ 31 % 2) 1 q))
    go c s false q =
        let z = zero_of (p.0 / 2 ^ 30 % 2) (omega arith) c in
        ap (λ (x : ℕ). 0 + x) (start s)
        ∙ omega (arith, bits 0 0 z (zero_of (p.0 / 2 ^ 31 % 2) (omega arith) (eqb-false (p.0 / 2 ^ 31 % 2) 1 q)))

page-number : (n : ℕ) (b : Bool) → n < 1024 → offset_of (page_of (1024 * n) b) / 1024 ≡ n
page-number n true h = omega arith
page-number n false h = omega arith

page-flag : (n : ℕ) (b : Bool) → n < 1024 → writable_of (page_of (1024 * n) b) ≡ b
page-flag n true h = let e : (2 ^ 31 + 1024 * n % 2 ^ 30) / 2 ^ 31 % 2 ≡ 1 = omega arith in rw e
page-flag n false h = let e : (0 + 1024 * n % 2 ^ 30) / 2 ^ 31 % 2 ≡ 0 = omega arith in rw e

-- ---- arrays

pub map_back : {A B : Type 0} (f : A → B) (g : B → A) (d : A) (xs : List A)
    → ((i : ℕ) → i < length xs → g (f (get_or xs i d)) ≡ get_or xs i d) → map g (map f xs) ≡ xs
map_back f g d [] h = refl
map_back {A} f g d (x ∷ xs) h =
    ap₂ (λ (y : A) (ys : List A). y ∷ ys) (h 0 (omega arith)) (map_back f g d xs (λ i l. h (suc i) (omega arith)))

pub pages-back : (n : ℕ) (xs : List Page) → ((i : ℕ) → (get_or xs i unmapped).0 < 2 ^ 32)
    → ((i : ℕ) → i < length xs → EntryIn n (get_or xs i unmapped)) → pages_of (each page_fields xs) ≡ xs
unfolding pages_of each
pages-back n [] h e = refl
pages-back n (x ∷ xs) h e =
    ap₂ (λ (y : Page) (ys : List Page). y ∷ ys) (page-back n x (h 0) (e 0 (omega arith)))
    (pages-back n xs (λ i. h (suc i)) (λ i l. e (suc i) (omega arith)))

pub pages-num : (n : ℕ) (vs : List ℕ) → Fit (times n page_widths) vs → each page_fields (pages_of vs) ≡ vs
unfolding pages_of each times
pages-num zero [] f = refl
pages-num zero (v ∷ vs) f = absurd f
pages-num (suc n) [] f = absurd f
pages-num (suc n) (v ∷ []) f = absurd f.1
pages-num (suc n) (v ∷ w ∷ vs) f =
    let a = page-number v (is_set w) f.0 in
    let b : bit (writable_of (page_of (1024 * v) (is_set w))) ≡ w = ap bit (page-flag v (is_set w) f.0) ∙ is-set-back w f.1.0 in
    let r = pages-num n vs f.1.1 in
    λ i. a i ∷ b i ∷ r i
