-- The mask of touched pages, and the law of one call: where a block does not go, each of its bytes is as it was. Assumes nothing.
use Prim.Native.Nat.{ℕ, zero, suc, ◌+◌, ◌-◌, ◌*◌, ◌/◌, ◌%◌, ◌^◌, ◌≤◌, ◌<◌}
use mathlib.Core.Path.{◌≡◌, refl, sym, ap, ◌∙◌}
use mathlib.Core.Bool.{Bool, true, false, cond, not, ◌&&◌, ◌||◌}
use mathlib.Core.List.{List, [], ◌∷◌}
use mathlib.Core.Option.{Option, some, none}
use native.Mathlib.Omega.{arith}
use native.Mathlib.Nat.{pow-suc, mul_comm, div-div-eq-div-mul, zero-div}
use borrow.Author.Tests.{eq-eqb, eqb-true, le-leb, not-false}
use lib.Bits.{bit_or, or_zero_l}
use lib.Dec.{eqb}
use lib.ListN.{length, get_or}
use Rattle.memory.specs.declared.page.Page.{Page}
use Rattle.memory_bytes.specs.Bytes.{shown_at, store}
use Rattle.memory.specs.Mask.{mask_from}
use Rattle.memory.specs.Changes.{same, changed}
use Rattle.memory.specs.Page.{has_bit, unmapped, offset_of}
use Rattle.memory_bytes.proofs.Laws.Bytes.{store_other}
use Rattle.memory.proofs.Laws.Changes.{bit-changed}
use Rattle.directory.specs.Block.{under}
use Rattle.directory.specs.Drop.{some_below, goes}
use Rattle.directory.proofs.Laws.Bits.{bit-or}
use Rattle.directory_touched.specs.Touched.{shows_byte, shows, touched_at, shown_mask, shown_by, touched}

-- ---- the mask of a test of each index from k on

pub shown-mask : (p : ℕ → Bool) (k : ℕ) (ps : List Page) (byte : ℕ)
    → ((i : ℕ) → i < length ps → p (k + i) ≡ shows_byte (get_or ps i unmapped) byte) → mask_from p k (length ps) ≡ shown_mask ps byte
unfolding mask_from shown_mask
shown-mask p k [] byte h = refl
shown-mask p k (a ∷ ps) byte h =
    let here : p k ≡ shows_byte a byte = (let z : k + 0 ≡ k = omega arith in rw z at (h 0 (omega arith))) in
    rw (shown-mask p (suc k) ps byte shifted, here)
  where
    shifted : (i : ℕ) → i < length ps → p (suc k + i) ≡ shows_byte (get_or ps i unmapped) byte
    shifted i l = let s : k + suc i ≡ suc k + i = omega arith in rw s at (h (suc i) (omega arith))

bit_le : (b : Bool) → cond b 1 0 ≤ 1
bit_le true = omega arith
bit_le false = omega arith

-- ---- what its bits say

bit-of : (t : Bool) → eqb (cond t 1 0) 1 ≡ t
bit-of true = refl
bit-of false = refl

bit-shown : (ps : List Page) (i k : ℕ) → k < length ps → has_bit k (shown_mask ps i) ≡ shows_byte (get_or ps k unmapped) i
unfolding shown_mask
bit-shown [] i k h = absurd (omega arith)
bit-shown (p ∷ ps) i zero h =
    let first : (shown_mask ps i * 2 + cond (shows_byte p i) 1 0) / 1 % 2 ≡ cond (shows_byte p i) 1 0 =
    omega (arith, bit_le (shows_byte p i)) in
    rw first (bit-of (shows_byte p i))
bit-shown (p ∷ ps) i (suc k) h =
    let half : (shown_mask ps i * 2 + cond (shows_byte p i) 1 0) / 2 ≡ shown_mask ps i = omega (arith, bit_le (shows_byte p i)) in
    let rest : (shown_mask ps i * 2 + cond (shows_byte p i) 1 0) / 2 ^ suc k ≡ shown_mask ps i / 2 ^ k =
    ap (λ (d : ℕ). (shown_mask ps i * 2 + cond (shows_byte p i) 1 0) / d) (pow-suc 2 k ∙ mul_comm (2 ^ k) 2)
    ∙ sym (div-div-eq-div-mul (shown_mask ps i * 2 + cond (shows_byte p i) 1 0) 2 (2 ^ k)) ∙ ap (λ (n : ℕ). n / 2 ^ k) half in
    rw rest (bit-shown ps i k (omega arith))

bit-shown_by : (ps : List Page) (at : Option ℕ) (k : ℕ) → k < length ps → has_bit k (shown_by ps at) ≡ shows (get_or ps k unmapped) at
bit-shown_by ps none k h = rw (zero-div (2 ^ k))
bit-shown_by ps (some i) k h = bit-shown ps i k h

-- has_bit k is set exactly where page k is touched
pub bit-touched : (old new : List Page) (at : Option ℕ) (k : ℕ) → length old ≡ length new → k < length old
    → has_bit k (touched old new at) ≡ touched_at old new at k
unfolding touched
bit-touched old new at k l h =
    bit-or k (changed old new) (shown_by old at) ∙ (λ i. bit-changed old new l k h i || bit-shown_by old at k h i)

-- ---- one call

-- no page below n passes
some-none : (n : ℕ) (p : ℕ → Bool) → some_below n p ≡ false → (k : ℕ) → k < n → p k ≡ false
unfolding some_below
some-none zero p e k h = absurd (omega arith)
some-none (suc n) p e k h = by (native.Mathlib.Decide.ℕ_discrete k n) (p n) refl e (λ r. some-none n p r k)
  where
    by : Dec (k ≡ n) → (b : Bool) → p n ≡ b → (b || some_below n p) ≡ false → (some_below n p ≡ false → k < n → p k ≡ false) → p k ≡ false
    by d true q e ih = let z : ◌≡◌ {A = ℕ} 0 1 = cc in absurd (omega arith)
    by (yes s) false q e ih = rw s q
    by (no s) false q e ih = ih e (omega (arith, s))

or-0 : (a b : Bool) → (a || b) ≡ false → a ≡ false
or-0 true b e = e
or-0 false b e = refl

or-1 : (a b : Bool) → (a || b) ≡ false → b ≡ false
or-1 true b e = let z : ◌≡◌ {A = ℕ} 0 1 = cc in absurd (omega arith)
or-1 false b e = e

same-page : (a b : Page) → same a b ≡ true → a ≡ b
same-page a b e = (λ i. record { 0 = eqb-true a.0 b.0 e i })

-- the byte that a table shows at a CPU address (`prg_peek`)
abbrev pub byte_at : List ℕ → List Page → ℕ → ℕ
byte_at arena pages a = get_or arena (shown_at (get_or pages (a / 1024) unmapped) a) 0

module _ (old new : List Page) (at : Option ℕ) (arena : List ℕ) (v : ℕ)
    (l : length old ≡ 64) (m : length new ≡ 64)
    (starts : (k : ℕ) → k < 64 → offset_of (get_or old k unmapped) % 1024 ≡ 0) where
  -- an address whose page is not touched shows the byte that it showed
  pub untouched-byte : (a : ℕ) → a < 0x10000 → touched_at old new at (a / 1024) ≡ false
      → byte_at (store arena at v) new a ≡ byte_at arena old a
  untouched-byte a h t =
      let k = a / 1024 in
      let p = get_or old k unmapped in
      let q : p ≡ get_or new k unmapped = same-page p (get_or new k unmapped) (not-false _ (or-0 (not (same p (get_or new k unmapped)))
      (shows p at) t)) in
      let s : shows p at ≡ false = or-1 (not (same p (get_or new k unmapped))) (shows p at) t in
      rw (← q) (store_other arena at v (shown_at p a) (elsewhere at s))
    where
      elsewhere : (at : Option ℕ) → shows (get_or old (a / 1024) unmapped) at ≡ false
          → at ≡ some (shown_at (get_or old (a / 1024) unmapped) a) → ⊥
      elsewhere none s e = let z : ◌≡◌ {A = ℕ} 0 1 = cc in omega arith
      elsewhere (some i) s e =
          let j : i ≡ shown_at (get_or old (a / 1024) unmapped) a = cc in
          let y : shows_byte (get_or old (a / 1024) unmapped) i ≡ true =
          eq-eqb (offset_of (get_or old (a / 1024) unmapped) / 1024) (i / 1024) (omega (arith, starts (a / 1024) (omega arith))) in
          let z : ◌≡◌ {A = ℕ} 0 1 = cc in omega arith

  -- the law of one call: a block that does not go covers the bytes that it covered
  pub held_bytes : (start len : ℕ) → start + len ≤ 0x10000 → goes (touched old new at) start len ≡ false
      → (a : ℕ) → start ≤ a → a < start + len → byte_at (store arena at v) new a ≡ byte_at arena old a
  unfolding goes under
  held_bytes start len fits g a lo hi =
      let k = a / 1024 in
      let u = some-none 64 (λ k. under start len k && has_bit k (touched old new at)) g k (omega arith) in
      let b : has_bit k (touched old new at) ≡ false =
      rw (le-leb (start / 1024) k (omega arith), le-leb k ((start + len - 1) / 1024) (omega arith)) at u in
      untouched-byte a (omega arith) (sym (bit-touched old new at k (l ∙ sym m) (rw l (omega arith))) ∙ b)

-- ---- a call that changes no entry touches the pages that show its byte

changed-none : (t : List Page) → changed t t ≡ 0
unfolding changed
changed-none [] = refl
changed-none (p ∷ t) = rw (eq-eqb p.0 p.0 refl) (omega (arith, changed-none t))

pub touched-same : (t : List Page) (at : Option ℕ) → touched t t at ≡ shown_by t at
unfolding touched
touched-same t at = ap (λ (n : ℕ). bit_or n (shown_by t at)) (changed-none t) ∙ or_zero_l (shown_by t at)
