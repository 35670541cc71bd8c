-- L15, F9: mask, count and lowest entry say of a table of any length which entries differ, and the machine's counts of the mask are those
-- of the entries. Assumes nothing.
use Prim.Native.Nat.{ℕ, zero, suc, ◌+◌, ◌*◌, ◌/◌, ◌%◌, ◌^◌, ◌≤◌, ◌<◌}
use mathlib.Core.Path.{◌≡◌, refl, ap, ap₂, sym, ◌∙◌}
use mathlib.Core.Bool.{Bool, true, false, cond, not}
use mathlib.Core.List.{List, [], ◌∷◌}
use native.Mathlib.Omega.{arith}
use native.Mathlib.Nat.{pow-suc, mul_comm, div-div-eq-div-mul}
use Rattle.std.proofs.Math.Nat.{min-zero, zero-min}
use Rattle.std.specs.Prelude.{min}
use borrow.Author.Tests.{eqb-true, eqb-false}
use lib.Dec.{eqb}
use lib.ListN.{length, get_or}
use lib.Pow.{pow_pos}
use lib.Count.{ones, ones-ones, ones_cat, count_trailing_zeros, trailing_of_zero, under}
use Rattle.memory.specs.declared.page.Page.{Page}
use Rattle.memory.specs.Mask.{mask_from}
use Rattle.memory.specs.Changes.{same, differ, changed, count_changed, lowest_changed}
use Rattle.memory.specs.Page.{has_bit, unmapped}

pub differ-le : (a b : Page) → differ a b ≤ 1
differ-le a b = go (same a b)
  where
    go : (t : Bool) → cond t 0 1 ≤ 1
    go true = omega arith
    go false = omega arith

-- ---- the mask

pub changed-lt : (old new : List Page) → changed old new < 2 ^ length old
unfolding changed
changed-lt [] new = omega arith
changed-lt (a ∷ old) [] = pow_pos (suc (length old))
changed-lt (a ∷ old) (b ∷ new) = rw pow-suc (omega (arith, changed-lt old new, differ-le a b))

-- the mask of the entries that differ, by a test of each index from k on
pub changed-mask : (p : ℕ → Bool) (k : ℕ) (old new : List Page) → length old ≡ length new
    → ((i : ℕ) → i < length old → p (k + i) ≡ not (same (get_or old i unmapped) (get_or new i unmapped)))
    → mask_from p k (length old) ≡ changed old new
unfolding mask_from changed
changed-mask p k [] new e h = refl
changed-mask p k (a ∷ old) [] e h = absurd (omega arith)
changed-mask p k (a ∷ old) (b ∷ new) e h =
    let here : p k ≡ not (same a b) = (let z : k + 0 ≡ k = omega arith in rw z at (h 0 (omega arith))) in
    rw (changed-mask p (suc k) old new (omega arith) shifted, here, flip (same a b))
  where
    shifted : (i : ℕ) → i < length old → p (suc k + i) ≡ not (same (get_or old i unmapped) (get_or new i unmapped))
    shifted i l = let s : k + suc i ≡ suc k + i = omega arith in rw s at (h (suc i) (omega arith))

    flip : (t : Bool) → ◌≡◌ {A = ℕ} (cond (not t) 1 0) (cond t 0 1)
    flip true = refl
    flip false = refl

-- ---- the machine's counts of a mask

ones_bit : (a b : Page) → ones (differ a b) ≡ differ a b
ones_bit a b = go (same a b)
  where
    go : (t : Bool) → ones (cond t 0 1) ≡ cond t 0 1
    go true = ones-ones 0
    go false = ones-ones 1

pub ones-changed : (old new : List Page) → ones (changed old new) ≡ count_changed old new
unfolding changed count_changed
ones-changed [] new = ones-ones 0
ones-changed (a ∷ old) [] = ones-ones 0
ones-changed (a ∷ old) (b ∷ new) =
    ones_cat 1 (changed old new) (differ a b) (omega (arith, differ-le a b)) ∙ ap₂ ◌+◌ (ones-changed old new) (ones_bit a b)

low : (old new : List Page) (a b : Page) → (changed old new * 2 + differ a b) % 2 ≡ differ a b
low old new a b = omega (arith, differ-le a b)

high : (old new : List Page) (a b : Page) → (changed old new * 2 + differ a b) / 2 ≡ changed old new
high old new a b = omega (arith, differ-le a b)

pub lowest-changed : (old new : List Page) → count_trailing_zeros (length old) (changed old new) ≡ lowest_changed old new
unfolding changed lowest_changed count_trailing_zeros
lowest-changed [] new = refl
lowest-changed (a ∷ old) [] = trailing_of_zero (suc (length old))
lowest-changed (a ∷ old) (b ∷ new) =
    ap₂ under (low old new a b) (ap (count_trailing_zeros (length old)) (high old new a b) ∙ lowest-changed old new) ∙ go (same a b)
  where
    go : (t : Bool) → under (cond t 0 1) (lowest_changed old new) ≡ cond t (suc (lowest_changed old new)) 0
    go true = refl
    go false = refl

-- a number below 2 ^ k has its lowest digit among its first k, or no digit
trailing-narrow : (k w n : ℕ) → k ≤ w → n < 2 ^ k → min (count_trailing_zeros w n) k ≡ count_trailing_zeros k n
unfolding count_trailing_zeros
trailing-narrow zero w n h b = min-zero (count_trailing_zeros w n)
trailing-narrow (suc k) zero n h b = absurd (omega arith)
trailing-narrow (suc k) (suc w) n h b =
    let half : n / 2 < 2 ^ k = omega (arith, rw pow-suc at b) in
    go (n % 2) (trailing-narrow k w (n / 2) (omega arith) half)
  where
    go : (d : ℕ) → min (count_trailing_zeros w (n / 2)) k ≡ count_trailing_zeros k (n / 2)
        → min (under d (count_trailing_zeros w (n / 2))) (suc k) ≡ under d (count_trailing_zeros k (n / 2))
    go zero e = omega (arith, e)
    go (suc d) e = zero-min (suc k)

-- the same of a table of k entries, by the count of 64 digits
pub lowest-changed-of : (k : ℕ) (old new : List Page) → length old ≡ k → k ≤ 64
    → min (count_trailing_zeros 64 (changed old new)) k ≡ lowest_changed old new
lowest-changed-of k old new e h =
    trailing-narrow k 64 (changed old new) h (rw e at (changed-lt old new)) ∙ (rw e at (lowest-changed old new))

-- ---- what mask, count and lowest say of two tables of one length

bit-of : (t : Bool) → eqb (cond t 0 1) 1 ≡ not t
bit-of true = refl
bit-of false = refl

-- bit k is set exactly where entry k differs
pub bit-changed : (old new : List Page) → length old ≡ length new → (k : ℕ) → k < length old
    → has_bit k (changed old new) ≡ not (eqb (get_or old k unmapped).0 (get_or new k unmapped).0)
unfolding changed
bit-changed [] new e k h = absurd (omega arith)
bit-changed (a ∷ old) [] e k h = absurd (omega arith)
bit-changed (a ∷ old) (b ∷ new) e zero h =
    let first : (changed old new * 2 + differ a b) / 1 % 2 ≡ differ a b = omega (arith, differ-le a b) in
    rw first (bit-of (same a b))
bit-changed (a ∷ old) (b ∷ new) e (suc k) h =
    let rest : (changed old new * 2 + differ a b) / 2 ^ suc k ≡ changed old new / 2 ^ k =
    ap (λ (d : ℕ). (changed old new * 2 + differ a b) / d) (pow-suc 2 k ∙ mul_comm (2 ^ k) 2)
    ∙ sym (div-div-eq-div-mul (changed old new * 2 + differ a b) 2 (2 ^ k)) ∙ ap (λ (n : ℕ). n / 2 ^ k) (high old new a b) in
    rw rest (bit-changed old new (omega arith) k (omega arith))

-- no entry before the lowest differs
pub lowest-before : (old new : List Page) (k : ℕ) → length old ≡ length new → k < lowest_changed old new
    → (get_or old k unmapped).0 ≡ (get_or new k unmapped).0
unfolding lowest_changed
lowest-before [] new k e h = absurd (omega arith)
lowest-before (a ∷ old) [] k e h = absurd (omega arith)
lowest-before (a ∷ old) (b ∷ new) k e h = go (λ j q. lowest-before old new j (omega arith) q) (same a b) refl k h
  where
    go : ((j : ℕ) → j < lowest_changed old new → (get_or old j unmapped).0 ≡ (get_or new j unmapped).0) → (t : Bool) → same a b ≡ t
        → (k : ℕ) → k < cond t (suc (lowest_changed old new)) 0
        → (get_or (a ∷ old) k unmapped).0 ≡ (get_or (b ∷ new) k unmapped).0
    go rest true s zero h = eqb-true a.0 b.0 s
    go rest true s (suc k) h = rest k (omega arith)
    go rest false s k h = absurd (omega arith)

-- the lowest itself differs, if it is an entry
pub lowest-differs : (old new : List Page) → length old ≡ length new → lowest_changed old new < length old
    → (get_or old (lowest_changed old new) unmapped).0 ≡ (get_or new (lowest_changed old new) unmapped).0 → ⊥
unfolding lowest_changed
lowest-differs [] new e h = absurd (omega arith)
lowest-differs (a ∷ old) [] e h = absurd (omega arith)
lowest-differs (a ∷ old) (b ∷ new) e h = go (λ q. lowest-differs old new (omega arith) q) (same a b) refl h
  where
    go : (lowest_changed old new < length old
        → (get_or old (lowest_changed old new) unmapped).0 ≡ (get_or new (lowest_changed old new) unmapped).0 → ⊥)
        → (t : Bool) → same a b ≡ t → cond t (suc (lowest_changed old new)) 0 < suc (length old)
        → (get_or (a ∷ old) (cond t (suc (lowest_changed old new)) 0) unmapped).0
        ≡ (get_or (b ∷ new) (cond t (suc (lowest_changed old new)) 0) unmapped).0 → ⊥
    go rest true s h = rest (omega arith)
    go rest false s h = eqb-false a.0 b.0 s

-- the law whole, for tables of any length
pub record Tied (old new : List Page) : Type 0 where
  pub bits : (k : ℕ) → k < length old → has_bit k (changed old new) ≡ not (eqb (get_or old k unmapped).0 (get_or new k unmapped).0)
  pub above : changed old new < 2 ^ length old
  pub count : ones (changed old new) ≡ count_changed old new
  pub lowest : count_trailing_zeros (length old) (changed old new) ≡ lowest_changed old new
  pub before : (k : ℕ) → k < lowest_changed old new → (get_or old k unmapped).0 ≡ (get_or new k unmapped).0
  pub differs : lowest_changed old new < length old
      → (get_or old (lowest_changed old new) unmapped).0 ≡ (get_or new (lowest_changed old new) unmapped).0 → ⊥

pub tied : (old new : List Page) → length old ≡ length new → Tied old new
tied old new e =
    record {
      bits = bit-changed old new e;
      above = changed-lt old new;
      count = ones-changed old new;
      lowest = lowest-changed old new;
      before = λ k. lowest-before old new k e;
      differs = lowest-differs old new e;
    }
