-- Laws of a test of each index below a number, and of tests joined by `&&`.
use Prim.Native.Nat.{ℕ, zero, suc, ◌+◌, ◌≤◌, ◌<◌}
use mathlib.Core.Path.{◌≡◌, refl}
use mathlib.Core.Bool.{Bool, true, false, ◌&&◌}
use borrow.Author.Tests.{leb-true}
use lib.Dec.{leb}
use mathlib.Core.Logic.{◌⊎◌, inl, inr}
use native.Mathlib.Nat.{eq-or-lt_of_le}
use native.Mathlib.Numerals.{add-one}
use native.Mathlib.Omega.{arith}
use Rattle.limits.specs.Every.{every}

pub and_left : (a b : Bool) → a && b ≡ true → a ≡ true
and_left true b e = refl
and_left false b e = e

pub and_right : (a b : Bool) → a && b ≡ true → b ≡ true
and_right true b e = e
and_right false b e = let z : ◌≡◌ {A = ℕ} 0 1 = cc in absurd (omega arith)

-- tests of numbers, the first of several: what it says, and what the others do
pub at_most : (m n : ℕ) (b : Bool) → leb m n && b ≡ true → (m ≤ n) × (b ≡ true)
at_most m n b e = (leb-true m n (and_left (leb m n) b e), and_right (leb m n) b e)

pub first_of : (a b : Bool) → a && b ≡ true → (a ≡ true) × (b ≡ true)
first_of a b e = (and_left a b e, and_right a b e)

pub both : (a b : Bool) → a ≡ true → b ≡ true → a && b ≡ true
both a b p q = rw (p, q)

-- each index below n passes
pub every-at : (n : ℕ) (p : ℕ → Bool) → every n p ≡ true → (i : ℕ) → i < n → p i ≡ true
unfolding every
every-at zero p e i h = absurd (omega arith)
every-at (suc n) p e i h = by (every-at n p (and_left (every n p) (p n) e) i) (eq-or-lt_of_le {n = i} {m = n} (omega arith))
  where
    by : (i < n → p i ≡ true) → (i ≡ n) ⊎ (i < n) → p i ≡ true
    by ih (inl q) = rw q (and_right (every n p) (p n) e)
    by ih (inr l) = ih l

pub every-all : (n : ℕ) (p : ℕ → Bool) → ((i : ℕ) → i < n → p i ≡ true) → every n p ≡ true
unfolding every
every-all zero p h = refl
every-all (suc n) p h = both (every n p) (p n) (every-all n p (λ i l. h i (omega arith))) (h n (omega arith))

-- one test more, whether or not it passes
pub every-next : (n : ℕ) (p : ℕ → Bool) (a b : Bool) → a ≡ every n p → b ≡ p n → a && b ≡ every (n + 1) p
unfolding every
every-next n p a b e f = rw (add-one n, e, f)
