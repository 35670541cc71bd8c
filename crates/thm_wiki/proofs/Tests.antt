-- Laws of tests. Assumes nothing.
use Prim.Native.Nat.{ℕ, ◌≤◌, ◌<◌}
use mathlib.Core.Path.{◌≡◌, refl, sym, ap}
use mathlib.Core.Bool.{Bool, true, false, cond, not, ◌||◌}
use mathlib.Core.Logic.{◌⊎◌, inl, inr}
use native.Mathlib.Omega.{arith}
use borrow.Author.Tests.{leb-true, leb-false}
use lib.Dec.{leb}

-- two tests that hold together are the same
pub same_test : (a b : Bool) → (a ≡ true → b ≡ true) → (a ≡ false → b ≡ false) → a ≡ b
same_test true b p q = sym (p refl)
same_test false b p q = sym (q refl)

-- a test between a thing and itself
pub cond_same : {A : Type 0} (t : Bool) (x : A) → cond t x x ≡ x
cond_same true x = refl
cond_same false x = refl

pub le-or-lt : (m n : ℕ) → (m ≤ n) ⊎ (n < m)
le-or-lt m n = go (leb m n) refl
  where
    go : (b : Bool) → leb m n ≡ b → (m ≤ n) ⊎ (n < m)
    go true e = inl (leb-true m n e)
    go false e = inr (leb-false m n e)

-- true is not false
digit : Bool → ℕ
digit true = 1
digit false = 0

pub never : {A : Type 0} → true ≡ false → A
unfolding digit
never e = let u : ◌≡◌ {A = ℕ} 1 0 = ap digit e in absurd (omega (arith, u))

pub or_left : (a b : Bool) → a || b ≡ false → a ≡ false
or_left true b e = never e
or_left false b e = refl

pub or_right : (a b : Bool) → a || b ≡ false → b ≡ false
or_right true b e = never e
or_right false b e = e

pub not-not : (a : Bool) → not a ≡ false → a ≡ true
not-not true e = refl
not-not false e = never e
