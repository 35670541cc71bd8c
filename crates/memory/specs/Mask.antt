-- Masks of a table's entries: a bit for each index that passes a test.
use Rattle.std.specs.Prelude.{ℕ, zero, suc, ◌+◌, ◌*◌, ◌<◌, ◌≡◌, Bool, cond}

-- bit k is the test of i + k, for n of them
unfoldable pub mask_from : (ℕ → Bool) → ℕ → ℕ → ℕ
mask_from p i zero = 0
mask_from p i (suc n) = mask_from p (suc i) n * 2 + cond (p i) 1 0

-- a test's answers are those of p, at each index below n
abbrev pub TestIs : (ℕ → Bool → Type 0) → (ℕ → Bool) → ℕ → Type 0
TestIs answers p n = (i : ℕ) (b : Bool) → i < n → answers i b → b ≡ p i
