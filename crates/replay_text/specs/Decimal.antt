-- A number as decimal digits, the highest first, with no zero before another digit.
use Rattle.std.specs.Prelude.{ℕ, zero, suc, ◌+◌, ◌/◌, ◌%◌, cond, List, [], ◌∷◌, ◌++◌, ltb}

-- of a number below 10 ^ (k + 1)
unfoldable pub decimal_in : ℕ → ℕ → List ℕ
decimal_in zero n = (48 + n) ∷ []
decimal_in (suc k) n = cond (ltb n 10) ((48 + n) ∷ []) (decimal_in k (n / 10) ++ ((48 + n % 10) ∷ []))

-- of 64 bits: 2 ^ 64 is below 10 ^ 20
abbrev pub decimal_of : ℕ → List ℕ
decimal_of n = decimal_in 19 n
