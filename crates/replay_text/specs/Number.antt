-- Numbers: decimal digits, or a `$` and hexadecimal digits.
use Rattle.std.specs.Prelude.{ℕ, ◌+◌, ◌*◌, cond, List, [], ◌∷◌, eqb, ltb, leb, Option, Some, None}
use Rattle.std.specs.Option.{option_and_then}
use Rattle.replay_text.specs.Hex.{digit_of}

-- n with one more digit of a base: none where the digit is no digit of the base, and none from 2^64 on
abbrev pub one_more : ℕ → ℕ → ℕ → Option ℕ
one_more base n d = cond (leb base d) None (cond (ltb (n * base + d) 18446744073709551616) (Some (n * base + d)) None)

-- the number of the digits that follow those of n
unfoldable pub digits_after : ℕ → ℕ → List ℕ → Option ℕ
digits_after base n [] = Some n
digits_after base n (b ∷ s) = option_and_then (λ m. digits_after base m s) (option_and_then (one_more base n) (digit_of b))

-- the number of some digits in a base; no digits are none
unfoldable pub in_base : ℕ → List ℕ → Option ℕ
in_base base [] = None
in_base base (b ∷ s) = digits_after base 0 (b ∷ s)

-- the number that a word is: hexadecimal behind `$` (36), else decimal
unfoldable pub number_of : List ℕ → Option ℕ
number_of [] = None
number_of (b ∷ s) = cond (eqb b 36) (in_base 16 s) (in_base 10 (b ∷ s))
