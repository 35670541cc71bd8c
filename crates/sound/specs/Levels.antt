-- Whole numbers as floats, and back. Channel outputs are such floats: S6, S14, R11.
use Rattle.std.specs.Prelude.{ℕ, ◌+◌, ◌-◌, ◌/◌, ◌%◌, ◌^◌, Bool, true, false, cond, ltb, ℤ, pos, negsuc, Float}
use Rattle.std.specs.Float.{binary32}
use Rattle.std.specs.Float.Ieee.{of_int}

-- a whole number of either sign as a float
abbrev pub whole_z : ℤ → Float
whole_z z = of_int binary32 z

-- and one that is not below zero
abbrev pub whole : ℕ → Float
whole k = whole_z (pos k)

-- whether a whole number is below zero
abbrev pub is_neg : ℤ → Bool
is_neg (pos n) = false
is_neg (negsuc n) = true

-- H1: the whole part of the float with these bits, for bits of at most those of 3825
unfoldable pub whole_part : ℕ → ℕ
whole_part b = cond (ltb b 0x3F800000) 0 ((2 ^ 23 + b % 2 ^ 23) / 2 ^ (150 - b / 2 ^ 23))
