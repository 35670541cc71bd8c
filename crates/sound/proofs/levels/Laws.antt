-- Whole numbers as floats: their values, the same ranges as numbers and as values, and the bits of those below zero.
use Prim.Native.Nat.{ℕ, suc, ◌+◌, ◌-◌, ◌*◌, ◌/◌, ◌%◌, ◌^◌, ◌≤◌, ◌<◌}
use mathlib.Core.Path.{◌≡◌, refl, sym, ap, ◌∙◌}
use mathlib.Core.Bool.{Bool, true, false, not}
use native.Mathlib.Nat.{mul-one, mul-pos, mul-le-mul_right, le_of_mul-le-mul_right, le_trans, le_of_eq, lt_of_le_of_lt, div-le_self}
use native.Mathlib.Omega.{arith}
use lib.Dec.{T, ltb}
use lib.IntN.{ℤ, pos, negsuc, nat_abs}
use lib.Ieee.{Float, nan, inf, fin, binary32, up, down, neg, of_int, of_bits, to_bits, is_nan}
use lib.Ieee.Exact.{HasValue}
use lib.Ieee.Back.{round_whole}
use lib.Ieee.Fits.{down_pos}
use lib.Ieee.Positive.{first_pos}
use Rattle.limits.specs.Limits.{minus_zero}
use Rattle.sound.specs.Levels.{whole, whole_z, is_neg, whole_part}
use Rattle.sound.specs.Range.{OutBetween, WholeIn}
use Rattle.sound.proofs.Floats.Sign.{round-neg, sign-bits}

pub zero_bits : of_bits binary32 0 ≡ whole 0
unfolding of_bits of_int
zero_bits = refl

-- ---- values

-- a float that is a / c in size, with the sign s, by its parts
pub record Value (x : Float) (s : Bool) (a c : ℕ) : Type 0 where
  pub mantissa : ℕ
  pub exponent : ℤ
  pub is : x ≡ fin s mantissa exponent
  pub value : mantissa * up exponent * c ≡ a * down exponent

pub valued : (x : Float) (s : Bool) (a c : ℕ) → HasValue x s a c → Value x s a c
valued nan s a c p = absurd p
valued (inf t) s a c p = absurd p
valued (fin t m e) s a c p = record { mantissa = m; exponent = e; is = ap (λ (b : Bool). fin b m e) p.0; value = p.1 }

pub at_one : {x : Float} {s : Bool} {a : ℕ} (u : Value x s a 1) → u.mantissa * up u.exponent ≡ a * down u.exponent
at_one u = sym (mul-one _) ∙ u.value

-- a whole number up to 2 ^ 24 is its own float
pub whole-value : (z : ℤ) → nat_abs z ≤ 2 ^ 24 → HasValue (whole_z z) (is_neg z) (nat_abs z) 1
unfolding of_int
whole-value (pos n) h = round_whole binary32 false n h
whole-value (negsuc n) h = round_whole binary32 true (suc n) h

pub whole_parts : (z : ℤ) → nat_abs z ≤ 2 ^ 24 → Value (whole_z z) (is_neg z) (nat_abs z) 1
whole_parts z h = valued (whole_z z) (is_neg z) (nat_abs z) 1 (whole-value z h)

pub whole-number : (z : ℤ) → nat_abs z ≤ 2 ^ 24 → T (not (is_nan (whole_z z)))
unfolding is_nan
whole-number z h = rw (whole_parts z h).is tt

-- ---- in a range as numbers and as values

pub whole-between : (l h : ℕ) (z : ℤ) → nat_abs z ≤ 2 ^ 24 → WholeIn l h z → OutBetween l h (whole_z z)
whole-between l h (pos a) n w =
    let u = whole_parts (pos a) n in
    rw u.is (le_trans (le_of_eq (at_one u)) (mul-le-mul_right (down u.exponent) w))
whole-between l h (negsuc a) n w =
    let u = whole_parts (negsuc a) n in
    rw u.is (
      first_pos u.mantissa (up u.exponent) (rw (at_one u) (mul-pos {m = suc a} (omega arith) (down_pos u.exponent))),
      le_trans (le_of_eq (at_one u)) (mul-le-mul_right (down u.exponent) w),
    )

pub between-whole : (l h : ℕ) (z : ℤ) → nat_abs z ≤ 2 ^ 24 → OutBetween l h (whole_z z) → WholeIn l h z
between-whole l h (pos a) n b =
    let u = whole_parts (pos a) n in
    let v = rw u.is at b in
    le_of_mul-le-mul_right (le_trans (le_of_eq (sym (at_one u))) v) (down_pos u.exponent)
between-whole l h (negsuc a) n b =
    let u = whole_parts (negsuc a) n in
    let v = rw u.is at b in
    le_of_mul-le-mul_right (le_trans (le_of_eq (sym (at_one u))) v.1) (down_pos u.exponent)

-- ---- bits

-- below zero: those of the size, and the sign
pub minus-bits : (n : ℕ) → suc n ≤ 2 ^ 24 → to_bits binary32 (whole_z (negsuc n)) ≡ minus_zero + to_bits binary32 (whole (suc n))
unfolding of_int neg
minus-bits n h =
    let u = whole_parts (pos (suc n)) h in
    rw (round-neg binary32 (suc n) 1, u.is) (sign-bits u.mantissa u.exponent)

pub part-lt : (b : ℕ) → whole_part b < 2 ^ 24
unfolding whole_part
part-lt b = by (ltb b 0x3F800000) refl
  where
    by : (t : Bool) → ltb b 0x3F800000 ≡ t → whole_part b < 2 ^ 24
    by true e = rw e (omega arith)
    by false e =
        rw e (lt_of_le_of_lt (div-le_self (2 ^ 23 + b % 2 ^ 23) (2 ^ (150 - b / 2 ^ 23))) (omega arith))
