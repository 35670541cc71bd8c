-- The bits of finite floats of one sign are strictly in the order of their sizes, so a range of values is a range of bits, both ways: R11's
-- ranges of `out` as values and as bits.
use Prim.Native.Nat.{ℕ, zero, suc, ◌+◌, ◌-◌, ◌*◌, ◌/◌, ◌%◌, ◌^◌, ◌≤◌, ◌<◌}
use mathlib.Core.Path.{◌≡◌, refl, sym, ap, ◌∙◌, subst}
use mathlib.Core.Logic.{◌⊎◌, inl, inr, ⊎_elim}
use mathlib.Core.Bool.{Bool, true, false, not, cond, true≢false}
use native.Mathlib.Nat.{mul-one, mul_assoc, mul_right_comm, mul-le-mul_left, mul-le-mul_right, mul-lt-mul_of_pos_right, le_of_mul-le-mul_right, le_trans, le_of_eq, lt_of_lt_of_le, eq-or-lt_of_le, zero-mul, mul-pos}
use native.Mathlib.Omega.{arith}
use lib.Dec.{T, eqb, leb, ltb, ltb→lt, lt→ltb}
use lib.Pow.{pow_pos, pow-add, pow_mono}
use lib.IntN.{ℤ}
use lib.Ieee.{Float, nan, inf, fin, binary32, up, down, of_bits, of_fields, to_bits, is_nan, fits}
use lib.Ieee.Exact.{HasValue, odd_sign}
use lib.Ieee.Bits.{of_bits-to_bits, to_bits-lt}
use lib.Ieee.Fits.{up_pos, down_pos}
use lib.Ieee.Positive.{first_pos}
use borrow.Author.Tests.{ne_eqb, lt-leb, le-leb, eqb-true, eqb-false, leb-true, leb-false}
use Rattle.sound.specs.Range.{level_low, level_high, times_of, out_low, out_high, BitsIn, OutInRange, OutBetween, OutValue}

-- the size that an exponent's field and the digits stand for, in units of 2 ^ -149
abbrev size_of : ℕ → ℕ → ℕ
size_of zero t = t
size_of (suc x) t = (8388608 + t) * 2 ^ x

-- of bits without the sign
abbrev pub units_of : ℕ → ℕ
units_of b = size_of (b / 8388608) (b % 8388608)

size-under : (x t : ℕ) → t < 8388608 → size_of x t < 8388608 * 2 ^ x
size-under zero t h = omega arith
size-under (suc x) t h =
    let o : suc x ≡ 1 + x = omega arith in
    let e : 8388608 * 2 ^ suc x ≡ 16777216 * 2 ^ x =
    ap (λ (y : ℕ). 8388608 * 2 ^ y) o ∙ ap (λ (y : ℕ). 8388608 * y) (pow-add 2 1 x) ∙ sym (mul_assoc 8388608 2 (2 ^ x)) in
    rw e (mul-lt-mul_of_pos_right (omega arith) (pow_pos x))

size-over : (x t : ℕ) → 8388608 * 2 ^ x ≤ size_of (suc x) t
size-over x t = mul-le-mul_right (2 ^ x) (omega arith)

-- the same field, and more digits
size-digits : (x t u : ℕ) → t < u → size_of x t < size_of x u
size-digits zero t u h = h
size-digits (suc x) t u h = mul-lt-mul_of_pos_right (omega arith) (pow_pos x)

size-fields : (x t y u : ℕ) → t < 8388608 → x < y → size_of x t < size_of y u
size-fields x t zero u h l = absurd (omega arith)
size-fields x t (suc y) u h l =
    lt_of_lt_of_le (size-under x t h) (le_trans (mul-le-mul_left 8388608 (pow_mono {i = x} {j = y} (omega arith))) (size-over y u))

pub units-strict : (b c : ℕ) → b < c → units_of b < units_of c
units-strict b c h =
    ⊎_elim
    (λ (e : b / 8388608 ≡ c / 8388608). rw e (size-digits (c / 8388608) (b % 8388608) (c % 8388608) (omega arith)))
    (λ (l : b / 8388608 < c / 8388608). size-fields (b / 8388608) (b % 8388608) (c / 8388608) (c % 8388608) (omega arith) l)
    (eq-or-lt_of_le {n = b / 8388608} {m = c / 8388608} (omega arith))

units_mono : (b c : ℕ) → b ≤ c → units_of b ≤ units_of c
units_mono b c h =
    ⊎_elim (λ (e : b ≡ c). rw e (omega arith)) (λ (l : b < c). let s = units-strict b c l in omega arith) (eq-or-lt_of_le h)

units-back : (b c : ℕ) → units_of b ≤ units_of c → b ≤ c
units-back b c h = go (leb b c) refl
  where
    go : (t : Bool) → leb b c ≡ t → b ≤ c
    go true e = leb-true b c e
    go false e = absurd (let s = units-strict c b (leb-false b c e) in omega arith)

-- ---- the float of some bits has that size

fields_value : (s : Bool) (x t : ℕ) → (x ≡ 255 → ⊥) → HasValue (of_fields binary32 s x t) s (size_of x t) (2 ^ 149)
unfolding of_fields
fields_value s zero t n = subst (λ (y : ℕ). HasValue (of_fields binary32 s 0 t) s y (2 ^ 149)) (mul-one t) (odd_sign 24 s t 0 149)
fields_value s (suc x) t n = rw (ne_eqb (suc x) 255 n) (odd_sign 24 s (8388608 + t) x 149)

-- ---- from a value to bits

no_number : (s : Bool) (t : ℕ) (u : Bool) (m : ℕ) (e : ℤ) → of_fields binary32 s 255 t ≡ fin u m e → ⊥
unfolding of_fields
no_number s t u m e h = go (eqb t 0) h
  where
    go : (z : Bool) → cond z (inf s) nan ≡ fin u m e → ⊥
    go true h = let o : ◌≡◌ {A = ℕ} 0 1 = cc in omega arith
    go false h = let o : ◌≡◌ {A = ℕ} 0 1 = cc in omega arith

-- what the bits of a finite float say of its sign and size
pub record Split (b : ℕ) (s : Bool) (m : ℕ) (e : ℤ) : Type 0 where
  pub sign : leb 2147483648 b ≡ s
  pub value : m * up e * 2 ^ 149 ≡ units_of (b % 2147483648) * down e

split : (b : ℕ) (s : Bool) (m : ℕ) (e : ℤ) → of_bits binary32 b ≡ fin s m e → Split b s m e
unfolding of_bits
split b s m e h = go (eqb (b % 2147483648 / 8388608) 255) refl
  where
    go : (z : Bool) → eqb (b % 2147483648 / 8388608) 255 ≡ z → Split b s m e
    go true z = absurd (no_number (leb 2147483648 b) (b % 8388608) s m e (rw (eqb-true (b % 2147483648 / 8388608) 255 z) at h))
    go false z =
        let v : HasValue (fin s m e) (leb 2147483648 b) (size_of (b % 2147483648 / 8388608) (b % 8388608)) (2 ^ 149) =
        rw h at (fields_value (leb 2147483648 b) (b % 2147483648 / 8388608) (b % 8388608) (eqb-false (b % 2147483648 / 8388608) 255 z)) in
        let d : b % 2147483648 % 8388608 ≡ b % 8388608 = omega arith in
        record { sign = sym v.0; value = rw d v.1 }

-- a number with a size above zero has bits above zero
above_zero : (b X d : ℕ) → 0 < X → X ≡ units_of b * d → 0 < b
above_zero zero X d p e = absurd (omega (arith, zero-mul d))
above_zero (suc b) X d p e = omega arith

under : (m : ℕ) (e : ℤ) (u n : ℕ) → m * up e * 2 ^ 149 ≡ u * down e → u ≤ n * 2 ^ 149 → m * up e ≤ n * down e
under m e u n v q =
    le_of_mul-le-mul_right
    (le_trans (le_of_eq v) (le_trans (mul-le-mul_right (down e) q) (le_of_eq (mul_right_comm n (2 ^ 149) (down e)))))
    (pow_pos 149)

module _ (l h lo hi : ℕ) (low : units_of lo ≡ l * 2 ^ 149) (high : units_of hi ≡ h * 2 ^ 149) where
  -- size · down is at most bound · down
  below : (m : ℕ) (e : ℤ) (b k n : ℕ) → m * up e * 2 ^ 149 ≡ units_of b * down e → m * up e ≤ n * down e → units_of k ≡ n * 2 ^ 149 → b ≤ k
  below m e b k n v q w =
      units-back b k
      (le_of_mul-le-mul_right
      (le_trans (le_of_eq (sym v)) (le_trans (mul-le-mul_right (2 ^ 149) q) (le_of_eq (mul_right_comm n (down e) (2 ^ 149) ∙ ap (λ (y : ℕ). y * down e) (sym w)))))
      (down_pos e))

  pub between-bits : (x : Float) → T (fits binary32 x) → OutBetween l h x → BitsIn lo hi (to_bits binary32 x)
  between-bits nan f v = absurd v
  between-bits (inf s) f v = absurd v
  between-bits (fin false m e) f v =
      let b = to_bits binary32 (fin false m e) in
      let s = split b false m e (of_bits-to_bits binary32 (fin false m e) f) in
      let n = leb-false 2147483648 b s.sign in
      inl (omega (arith, below m e (b % 2147483648) hi h s.value v high))
  between-bits (fin true m e) f v =
      let b = to_bits binary32 (fin true m e) in
      let s = split b true m e (of_bits-to_bits binary32 (fin true m e) f) in
      let n = leb-true 2147483648 b s.sign in
      let t = to_bits-lt binary32 (fin true m e) f in
      let k = below m e (b % 2147483648) lo l s.value v.1 low in
      let p : 0 < b % 2147483648 = above_zero (b % 2147483648) (m * up e * 2 ^ 149) (down e)
      (mul-pos (mul-pos v.0 (up_pos e)) (pow_pos 149)) s.value in
      inr (omega arith, omega arith)

  -- ---- from bits to a value

  value-between : (x : Float) (s : Bool) (b : ℕ) → HasValue x s (units_of b) (2 ^ 149) → units_of b ≤ cond s l h * 2 ^ 149 → T (cond s (ltb 0 (units_of b)) true)
      → OutBetween l h x
  value-between nan s b v q z = absurd v
  value-between (inf t) s b v q z = absurd v
  value-between (fin false m e) true b v q z = absurd (true≢false (sym v.0))
  value-between (fin true m e) false b v q z = absurd (true≢false v.0)
  value-between (fin false m e) false b v q z = under m e (units_of b) h v.1 q
  value-between (fin true m e) true b v q z =
      (first_pos m (up e) (first_pos (m * up e) (2 ^ 149) (rw v.1 (mul-pos (ltb→lt 0 (units_of b) z) (down_pos e)))), under m e (units_of b) l v.1 q)

  pub bits-between : (b : ℕ) → hi < 2139095040 → lo < 2139095040 → BitsIn lo hi b → OutBetween l h (of_bits binary32 b)
  unfolding of_bits
  bits-between b H L (inl q) =
      let d : b % 2147483648 ≡ b = omega arith in
      value-between (of_bits binary32 b) false b
      (rw (lt-leb 2147483648 b (omega arith), d) (fields_value false (b / 8388608) (b % 8388608) (λ e. omega arith)))
      (le_trans (units_mono b hi q) (le_of_eq high)) tt
  bits-between b H L (inr q) =
      let c = b % 2147483648 in
      let d : b % 8388608 ≡ c % 8388608 = omega arith in
      value-between (of_bits binary32 b) true c
      (rw (le-leb 2147483648 b (omega arith), d) (fields_value true (c / 8388608) (c % 8388608) (λ e. omega arith)))
      (le_trans (units_mono c lo (omega arith)) (le_of_eq low))
      (lt→ltb 0 (units_of c) (units-strict 0 c (omega arith)))

-- ---- the ends by the choice

low-units : (signed plain : Bool) → units_of (out_low signed plain) ≡ level_low signed * times_of plain * 2 ^ 149
unfolding out_low
low-units true true = refl
low-units true false = refl
low-units false true = refl
low-units false false = refl

high-units : (signed plain : Bool) → units_of (out_high signed plain) ≡ level_high signed * times_of plain * 2 ^ 149
unfolding out_high
high-units true true = refl
high-units true false = refl
high-units false true = refl
high-units false false = refl

-- they are those of numbers, below the bits of infinity
pub low-finite : (signed plain : Bool) → out_low signed plain < 2139095040
unfolding out_low
low-finite true true = omega arith
low-finite true false = omega arith
low-finite false plain = omega arith

pub high-finite : (signed plain : Bool) → out_high signed plain < 2139095040
unfolding out_high
high-finite true true = omega arith
high-finite true false = omega arith
high-finite false true = omega arith
high-finite false false = omega arith

between-number : (l h : ℕ) (x : Float) → OutBetween l h x → T (not (is_nan x))
unfolding is_nan
between-number l h nan v = absurd v
between-number l h (inf s) v = absurd v
between-number l h (fin s m e) v = tt

module _ (signed plain : Bool) where
  -- a value in range has bits in range
  pub value_out : (x : Float) → T (fits binary32 x) → OutValue signed plain x → OutInRange signed plain x
  value_out x f v =
      record {
        number = between-number _ _ x v;
        bits = between-bits _ _ (out_low signed plain) (out_high signed plain) (low-units signed plain) (high-units signed plain) x f v;
      }

  -- and bits in range are those of a value in range
  pub bits-value : (b : ℕ) → BitsIn (out_low signed plain) (out_high signed plain) b → OutValue signed plain (of_bits binary32 b)
  bits-value b =
      bits-between _ _ (out_low signed plain) (out_high signed plain) (low-units signed plain) (high-units signed plain) b
      (high-finite signed plain) (low-finite signed plain)

  pub out-value : (x : Float) → T (fits binary32 x) → OutInRange signed plain x → OutValue signed plain x
  out-value x f r = rw (of_bits-to_bits binary32 x f) at (bits-value (to_bits binary32 x) r.bits)
