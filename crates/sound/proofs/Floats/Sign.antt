-- A rounding with the sign clear is no NaN and no negative zero; with the sign set it is the same, negated; and the sign is one bit.
use Prim.Native.Nat.{ℕ, zero, suc, ◌+◌, ◌*◌, ◌^◌}
use mathlib.Core.Path.{◌≡◌, refl}
use mathlib.Core.Bool.{Bool, true, false, not, cond}
use native.Mathlib.Omega.{arith}
use lib.Dec.{T, ltb}
use lib.IntN.{ℤ}
use lib.Ieee.{Float, nan, inf, fin, Format, binary32, prec, low, emax, up, down, neg, mul, round, units, odd, to_bits, is_nan}
use Rattle.limits.specs.Limits.{minus_zero}

-- no NaN, and the sign is clear
abbrev pub Plus : Float → Type 0
Plus nan = ⊥
Plus (inf s) = s ≡ false
Plus (fin s m e) = s ≡ false

odd-plus : (d q k l : ℕ) → Plus (odd d false q k l)
unfolding odd
odd-plus d zero k l = refl
odd-plus d (suc q) k l = refl

units-plus : (f : Format) (q k : ℕ) → Plus (units f false q k)
unfolding units
units-plus f q k = go (ltb (q * 2 ^ k) (2 ^ (low f + suc (emax f))))
  where
    go : (b : Bool) → Plus (cond b (odd (suc (prec f)) false q k (low f)) (inf false))
    go true = odd-plus (suc (prec f)) q k (low f)
    go false = refl

pub round-plus : (f : Format) (a c : ℕ) → Plus (round f false a c)
unfolding round
round-plus f a c = units-plus f _ _

pub mul-plus : (f : Format) (m : ℕ) (e : _) (n : ℕ) (d : _) → Plus (mul f (fin false m e) (fin false n d))
unfolding mul
mul-plus f m e n d = round-plus f (m * up e * (n * up d)) (down e * down d)

pub plus-number : (x : Float) → Plus x → T (not (is_nan x))
unfolding is_nan
plus-number nan p = absurd p
plus-number (inf s) p = tt
plus-number (fin s m e) p = tt

-- ---- the other sign

odd-neg : (d q k l : ℕ) → odd d true q k l ≡ neg (odd d false q k l)
unfolding odd neg
odd-neg d zero k l = refl
odd-neg d (suc q) k l = refl

units-neg : (f : Format) (q k : ℕ) → units f true q k ≡ neg (units f false q k)
unfolding units neg
units-neg f q k = go (ltb (q * 2 ^ k) (2 ^ (low f + suc (emax f))))
  where
    go : (b : Bool)
        → cond b (odd (suc (prec f)) true q k (low f)) (inf true) ≡ neg (cond b (odd (suc (prec f)) false q k (low f)) (inf false))
    go true = odd-neg (suc (prec f)) q k (low f)
    go false = refl

pub round-neg : (f : Format) (a c : ℕ) → round f true a c ≡ neg (round f false a c)
unfolding round
round-neg f a c = units-neg f _ _

neg-number : (x : Float) → Plus x → T (not (is_nan (neg x)))
unfolding is_nan neg
neg-number nan p = absurd p
neg-number (inf s) p = tt
neg-number (fin s m e) p = tt

-- no rounding is a NaN
pub round_number : (f : Format) (s : Bool) (a c : ℕ) → T (not (is_nan (round f s a c)))
round_number f false a c = plus-number _ (round-plus f a c)
round_number f true a c = rw (round-neg f a c) (neg-number _ (round-plus f a c))

pub sign-bits : (m : ℕ) (e : ℤ) → to_bits binary32 (fin true m e) ≡ minus_zero + to_bits binary32 (fin false m e)
unfolding to_bits
sign-bits m e = omega arith
