-- `out` and its bits.
use Prim.Native.Nat.{ℕ, ◌%◌, ◌^◌, ◌≤◌, ◌<◌}
use mathlib.Core.Path.{◌≡◌, ◌∙◌}
use mathlib.Core.Bool.{Bool, true, false, not}
use mathlib.Core.Logic.{inl, inr}
use native.Mathlib.Omega.{arith}
use borrow.Author.Tests.{le-ltb}
use lib.Dec.{T}
use lib.Ieee.{binary32, to_bits, of_bits, nan_bits, is_nan}
use lib.Ieee.Bits.{to_bits-of_bits, nan_bits_above}
use Rattle.limits.specs.Limits.{minus_zero}
use Rattle.limits.proofs.Every.{first_of}
use Rattle.sound.specs.Range.{out_low, out_high, bits_ok, BitsIn, out_ok, OutInRange}
use Rattle.sound.proofs.Floats.Bits.{low-finite, high-finite}
use Rattle.sound.proofs.range.Laws.{bits_in, in-out}

module _ (signed plain : Bool) where
  -- whether these are the bits of an `out` in range
  abbrev pub out_bits : ℕ → Bool
  out_bits n = bits_ok (out_low signed plain) (out_high signed plain) n

  -- bits in range are below those of an infinity, with the sign or without it
  no_nan : (n : ℕ) → out_bits n ≡ true → nan_bits binary32 n ≡ false
  no_nan n e = nan_bits_above binary32 n ∙ le-ltb 0x7F800000 (n % minus_zero) (small (bits_in (out_low signed plain) (out_high signed plain) n e))
    where
      small : BitsIn (out_low signed plain) (out_high signed plain) n → n % minus_zero ≤ 0x7F800000
      small (inl h) = omega (arith, high-finite signed plain)
      small (inr h) = omega (arith, low-finite signed plain)

  -- so they are a number's
  pub from-bits-ok : (n : ℕ) → out_bits n ≡ true → T (not (nan_bits binary32 n))
  from-bits-ok n e = rw (no_nan n e) tt

  -- bits of a float in range come back, and are in range
  pub out-back : (n : ℕ) → n < 2 ^ 32 → OutInRange signed plain (of_bits binary32 n) → to_bits binary32 (of_bits binary32 n) ≡ n
  out-back n h o = to_bits-of_bits binary32 n h o.number

  pub out-bits : (n : ℕ) → n < 2 ^ 32 → OutInRange signed plain (of_bits binary32 n) → out_bits n ≡ true
  unfolding out_ok
  out-bits n h o =
      rw (out-back n h o) at (first_of (not (is_nan (of_bits binary32 n))) _ (in-out signed plain (of_bits binary32 n) o)).1
