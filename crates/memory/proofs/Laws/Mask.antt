-- A mask as a loop makes it, from the last entry down. Assumes nothing.
use Prim.Native.Nat.{ℕ, zero, suc, ◌+◌, ◌-◌, ◌*◌, ◌^◌, ◌≤◌, ◌<◌}
use mathlib.Core.Path.{◌≡◌, refl}
use mathlib.Core.Bool.{Bool, true, false, cond}
use native.Mathlib.Omega.{arith}
use native.Mathlib.Nat.{pow-suc}
use native.Mathlib.Numerals.{sub-one}
use mir.Val.{bool_byte}
use Rattle.memory.specs.Mask.{mask_from}

-- the bit that a test makes
pub bit_of : (b : Bool) → bool_byte b ≡ cond b 1 0
bit_of true = refl
bit_of false = refl

pub bit_le : (b : Bool) → bool_byte b ≤ 1
bit_le true = omega arith
bit_le false = omega arith

-- the mask of the entries from i on fits their number of bits, and so does the next
pub mask-room : (count i m : ℕ) (b : Bool) → 0 < i → i ≤ count → m < 2 ^ (count - i)
    → m * 2 + bool_byte b < 2 ^ (count - (i - 1))
mask-room count i m b some within room =
    let e : count - (i - 1) ≡ suc (count - i) = omega arith in
    rw (e, pow-suc) (omega (arith, bit_le b))

-- one more entry at the front
pub mask-next : (p : ℕ → Bool) (count i m : ℕ) → 0 < i → i ≤ count → m ≡ mask_from p i (count - i)
    → m * 2 + bool_byte (p (i - 1)) ≡ mask_from p (i - 1) (count - (i - 1))
unfolding mask_from
mask-next p count zero m some within made = absurd (omega arith)
mask-next p count (suc k) m some within made =
    let e : count - k ≡ suc (count - suc k) = omega arith in
    rw (sub-one, e, made, bit_of (p k))
