-- S14: a signed level of a byte fits an i16.
use Rattle.std.proofs.Common.{◌≡◌, ℕ, zero, suc, ◌+◌, ◌-◌, ◌*◌, ◌<◌, ◌≤◌, Bool, true, false, cond, ltb, ℤ, pos, negsuc, ◌*ℤ◌, neg_ℤ, nat_abs, refl, mul-le-mul, arith, w16, SFits, to_z}
use lib.IntN.{sub_ℕ}
use lib.Signed.{mag}
use mir.ValLaws.{to_z-of_z}
use Rattle.sound_wave.specs.Channel.{signed_of}

neg-size : (n : ℕ) → nat_abs (neg_ℤ (pos n)) ≡ n
neg-size zero = refl
neg-size (suc n) = refl

pub mag-size : (z : ℤ) → mag z ≤ nat_abs z
mag-size (pos n) = omega arith
mag-size (negsuc n) = omega arith

-- a byte's number as an i16
pub small_pos : (n : ℕ) → n < 256 → to_z w16 n ≡ pos n
small_pos n h = to_z-of_z w16 (pos n) (record { sfits = omega arith })

pub centred-fits : (n : ℕ) → n < 256 → SFits w16 (sub_ℕ n 8)
centred-fits n h = go (ltb n 8)
  where
    go : (b : Bool) → SFits w16 (cond b (negsuc (8 - suc n)) (pos (n - 8)))
    go true = record { sfits = omega arith }
    go false = record { sfits = omega arith }

-- at k = 8 the nibble is a nibble and the size at most 120; at k = 248 it is any byte
pub signed-size : (n v k : ℕ) → n < k + 8 → 8 ≤ k → v < 16 → nat_abs (signed_of n v) ≤ k * 15
unfolding signed_of
signed-size n v k h e l = go (ltb n 8)
  where
    go : (b : Bool) → nat_abs (cond b (negsuc (8 - suc n)) (pos (n - 8)) *ℤ pos v) ≤ k * 15
    go true = rw (neg-size (suc (8 - suc n) * v)) (mul-le-mul {n₂ = k} {m₂ = 15} (omega arith) (omega arith))
    go false = mul-le-mul {n₂ = k} {m₂ = 15} (omega arith) (omega arith)

pub signed-fits : (n v : ℕ) → n < 256 → v < 16 → SFits w16 (signed_of n v)
signed-fits n v h l = record { sfits = omega (arith, mag-size (signed_of n v), signed-size n v 248 (omega arith) (omega arith) l) }
