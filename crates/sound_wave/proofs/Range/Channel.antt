-- A channel's update stays in range: its phase below 2 ^ 24, and its level in −120..=105 where levels are signed, else in 0..=3825.
use Rattle.std.proofs.Common.{◌≡◌, ℕ, zero, suc, ◌+◌, ◌-◌, ◌*◌, ◌/◌, ◌%◌, ◌<◌, ◌≤◌, Bool, true, false, cond, eqb, ltb, List, get_or, pos, negsuc, ◌*ℤ◌, neg_ℤ, refl, mod-lt, mul-le-mul, arith}
use Rattle.limits.specs.Limits.{phase_limit}
use Rattle.sound.specs.Range.{level_low, level_high, WholeIn}
use Rattle.sound_wave.specs.Channel.{frequency_at, wave_length_at, wave_address_at, volume_at, nibble_at, next_phase, signed_of, level_by, level_at}

pub next-phase-small : (ram : List ℕ) (base phase : ℕ) → get_or ram (base + 4) 0 < 256 → next_phase ram base phase < phase_limit
unfolding next_phase
next-phase-small ram base phase h =
    omega (arith, mod-lt (phase + frequency_at ram base) {m = wave_length_at ram base * 65536} (omega arith))

neg-in : (l h n : ℕ) → n ≤ l → WholeIn l h (neg_ℤ (pos n))
neg-in l h zero k = omega arith
neg-in l h (suc n) k = k

pub level_in : (s : Bool) (n v : ℕ) → n < 16 → v < 16 → WholeIn (level_low s) (level_high s) (level_by s n v)
unfolding signed_of
level_in true n v h k = go (ltb n 8) refl
  where
    go : (b : Bool) → ltb n 8 ≡ b → WholeIn 120 105 (cond b (negsuc (8 - suc n)) (pos (n - 8)) *ℤ pos v)
    go true e = neg-in 120 105 (suc (8 - suc n) * v) (mul-le-mul {n₂ = 8} {m₂ = 15} (omega arith) (omega arith))
    go false e = mul-le-mul {n₂ = 7} {m₂ = 15} (omega arith) (omega arith)
level_in false n v h k = mul-le-mul {n₂ = 255} {m₂ = 15} (omega arith) (omega arith)

nibble-small : (ram : List ℕ) (at : ℕ) → get_or ram (at / 2) 0 < 256 → nibble_at ram at < 16
unfolding nibble_at
nibble-small ram at h = go (eqb (at % 2) 1)
  where
    go : (b : Bool) → cond b (get_or ram (at / 2) 0 / 16) (get_or ram (at / 2) 0 % 16) < 16
    go true = omega arith
    go false = omega arith

pub level-small : (ram : List ℕ) (base phase : ℕ) (signed : Bool) → ((i : ℕ) → get_or ram i 0 < 256)
    → WholeIn (level_low signed) (level_high signed) (level_at ram base phase signed)
unfolding level_at
level-small ram base phase signed h =
    let at = (phase / 65536 + wave_address_at ram base) % 256 in
    level_in signed (nibble_at ram at) (volume_at ram base) (nibble-small ram at (h (at / 2))) (omega arith)
