-- R9, R11 of a sound state: as the test that N2 makes and as facts, side by side; and what the types of the fields say of every state.
-- proofs/range/Laws.antt has that the test and the facts say the same.
use Rattle.std.specs.Prelude.{ℕ, suc, ◌+◌, ◌*◌, ◌%◌, ◌≤◌, ◌<◌, ◌≡◌, Bool, true, false, cond, not, ◌&&◌, ◌||◌, List, ◌⊎◌, T, eqb, leb, ltb, get_or, length, ℤ, pos, negsuc, Float}
use Rattle.std.specs.Float.{nan, inf, fin, binary32}
use Rattle.std.specs.Float.Ieee.{to_bits, is_nan, fits, up, down}
use Rattle.limits.specs.Limits.{update_most, channel_most, address_most, phase_limit, minus_zero}
use Rattle.limits.specs.Limits.{level_most, signed_most, signed_least, out_most, sum_most, signed_out_most, signed_out_least}
use Rattle.limits.specs.Limits.{signed_sum_most, signed_sum_least}
use Rattle.limits.specs.Every.{every}
use Rattle.sound.specs.declared.audio.Audio.{Audio}
use Rattle.sound.specs.Levels.{whole, whole_z, whole_part}

-- ---- R11: the ends of the ranges by the choice

-- how far levels go below zero and above it
abbrev pub level_low : Bool → ℕ
level_low signed = cond signed signed_least 0

abbrev pub level_high : Bool → ℕ
level_high signed = cond signed signed_most level_most

-- as many of them may make up `out`
abbrev pub times_of : Bool → ℕ
times_of plain = cond plain 8 1

-- the bits of the least `out` without its sign, and those of the greatest; proofs/Floats/Bits.antt has that they are those of the levels'
-- ends times `times_of` (`low-units`, `high-units`)
unfoldable pub out_low : Bool → Bool → ℕ
out_low signed plain = cond signed (cond plain signed_sum_least signed_out_least) 0

unfoldable pub out_high : Bool → Bool → ℕ
out_high signed plain = cond signed (cond plain signed_sum_most signed_out_most) (cond plain sum_most out_most)

-- ---- `out`: no NaN, and bits up to those of the greatest, or behind those of negative zero up to those of the least

abbrev pub bits_ok : ℕ → ℕ → ℕ → Bool
bits_ok low high b = leb b high || (ltb minus_zero b && leb b (minus_zero + low))

abbrev pub BitsIn : ℕ → ℕ → ℕ → Type 0
BitsIn low high b = (b ≤ high) ⊎ ((minus_zero < b) × (b ≤ minus_zero + low))

unfoldable pub out_ok : Bool → Bool → Float → Bool
out_ok signed plain x = not (is_nan x) && bits_ok (out_low signed plain) (out_high signed plain) (to_bits binary32 x)

pub record OutInRange (signed plain : Bool) (x : Float) : Type 0 where
  pub number : T (not (is_nan x))
  pub bits : BitsIn (out_low signed plain) (out_high signed plain) (to_bits binary32 x)

-- the same as a value: finite, from −low to high, and no negative zero
abbrev pub OutBetween : ℕ → ℕ → Float → Type 0
OutBetween low high nan = ⊥
OutBetween low high (inf s) = ⊥
OutBetween low high (fin false m e) = m * up e ≤ high * down e
OutBetween low high (fin true m e) = (0 < m) × (m * up e ≤ low * down e)

abbrev pub OutValue : Bool → Bool → Float → Type 0
OutValue signed plain = OutBetween (level_low signed * times_of plain) (level_high signed * times_of plain)

-- ---- channel outputs: the range of an average, and the float of its size's whole part has the bits of its size

abbrev pub size_bits : Float → ℕ
size_bits x = to_bits binary32 x % minus_zero

unfoldable pub level_ok : Bool → Float → Bool
level_ok signed x = out_ok signed false x && eqb (to_bits binary32 (whole (whole_part (size_bits x)))) (size_bits x)

-- a whole number from −low to high
abbrev pub WholeIn : ℕ → ℕ → ℤ → Type 0
WholeIn low high (pos n) = n ≤ high
WholeIn low high (negsuc n) = suc n ≤ low

pub record Level (signed : Bool) (x : Float) : Type 0 where
  pub number : ℤ
  pub within : WholeIn (level_low signed) (level_high signed) number
  pub is : x ≡ whole_z number

-- the test of channel i's output, and the eight outputs
abbrev pub output_test : Bool → List Float → ℕ → Bool
output_test signed outs i = level_ok signed (get_or outs i nan)

abbrev pub Levels : Bool → List Float → Type 0
Levels signed outs = (i : ℕ) → i < 8 → Level signed (get_or outs i nan)

-- ---- phases: R9, the test of channel i's phase, and all phases

abbrev pub phase_test : List ℕ → ℕ → Bool
phase_test phases i = ltb (get_or phases i 0) phase_limit

abbrev pub Phases : List ℕ → Type 0
Phases phases = (i : ℕ) → get_or phases i 0 < phase_limit

-- ---- a sound state: R9, R11, the update counter, the channel, the address, the phases, the outputs, `out`

unfoldable pub audio_ok : Audio → Bool
audio_ok a =
    leb a.update_counter update_most
    && (leb a.current_channel channel_most
    && (leb a.addr address_most
    && (every 8 (phase_test a.phase_ext)
    && (every 8 (output_test a.signed_levels a.channel_out)
    && out_ok a.signed_levels a.plain_sum a.out))))

pub record InRange (a : Audio) : Type 0 where
  pub counter : a.update_counter ≤ update_most
  pub channel : a.current_channel ≤ channel_most
  pub address : a.addr ≤ address_most
  pub phases : Phases a.phase_ext
  pub outputs : Levels a.signed_levels a.channel_out
  pub mixed : OutInRange a.signed_levels a.plain_sum a.out

-- ---- what the types of the fields say of every state: R8

pub record Typed (a : Audio) : Type 0 where
  pub ram_length : length a.ram ≡ 128
  pub bytes : (i : ℕ) → get_or a.ram i 0 < 256
  pub outputs_length : length a.channel_out ≡ 8
  pub outputs_fit : (i : ℕ) → T (fits binary32 (get_or a.channel_out i nan))
  pub phases_length : length a.phase_ext ≡ 8
  pub out_fits : T (fits binary32 a.out)

-- both: what an owned state is known to be once it has passed the test
pub record Known (a : Audio) : Type 0 where
  pub typed : Typed a
  pub range : InRange a
