-- S2 to S6, S14: a channel's registers and its update. `ram` is the sound RAM, `base` where a channel's registers start.
use Rattle.std.specs.Prelude.{ℕ, ◌+◌, ◌-◌, ◌*◌, ◌/◌, ◌%◌, Bool, cond, List, ℤ, pos, ◌-ℤ◌, ◌*ℤ◌, ◌==◌, slice_index, Float}
use Rattle.sound.specs.Levels.{whole_z}

-- S2: c, one less than the number of channels in use (the Rust's `channel_count`)
abbrev pub channel_count : List ℕ → ℕ
channel_count ram = slice_index ram 0x7F / 16 % 8

-- S3: the first register of channel k (`base_addr`)
abbrev pub base_addr : ℕ → ℕ
base_addr k = 0x40 + 8 * k

-- S3: the frequency, 18 bits of registers 0, 2 and 4 (`frequency`)
abbrev pub frequency_at : List ℕ → ℕ → ℕ
frequency_at ram base = slice_index ram (base + 4) % 4 * 65536 + slice_index ram (base + 2) * 256 + slice_index ram (base + 0)

-- S4: the length that a length byte gives
abbrev pub length_of : ℕ → ℕ
length_of byte = 256 - byte / 4 * 4

-- S3: the length byte is register 4 (`wave_length`)
abbrev pub wave_length_at : List ℕ → ℕ → ℕ
wave_length_at ram base = length_of (slice_index ram (base + 4))

-- S3: the wave's address is register 6 (`wave_address`)
abbrev pub wave_address_at : List ℕ → ℕ → ℕ
wave_address_at ram base = slice_index ram (base + 6)

-- S3: the volume is the low half of register 7 (`volume`)
abbrev pub volume_at : List ℕ → ℕ → ℕ
volume_at ram base = slice_index ram (base + 7) % 16

-- S5: the nibble at a nibble address, in the high half of its byte for an odd one
unfoldable pub nibble_at : List ℕ → ℕ → ℕ
nibble_at ram at = cond (at % 2 == 1) (slice_index ram (at / 2) / 16) (slice_index ram (at / 2) % 16)

-- S4: the new phase
unfoldable pub next_phase : List ℕ → ℕ → ℕ → ℕ
next_phase ram base phase = (phase + frequency_at ram base) % (wave_length_at ram base * 65536)

-- S6: the byte that the nibble less 8 wraps to, at a volume
abbrev pub level_of : ℕ → ℕ → ℕ
level_of nibble volume = (nibble + 248) % 256 * volume

-- S14: the nibble less 8, at a volume, as a whole number
unfoldable pub signed_of : ℕ → ℕ → ℤ
signed_of nibble volume = (pos nibble -ℤ pos 8) *ℤ pos volume

-- S13: the level by the choice
abbrev pub level_by : Bool → ℕ → ℕ → ℤ
level_by signed nibble volume = cond signed (signed_of nibble volume) (pos (level_of nibble volume))

-- S5, S6, S14: the level at a phase, at the channel's volume
unfoldable pub level_at : List ℕ → ℕ → ℕ → Bool → ℤ
level_at ram base phase signed =
    level_by signed (nibble_at ram ((phase / 65536 + wave_address_at ram base) % 256)) (volume_at ram base)

-- S6, S14: the channel's output, the float of that whole number
abbrev pub output_at : List ℕ → ℕ → ℕ → Bool → Float
output_at ram base phase signed = whole_z (level_at ram base phase signed)
