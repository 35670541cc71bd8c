-- S10, S11: the sound port, the Rust's `peek_register`, `read_register` and `write_register`.
use Rattle.std.specs.Prelude.{ℕ, ◌+◌, ◌/◌, ◌%◌, Bool, cond, ◌&&◌, eqb, leb, get_or, set}
use Rattle.sound.specs.declared.audio.Audio.{Audio}
use Rattle.sound.specs.Audio.{with_ram, with_addr, with_disabled}

-- whether an address is one of lo..=hi
abbrev pub within : ℕ → ℕ → ℕ → Bool
within lo hi addr = leb lo addr && leb addr hi

-- S10: in 4800..4FFF the byte at the sound address; elsewhere 0
unfoldable pub peeked : Audio → ℕ → ℕ
peeked a addr = cond (within 0x4800 0x4FFF addr) (get_or a.ram a.addr 0) 0

-- S10: with auto-increment the next address, and 0 behind 7F
unfoldable pub advanced : Audio → Audio
advanced a = cond a.auto_increment (with_addr a ((a.addr + 1) % 128) a.auto_increment) a

-- a read's answer: the byte, and the sound after it
pub record SoundRead : Type 0 where
  pub byte : ℕ
  pub audio : Audio

-- S10: a read, the byte and the sound after it
unfoldable pub read_of : Audio → ℕ → SoundRead
read_of a addr = record { byte = peeked a addr; audio = advanced a }

-- S11: a write of data, of `disabled`, and of the address with auto-increment
unfoldable pub written : Audio → ℕ → ℕ → Audio
written a addr val =
    cond (within 0x4800 0x4FFF addr) (advanced (with_ram a (set a.ram a.addr val)))
    (cond (within 0xE000 0xE7FF addr) (with_disabled a (eqb (val / 64 % 2) 1))
    (cond (within 0xF800 0xFFFF addr) (with_addr a (val % 128) (eqb (val / 128) 1))
    a))
