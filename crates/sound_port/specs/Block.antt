-- S10: reads one after another, of the port and of the Rust's `read_register` at 4800.
use Rattle.std.specs.Prelude.{ℕ, zero, suc, List, [], ◌∷◌}
use Rattle.sound.specs.declared.audio.Audio.{Audio}
use Rattle.sound.specs.Registers.{read_of}
use Rattle.sound_port.specs.declared.lent.Port.{Port}
use Rattle.sound_port.specs.Lent.{byte_of, after_read}

-- the bytes of n reads
unfoldable pub reads : ℕ → Port → List ℕ
reads zero p = []
reads (suc n) p = byte_of p ∷ reads n (after_read p)

-- the port after them
unfoldable pub after_reads : ℕ → Port → Port
after_reads zero p = p
after_reads (suc n) p = after_reads n (after_read p)

-- the bytes of n calls of `read_register`
unfoldable pub register_reads : ℕ → Audio → List ℕ
register_reads zero a = []
register_reads (suc n) a = (read_of a 0x4800).byte ∷ register_reads n (read_of a 0x4800).audio

-- the sound chip after them
unfoldable pub after_register_reads : ℕ → Audio → Audio
after_register_reads zero a = a
after_register_reads (suc n) a = after_register_reads n (read_of a 0x4800).audio
