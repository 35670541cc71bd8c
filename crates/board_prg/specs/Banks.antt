-- L11: the Rust's `write_register` for E000..FFFF: detection first, then the register.
use Rattle.std.specs.Prelude.{ℕ, ◌/◌, ◌%◌, Bool, cond, not, ◌&&◌, ◌||◌, eqb, ltb, set}
use Rattle.memory.specs.declared.mirroring.Mirroring.{Mirroring}
use Rattle.memory.specs.declared.mirroring.Mirroring.TheVariants.{Vertical, Horizontal, SingleScreenA, SingleScreenB}
use Rattle.sound.specs.Registers.{written}
use Rattle.board_chip.specs.declared.namco163.Board.TheVariants.{Namco163 as Is163, Namco340}
use Rattle.board_chip.specs.declared.namco163.Namco163.{Namco163}
use Rattle.board_chip.specs.Namco163.{is163, is340, with_mirroring, with_regs, with_audio, with_prg_banks, with_selects, with_protect}
use Rattle.board_chip.specs.Detection.{maybe_set_board}

-- a bit of a byte
abbrev pub bit6 : ℕ → Bool
bit6 v = eqb (v / 64 % 2) 1

abbrev pub bit7 : ℕ → Bool
bit7 v = eqb (v / 128 % 2) 1

-- L11: the mirroring that a 340 takes from bits 6..7
unfoldable pub mirroring_e000 : ℕ → Mirroring
mirroring_e000 v = cond (ltb v 64) SingleScreenA (cond (ltb v 128) Vertical (cond (ltb v 192) Horizontal SingleScreenB))

-- L11, E000..E7FF: bit 7, or bit 6 on a board that is not a 163, shows a 340
unfoldable pub detect_e000 : Namco163 → ℕ → Namco163
detect_e000 n v = cond (bit7 v || (bit6 v && not (is163 n.board))) (maybe_set_board n Namco340) n

-- L11: a PRG bank
abbrev pub write_bank : Namco163 → ℕ → ℕ → Namco163
write_bank n i v = with_prg_banks n (set n.prg_banks i (v % 64))

-- L11: what bits 6..7 of E000 say to the board, a 340's mirroring, a 163's sound
unfoldable pub high_bits_e000 : Namco163 → ℕ → ℕ → Namco163
high_bits_e000 n a v =
    cond (is340 n.board) (with_mirroring n (mirroring_e000 v))
    (cond (is163 n.board) (with_audio n (written n.audio a v)) n)

-- L11, E000..E7FF: the bank at 8000, between detection and the high bits
unfoldable pub write_e000 : Namco163 → ℕ → ℕ → Namco163
write_e000 n a v = high_bits_e000 (write_bank (detect_e000 n v) 0 v) a v

-- L11, E800..EFFF: the bank at A000; the select bits are a 163's
unfoldable pub write_e800 : Namco163 → ℕ → Namco163
write_e800 n v =
    let m = write_bank n 1 v in cond (is163 m.board) (with_regs m (with_selects m.regs (bit6 v) (bit7 v))) m

-- L11, F000..F7FF: the bank at C000
unfoldable pub write_f000 : Namco163 → ℕ → Namco163
write_f000 n v = write_bank n 2 v

-- L11, F800..FFFF: the sound port's address, and the protect byte, which is one register for 163 and 175
unfoldable pub write_f800 : Namco163 → ℕ → ℕ → Namco163
write_f800 n a v =
    let m = maybe_set_board n Is163 in
    cond (is163 m.board) (with_audio (with_regs m (with_protect m.regs v)) (written m.audio a v)) m
