-- L11: the Rust's `write_register`, a definition for each range of addresses: detection first, then the register. Whether the tables are
-- mapped anew is `remaps`; the mapping itself is `update_banks`.
use Rattle.std.specs.Prelude.{ℕ, ◌+◌, ◌*◌, ◌/◌, ◌%◌, Bool, true, false, cond, not, ◌&&◌, ◌||◌, eqb, leb, ltb}
use Rattle.sound.specs.Registers.{written}
use Rattle.board_chip.specs.declared.namco163.Board.{Board}
use Rattle.board_chip.specs.declared.namco163.Board.TheVariants.{Unknown, Namco163 as Is163}
use Rattle.board_chip.specs.declared.namco163.Regs.{Regs}
use Rattle.board_chip.specs.declared.namco163.Namco163.{Namco163}
use Rattle.board_chip.specs.Namco163.{board_num, is340, with_regs, with_audio, with_written, with_counter}
use Rattle.board_chip.specs.Detection.{maybe_set_board}
use Rattle.board_chr.specs.Slots.{write_slot, write_c000, write_c800}
use Rattle.board_prg.specs.Banks.{write_e000, write_e800, write_f000, write_f800}

-- L11, 4800..4FFF: the sound port's data
unfoldable pub write_sound_data : Namco163 → ℕ → ℕ → Namco163
write_sound_data n a v = let m = maybe_set_board n Is163 in with_audio m (written m.audio a v)

-- C3: the counter's low or high byte, with the line cleared
abbrev pub low_half : Regs → ℕ → Regs
low_half r v = with_counter r (r.irq_counter / 256 * 256 + v) false

abbrev pub high_half : Regs → ℕ → Regs
high_half r v = with_counter r (r.irq_counter % 256 + v * 256) false

-- L11: 5000..57FF
unfoldable pub write_counter_low : Namco163 → ℕ → Namco163
write_counter_low n v = let m = maybe_set_board n Is163 in with_regs m (low_half m.regs v)

-- L11: 5800..5FFF
unfoldable pub write_counter_high : Namco163 → ℕ → Namco163
write_counter_high n v = let m = maybe_set_board n Is163 in with_regs m (high_half m.regs v)

-- L10, L11: 6000..7FFF, the flag, and then the step of the Rust that L6 always refuses
unfoldable pub write_work_ram : Namco163 → Namco163
write_work_ram n = let m = with_written n true in cond (is340 m.board) (maybe_set_board m Unknown) m

-- L11: the registers after a write, by its address; below 4800 there are none
unfoldable pub write_chip : Namco163 → ℕ → ℕ → Namco163
write_chip n a v =
    cond (ltb a 0x4800) n
    (cond (ltb a 0x5000) (write_sound_data n a v)
    (cond (ltb a 0x5800) (write_counter_low n v)
    (cond (ltb a 0x6000) (write_counter_high n v)
    (cond (ltb a 0x8000) (write_work_ram n)
    (cond (ltb a 0xC000) (write_slot n a v)
    (cond (ltb a 0xC800) (write_c000 n a v)
    (cond (ltb a 0xE000) (write_c800 n a v)
    (cond (ltb a 0xE800) (write_e000 n a v)
    (cond (ltb a 0xF000) (write_e800 n v)
    (cond (ltb a 0xF800) (write_f000 n v) (write_f800 n a v)))))))))))

-- L11, L14: the Rust's `banking_changed || self.board != board`, a write to 8000..F7FF, or one that changed the board
unfoldable pub remaps : Board → Board → ℕ → Bool
remaps old new a = (leb 0x8000 a && ltb a 0xF800) || not (eqb (board_num old) (board_num new))
