-- L11, L12: the Rust's `write_register` for 8000..DFFF: detection first, then the register.
use Rattle.std.specs.Prelude.{ℕ, ◌-◌, ◌/◌, ◌%◌, Bool, true, cond, not, ◌&&◌, leb, ltb, set}
use Rattle.board_chip.specs.declared.namco163.Board.TheVariants.{Namco163 as Is163, Namco175}
use Rattle.board_chip.specs.declared.namco163.Namco163.{Namco163}
use Rattle.board_chip.specs.Namco163.{is163, is175, with_regs, with_slots, with_protect}
use Rattle.board_chip.specs.Detection.{maybe_set_board}

-- L12: whether the slot shows CIRAM; C000..DFFF goes by no select
unfoldable pub sets_ciram : Namco163 → ℕ → ℕ → Bool
sets_ciram n a v =
    leb 0xE0 v && (is163 n.board
    && cond (ltb a 0xA000) (not n.regs.nt_select_lo) (cond (ltb a 0xC000) (not n.regs.nt_select_hi) true))

-- L12: a slot's flag and bank
unfoldable pub write_slot : Namco163 → ℕ → ℕ → Namco163
write_slot n a v =
    let slot = (a - 0x8000) / 2048 in
    let ciram = sets_ciram n a v in
    with_slots n (set n.nt_bank_enable slot ciram) (set n.chr_banks slot (cond ciram (v % 2) v))

-- L11: 8000..BFFF is `write_slot`. C000..DFFF after detection: a 163's slot, a 175's protect byte, and nothing on the other boards.
unfoldable pub write_nametable : Namco163 → ℕ → ℕ → Namco163
write_nametable n a v = cond (is175 n.board) (with_regs n (with_protect n.regs v)) (cond (is163 n.board) (write_slot n a v) n)

-- L11: C000..C7FF
unfoldable pub write_c000 : Namco163 → ℕ → ℕ → Namco163
write_c000 n a v = write_nametable (cond (is163 n.board) n (maybe_set_board n Namco175)) a v

-- L11: C800..DFFF
unfoldable pub write_c800 : Namco163 → ℕ → ℕ → Namco163
write_c800 n a v = write_nametable (maybe_set_board n Is163) a v
