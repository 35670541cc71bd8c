-- L11: what each step of a register write keeps, the write keeps: one walk over the ranges, for any predicate of the board.
use Prim.Native.Nat.{ℕ, ◌≤◌, ◌<◌}
use mathlib.Core.Path.{◌≡◌, refl}
use mathlib.Core.Bool.{Bool, true, false, cond, not, ◌&&◌, ◌||◌}
use borrow.Author.Tests.{ltb-true, ltb-false}
use lib.Dec.{ltb}
use Rattle.limits.proofs.Each.{cond-holds}
use Rattle.sound.specs.Registers.{written}
use Rattle.board_chip.specs.declared.namco163.Board.{Board}
use Rattle.board_chip.specs.declared.namco163.Board.TheVariants.{Unknown, Namco163 as Is163, Namco175, Namco340}
use Rattle.board_chip.specs.declared.namco163.Namco163.{Namco163}
use Rattle.board_chip.specs.Namco163.{is163, is175, is340, with_mirroring, with_regs, with_audio, with_written, with_selects, with_protect}
use Rattle.board_chip.specs.Detection.{maybe_set_board}
use Rattle.board_chr.specs.Slots.{write_slot, write_nametable, write_c000, write_c800}
use Rattle.board_prg.specs.Banks.{bit6, bit7, mirroring_e000, detect_e000, write_bank, high_bits_e000, write_e000, write_e800, write_f000, write_f800}
use Rattle.board_registers.specs.Writes.{write_sound_data, low_half, high_half, write_counter_low, write_counter_high, write_work_ram, write_chip}

-- of a write of v to address a; a half of the counter is written only where a is one of its addresses
pub record Steps (P : Namco163 → Type 0) (a v : ℕ) : Type 0 where
  pub detect : (n : Namco163) (b : Board) → P n → P (maybe_set_board n b)
  pub sound : (n : Namco163) → P n → P (with_audio n (written n.audio a v))
  pub low : 0x5000 ≤ a → a < 0x5800 → (n : Namco163) → P n → P (with_regs n (low_half n.regs v))
  pub high : 0x5800 ≤ a → a < 0x6000 → (n : Namco163) → P n → P (with_regs n (high_half n.regs v))
  pub flag : (n : Namco163) → P n → P (with_written n true)
  pub slot : (n : Namco163) → P n → P (write_slot n a v)
  pub protect : (n : Namco163) → P n → P (with_regs n (with_protect n.regs v))
  pub bank : (n : Namco163) (i : ℕ) → P n → P (write_bank n i v)
  pub selects : (n : Namco163) → P n → P (with_regs n (with_selects n.regs (bit6 v) (bit7 v)))
  pub mirroring : (n : Namco163) → P n → P (with_mirroring n (mirroring_e000 v))

module _ (P : Namco163 → Type 0) (a v : ℕ) (s : Steps P a v) where
  -- a choice, by what its test says
  by-test : (t : Bool) (x y : Namco163) → (t ≡ true → P x) → (t ≡ false → P y) → P (cond t x y)
  by-test true x y p q = p refl
  by-test false x y p q = q refl

  work-ram : (n : Namco163) → P n → P (write_work_ram n)
  unfolding write_work_ram
  work-ram n q = let f = s.flag n q in cond-holds P (is340 n.board) _ _ (s.detect _ Unknown f) f

  nametable : (n : Namco163) → P n → P (write_nametable n a v)
  unfolding write_nametable
  nametable n q = cond-holds P (is175 n.board) _ _ (s.protect n q) (cond-holds P (is163 n.board) _ n (s.slot n q) q)

  c000 : (n : Namco163) → P n → P (write_c000 n a v)
  unfolding write_c000
  c000 n q = nametable _ (cond-holds P (is163 n.board) n _ q (s.detect n Namco175 q))

  c800 : (n : Namco163) → P n → P (write_c800 n a v)
  unfolding write_c800
  c800 n q = nametable _ (s.detect n Is163 q)

  detected : (n : Namco163) → P n → P (detect_e000 n v)
  unfolding detect_e000
  detected n q = cond-holds P (bit7 v || (bit6 v && not (is163 n.board))) _ n (s.detect n Namco340 q) q

  high_bits : (n : Namco163) → P n → P (high_bits_e000 n a v)
  unfolding high_bits_e000
  high_bits n q = cond-holds P (is340 n.board) _ _ (s.mirroring n q) (cond-holds P (is163 n.board) _ n (s.sound n q) q)

  e000 : (n : Namco163) → P n → P (write_e000 n a v)
  unfolding write_e000
  e000 n q = high_bits _ (s.bank _ 0 (detected n q))

  e800 : (n : Namco163) → P n → P (write_e800 n v)
  unfolding write_e800
  e800 n q = let b = s.bank n 1 q in cond-holds P (is163 n.board) _ _ (s.selects _ b) b

  f800 : (n : Namco163) → P n → P (write_f800 n a v)
  unfolding write_f800
  f800 n q =
      let m = maybe_set_board n Is163 in
      let d = s.detect n Is163 q in cond-holds P (is163 m.board) _ m (s.sound _ (s.protect m d)) d

  from-6000 : (n : Namco163) → P n
      → P (cond (ltb a 0x8000) (write_work_ram n)
      (cond (ltb a 0xC000) (write_slot n a v)
      (cond (ltb a 0xC800) (write_c000 n a v)
      (cond (ltb a 0xE000) (write_c800 n a v)
      (cond (ltb a 0xE800) (write_e000 n a v)
      (cond (ltb a 0xF000) (write_e800 n v) (cond (ltb a 0xF800) (write_f000 n v) (write_f800 n a v))))))))
  unfolding write_f000
  from-6000 n q =
      cond-holds P (ltb a 0x8000) _ _ (work-ram n q)
      (cond-holds P (ltb a 0xC000) _ _ (s.slot n q)
      (cond-holds P (ltb a 0xC800) _ _ (c000 n q)
      (cond-holds P (ltb a 0xE000) _ _ (c800 n q)
      (cond-holds P (ltb a 0xE800) _ _ (e000 n q)
      (cond-holds P (ltb a 0xF000) _ _ (e800 n q) (cond-holds P (ltb a 0xF800) _ _ (s.bank n 2 q) (f800 n q)))))))

  pub write-by : (n : Namco163) → P n → P (write_chip n a v)
  unfolding write_chip write_sound_data write_counter_low write_counter_high
  write-by n q =
      let d = s.detect n Is163 q in
      by-test (ltb a 0x4800) _ _ (λ e. q) (λ e.
      by-test (ltb a 0x5000) _ _ (λ e. s.sound _ d) (λ l.
      by-test (ltb a 0x5800) _ _ (λ e. s.low (ltb-false a 0x5000 l) (ltb-true a 0x5800 e) _ d) (λ l.
      by-test (ltb a 0x6000) _ _ (λ e. s.high (ltb-false a 0x5800 l) (ltb-true a 0x6000 e) _ d) (λ l. from-6000 n q))))
