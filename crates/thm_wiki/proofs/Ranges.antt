-- L11: a write that leaves the board what it is, range by range. Assumes nothing.
use Prim.Native.Nat.{ℕ, ◌≤◌, ◌<◌}
use mathlib.Core.Path.{◌≡◌, refl, sym, ap, ◌∙◌}
use mathlib.Core.Bool.{Bool, true, false, cond, not, ◌&&◌, ◌||◌}
use native.Mathlib.Omega.{arith}
use borrow.Author.Tests.{ltb-true, ltb-false}
use lib.Dec.{ltb}
use Rattle.sound.specs.Registers.{written}
use Rattle.board_chip.specs.declared.namco163.Board.{Board}
use Rattle.board_chip.specs.declared.namco163.Board.TheVariants.{Namco163 as Is163, Namco175, Namco340}
use Rattle.board_chip.specs.declared.namco163.Namco163.{Namco163}
use Rattle.board_chip.specs.Namco163.{is163, with_board, with_regs, with_audio, with_written, with_protect}
use Rattle.board_chip.specs.Detection.{may_change, maybe_set_board}
use Rattle.board_chr.specs.Slots.{write_slot, write_nametable, write_c000, write_c800}
use Rattle.board_prg.specs.Banks.{bit6, bit7, write_bank, detect_e000, high_bits_e000, write_e000, write_e800, write_f000, write_f800}
use Rattle.board_registers.specs.Writes.{low_half, high_half, write_sound_data, write_counter_low, write_counter_high, write_chip}
use Rattle.board_registers.proofs.Kept.{never-unknown}
use Rattle.thm_wiki.proofs.Tests.{cond_same}

-- L6: a board that does not detect stays what it is
settled : (n : Namco163) (b : Board) → n.auto_detect_board ≡ false → maybe_set_board n b ≡ n
unfolding maybe_set_board may_change
settled n b e = rw e

-- a claim of the board after a write, for each range of addresses
pub record Ranges (P : Namco163 → Type 0) (n : Namco163) (a v : ℕ) : Type 0 where
  pub below : a < 0x4800 → P n
  pub sound : 0x4800 ≤ a → a < 0x5000 → P (with_audio n (written n.audio a v))
  pub low : 0x5000 ≤ a → a < 0x5800 → P (with_regs n (low_half n.regs v))
  pub high : 0x5800 ≤ a → a < 0x6000 → P (with_regs n (high_half n.regs v))
  pub ram : 0x6000 ≤ a → a < 0x8000 → P (with_written n true)
  pub chr : 0x8000 ≤ a → a < 0xC000 → P (write_slot n a v)
  pub nametable : 0xC000 ≤ a → a < 0xE000 → P (write_nametable n a v)
  pub e000 : 0xE000 ≤ a → a < 0xE800 → P (high_bits_e000 (write_bank n 0 v) a v)
  pub e800 : 0xE800 ≤ a → a < 0xF000 → P (write_e800 n v)
  pub f000 : 0xF000 ≤ a → a < 0xF800 → P (write_bank n 2 v)
  pub port : 0xF800 ≤ a → P (cond (is163 n.board) (with_audio (with_regs n (with_protect n.regs v)) (written n.audio a v)) n)

choose : (P : Namco163 → Type 0) (t : Bool) (a b : Namco163) → (t ≡ true → P a) → (t ≡ false → P b) → P (cond t a b)
choose P true a b p q = p refl
choose P false a b p q = q refl

pub taken : {A : Type 0} (P : A → Type 0) (t : Bool) (a b : A) → t ≡ true → P a → P (cond t a b)
taken P t a b e p = rw e p

pub left : {A : Type 0} (P : A → Type 0) (t : Bool) (a b : A) → t ≡ false → P b → P (cond t a b)
left P t a b e p = rw e p

-- a write that leaves the board what it is: on one that is not detecting, each; on a detecting 163, each but one to E000..E7FF with bit 7
pub record Firm (n : Namco163) (a v : ℕ) : Type 0 where
  pub as163 : maybe_set_board n Is163 ≡ n
  pub as175 : cond (is163 n.board) n (maybe_set_board n Namco175) ≡ n
  pub as340 : 0xE000 ≤ a → a < 0xE800 → detect_e000 n v ≡ n

pub firm-settled : (n : Namco163) (a v : ℕ) → n.auto_detect_board ≡ false → Firm n a v
unfolding detect_e000
firm-settled n a v s =
    record {
      as163 = settled n Is163 s;
      as175 = rw (settled n Namco175 s) (cond_same (is163 n.board) n);
      as340 = λ l h. rw (settled n Namco340 s) (cond_same (bit7 v || (bit6 v && not (is163 n.board))) n);
    }

pub firm-163 : (n : Namco163) (a v : ℕ) → n.board ≡ Is163 → (0xE000 ≤ a → a < 0xE800 → bit7 v ≡ false) → Firm n a v
unfolding detect_e000 maybe_set_board
firm-163 n a v e f =
    record {
      as163 = ap (λ (b : Board). cond (may_change n) (with_board n b) n) (sym e) ∙ cond_same (may_change n) n;
      as175 = ap (λ (t : Bool). cond t n (maybe_set_board n Namco175)) (ap is163 e);
      as340 = λ l h.
          ap (λ (t : Bool). cond (t || (bit6 v && not (is163 n.board))) (maybe_set_board n Namco340) n) (f l h)
          ∙ ap (λ (t : Bool). cond (false || (bit6 v && not t)) (maybe_set_board n Namco340) n) (ap is163 e)
          ∙ none (bit6 v);
    }
  where
    none : (t : Bool) → cond (false || (t && not true)) (maybe_set_board n Namco340) n ≡ n
    none true = refl
    none false = refl

sound-is : (n : Namco163) (a v : ℕ) → maybe_set_board n Is163 ≡ n → write_sound_data n a v ≡ with_audio n (written n.audio a v)
unfolding write_sound_data
sound-is n a v s = ap (λ (m : Namco163). with_audio m (written m.audio a v)) s

low-is : (n : Namco163) (v : ℕ) → maybe_set_board n Is163 ≡ n → write_counter_low n v ≡ with_regs n (low_half n.regs v)
unfolding write_counter_low
low-is n v s = ap (λ (m : Namco163). with_regs m (low_half m.regs v)) s

high_is : (n : Namco163) (v : ℕ) → maybe_set_board n Is163 ≡ n → write_counter_high n v ≡ with_regs n (high_half n.regs v)
unfolding write_counter_high
high_is n v s = ap (λ (m : Namco163). with_regs m (high_half m.regs v)) s

c000-is : (n : Namco163) (a v : ℕ) → cond (is163 n.board) n (maybe_set_board n Namco175) ≡ n → write_c000 n a v ≡ write_nametable n a v
unfolding write_c000
c000-is n a v s = ap (λ (m : Namco163). write_nametable m a v) s

c800-is : (n : Namco163) (a v : ℕ) → maybe_set_board n Is163 ≡ n → write_c800 n a v ≡ write_nametable n a v
unfolding write_c800
c800-is n a v s = ap (λ (m : Namco163). write_nametable m a v) s

e000-is : (n : Namco163) (a v : ℕ) → detect_e000 n v ≡ n → write_e000 n a v ≡ high_bits_e000 (write_bank n 0 v) a v
unfolding write_e000
e000-is n a v s = ap (λ (m : Namco163). high_bits_e000 (write_bank m 0 v) a v) s

f000-is : (n : Namco163) (v : ℕ) → write_f000 n v ≡ write_bank n 2 v
unfolding write_f000
f000-is n v = refl

f800-is : (n : Namco163) (a v : ℕ) → maybe_set_board n Is163 ≡ n
    → write_f800 n a v ≡ cond (is163 n.board) (with_audio (with_regs n (with_protect n.regs v)) (written n.audio a v)) n
unfolding write_f800
f800-is n a v s =
    ap (λ (m : Namco163). cond (is163 m.board) (with_audio (with_regs m (with_protect m.regs v)) (written m.audio a v)) m) s

pub by-firm : (P : Namco163 → Type 0) (n : Namco163) (a v : ℕ) → Firm n a v → Ranges P n a v → P (write_chip n a v)
unfolding write_chip
by-firm P n a v s r =
    choose P (ltb a 0x4800) _ _ (λ t. r.below (ltb-true a 0x4800 t)) (λ u0.
    choose P (ltb a 0x5000) _ _ (λ t. rw (sound-is n a v s.as163) (r.sound (ltb-false a 0x4800 u0) (ltb-true a 0x5000 t))) (λ u1.
    choose P (ltb a 0x5800) _ _ (λ t. rw (low-is n v s.as163) (r.low (ltb-false a 0x5000 u1) (ltb-true a 0x5800 t))) (λ u2.
    choose P (ltb a 0x6000) _ _ (λ t. rw (high_is n v s.as163) (r.high (ltb-false a 0x5800 u2) (ltb-true a 0x6000 t))) (λ u3.
    choose P (ltb a 0x8000) _ _ (λ t. rw (never-unknown n) (r.ram (ltb-false a 0x6000 u3) (ltb-true a 0x8000 t))) (λ u4.
    choose P (ltb a 0xC000) _ _ (λ t. r.chr (ltb-false a 0x8000 u4) (ltb-true a 0xC000 t)) (λ u5.
    choose P (ltb a 0xC800) _ _
    (λ t. rw (c000-is n a v s.as175) (r.nametable (ltb-false a 0xC000 u5) (omega (arith, ltb-true a 0xC800 t)))) (λ u6.
    choose P (ltb a 0xE000) _ _ (λ t. rw (c800-is n a v s.as163) (r.nametable (ltb-false a 0xC000 u5) (ltb-true a 0xE000 t))) (λ u7.
    choose P (ltb a 0xE800) _ _
    (λ t.
    let l = ltb-false a 0xE000 u7 in
    let h = ltb-true a 0xE800 t in
    rw (e000-is n a v (s.as340 l h)) (r.e000 l h)) (λ u8.
    choose P (ltb a 0xF000) _ _ (λ t. r.e800 (ltb-false a 0xE800 u8) (ltb-true a 0xF000 t)) (λ u9.
    choose P (ltb a 0xF800) _ _ (λ t. rw (f000-is n v) (r.f000 (ltb-false a 0xF000 u9) (ltb-true a 0xF800 t))) (λ u10.
    rw (f800-is n a v s.as163) (r.port (ltb-false a 0xF800 u10)))))))))))))

pub by-range : (P : Namco163 → Type 0) (n : Namco163) (a v : ℕ) → n.auto_detect_board ≡ false → Ranges P n a v → P (write_chip n a v)
by-range P n a v s r = by-firm P n a v (firm-settled n a v s) r
