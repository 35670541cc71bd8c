-- D3.2: a call that neither writes the counter nor resets leaves the counter and the line.
use Prim.Native.Nat.{ℕ, zero, suc, ◌≤◌, ◌<◌}
use mathlib.Core.Path.{◌≡◌, refl, ap, ◌∙◌}
use mathlib.Core.Bool.{Bool, false, cond, ◌&&◌}
use mathlib.Core.List.{List, [], ◌∷◌}
use native.Mathlib.Omega.{arith}
use borrow.Author.Tests.{le-leb, leb-false, ltb-false}
use lib.Dec.{leb, ltb}
use lib.Ieee.{Float}
use Rattle.cut.specs.Calls.{Call, run, other}
use Rattle.cut.specs.Machine.{Answered, plainly}
use Rattle.cut.specs.Demand3.{Untouched}
use Rattle.limits.proofs.Each.{cond-holds}
use Rattle.board_chip.specs.declared.namco163.Board.{Board}
use Rattle.board_chip.specs.declared.namco163.Namco163.{Namco163}
use Rattle.board_chip.specs.Namco163.{with_board}
use Rattle.board_chip.specs.Detection.{may_change, maybe_set_board}
use Rattle.board_chip.specs.Reads.{after_read}
use Rattle.board_chr.specs.Slots.{write_slot}
use Rattle.board_registers.specs.Writes.{write_chip}
use Rattle.board_registers.proofs.Steps.{Steps, write-by}
use Rattle.call_cpu.specs.Calls.{write_register}
use Rattle.board_state.specs.declared.State.{State}
use Rattle.call_refusals.specs.Refusals.{first_of, reset_checks}
use Rattle.call_refusals.proofs.Laws.{accepted-none}
use Rattle.thm_machine.specs.Calls.{Held, Other, cpu_read, cpu_peek, cpu_write, chr_read, chr_write, fill, region_peek, region_write, sram}
use Rattle.thm_machine.specs.Calls.{reset, sync_battery, restore_battery, write_image, Answer}
use Rattle.thm_machine.specs.Paper.{checks, answers}
use Rattle.thm_machine.specs.Board.{other_gives, board}
use Rattle.thm_machine.specs.Counter.{counter_of, line_of, touches, NoneTouches}
use Rattle.thm_machine.proofs.Keeps.{keeps-other}

-- the counter and the line
part : Namco163 → ℕ × Bool
part n = (n.regs.irq_counter, n.regs.irq_pending)

either : (t : Bool) (a b : Namco163) (p : ℕ × Bool) → part a ≡ p → part b ≡ p → part (cond t a b) ≡ p
either t a b p = cond-holds (λ (n : Namco163). part n ≡ p) t a b

maybe : (n : Namco163) (b : Board) → part (maybe_set_board n b) ≡ part n
unfolding maybe_set_board part
maybe n b = either (may_change n) (with_board n b) n (part n) refl refl

-- 5000..5FFF is written by none of these
outside : (a : ℕ) → leb 0x5000 a && leb a 0x5FFF ≡ false → 0x5000 ≤ a → a < 0x6000 → ⊥
outside a out lo hi = omega (arith, leb-false a 0x5FFF (rw (le-leb 0x5000 a lo) at out))

steps : (n : Namco163) (a v : ℕ) → leb 0x5000 a && leb a 0x5FFF ≡ false → Steps (λ (m : Namco163). part m ≡ part n) a v
unfolding part write_slot
steps n a v out =
    record {
      detect = λ m b q. maybe m b ∙ q;
      sound = λ m q. q;
      low = λ lo hi m q. absurd (outside a out lo (omega arith));
      high = λ lo hi m q. absurd (outside a out (omega arith) hi);
      flag = λ m q. q;
      slot = λ m q. q;
      protect = λ m q. q;
      bank = λ m i q. q;
      selects = λ m q. q;
      mirroring = λ m q. q;
    }

written : (n : Namco163) (a v : ℕ) → leb 0x5000 a && leb a 0x5FFF ≡ false → part (write_chip n a v) ≡ part n
written n a v out = write-by (λ (m : Namco163). part m ≡ part n) a v (steps n a v out) n refl

read : (n : Namco163) (a : ℕ) → part (after_read n a) ≡ part n
unfolding after_read part
read n a = either (ltb a 0x4800) n _ (part n) refl (either (ltb a 0x5000) _ n (part n) refl refl)

-- ---- calls

-- what `paper` alters, by the refusal number
by_number : (q : ℕ) (b : Answered Held Answer) (h : Held) → (q ≡ 0 → part b.state.state.chip ≡ part h.state.chip)
    → part (plainly q b h).state.state.chip ≡ part h.state.chip
by_number zero b h e = e refl
by_number (suc q) b h e = refl

-- a reset that is accepted is of kind 0 or 1
soft-or-hard : (s : State) (kind : ℕ) → first_of (reset_checks s kind) ≡ 0 → kind ≤ 1
soft-or-hard s kind e = ltb-false 1 kind (accepted-none (reset_checks s kind) (omega arith, (omega arith, tt)) e).1.0

alters : (a : Other) (h : Held) → touches a ≡ false → first_of (checks a h) ≡ 0
    → part (answers a h).state.state.chip ≡ part h.state.chip
unfolding answers checks write_register part
alters (cpu_read addr) h t e = read h.state.chip addr
alters (cpu_peek addr) h t e = refl
alters (cpu_write addr v) h t e = written h.state.chip addr v t
alters (chr_read addr) h t e = refl
alters (chr_write addr v) h t e = refl
alters (fill src bytes) h t e = refl
alters (region_peek src offset) h t e = refl
alters (region_write src offset v) h t e = refl
alters sram h t e = refl
alters (reset kind) h t e = absurd (omega (arith, soft-or-hard h.state kind e, leb-false kind 1 t))
alters sync_battery h t e = refl
alters restore_battery h t e = refl
alters (write_image buffer) h t e = refl

leaves : (a : Other) (h : Held) → touches a ≡ false → part (other_gives a h).state.state.chip ≡ part h.state.chip
leaves a h t = rw (keeps-other a h) (by_number (first_of (checks a h)) (answers a h) h (alters a h t))

pub untouched : (calls : List (Call Float Other)) → NoneTouches calls → Untouched board counter_of line_of calls
unfolding part
untouched [] t = tt
untouched (run n lent ∷ calls) t = untouched calls t
untouched (other a ∷ calls) t =
    (λ h. (ap (λ (p : ℕ × Bool). p.0) (leaves a h t.0), ap (λ (p : ℕ × Bool). p.1) (leaves a h t.0)), untouched calls t.1)
