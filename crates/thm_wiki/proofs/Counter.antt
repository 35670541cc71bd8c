-- The interrupt counter is the wiki's: its cycle and its two bytes (W4 to W6), what a CPU read of it answers (L8), and which clock of a run
-- is a rise (C5). Assumes nothing.
use Prim.Native.Nat.{ℕ, zero, suc, ◌+◌, ◌-◌, ◌*◌, ◌/◌, ◌%◌, ◌^◌, ◌≤◌, ◌<◌}
use mathlib.Core.Path.{◌≡◌, refl, sym, ap, ◌∙◌}
use mathlib.Core.Bool.{Bool, true, false, cond, ◌&&◌, ◌||◌}
use mathlib.Core.List.{List}
use mathlib.Core.Logic.{◌⊎◌, inl, inr}
use native.Mathlib.Nat.{eq-or-lt_of_le, zero-add}
use native.Mathlib.Omega.{arith}
use borrow.Author.Tests.{eq-eqb, ne_eqb, lt-ltb, le-ltb, le-leb, lt-leb, leb-true, leb-false, eqb-true, eqb-false}
use lib.Dec.{eqb, leb}
use lib.Ieee.{Float}
use lib.ListN.{length}
use Rattle.cut.specs.Counter.{moves, next_counter, rises_from}
use Rattle.board_chip.specs.declared.namco163.Namco163.{Namco163}
use Rattle.board_chip.specs.declared.namco163.Regs.{Regs}
use Rattle.std.specs.Prelude.{Some}
use Rattle.board_chip.specs.Namco163.{is163}
use Rattle.board_chip.specs.Clock.{clock_counter}
use Rattle.board_chip.specs.Reads.{served, byte_or}
use Rattle.board_registers.specs.Writes.{low_half, high_half}
use Rattle.board_state.specs.declared.State.{State}
use Rattle.memory_bytes.specs.Bytes.{prg_peek}
use Rattle.call_cpu.specs.Calls.{cpu_byte}
use Rattle.call_refusals.specs.Refusals.{first_of}
use Rattle.call_run.specs.Clock.{counter_rise, chip_clock, state_clock}
use Rattle.call_run.specs.Run.{run_checks, run_gave}
use Rattle.call_run.proofs.clock.Laws.{low-stops, top-stops, stopped, goes-up, ends}
use Rattle.call_run.proofs.run.Laws.{rise-is}
use Rattle.thm_wiki.specs.Counter.{
  WikiIrq,
  wiki_cycle,
  wiki_rises,
  wiki_rise_in,
  wiki_read_low,
  wiki_read_high,
  wiki_write_low,
  wiki_write_high,
  irq_write,
}
use Rattle.thm_wiki.specs.Shown.{irq_of}
use Rattle.thm_wiki.specs.Agrees.{CounterAgrees}
use Rattle.thm_wiki.proofs.Tests.{same_test, le-or-lt}

-- ---- a cycle: W5

-- the counter stays in its 16 bits
pub next_small : (r : Regs) → r.irq_counter < 65536 → (clock_counter r).irq_counter < 65536
unfolding clock_counter next_counter
next_small r h = go (moves r.irq_counter)
  where
    go : (t : Bool) → cond t ((r.irq_counter + 1) % 2 ^ 16) r.irq_counter < 65536
    go true = omega arith
    go false = h

-- a clock is a rise where the wiki's cycle reaches 7FFF
pub rises-agree : (r : Regs) → r.irq_counter < 65536 → rises_from r.irq_counter ≡ wiki_rises (irq_of r)
unfolding rises_from next_counter moves
rises-agree r h = go r.irq_counter h (leb 0x8000 r.irq_counter) (eqb r.irq_counter 0xFFFF) refl refl
  where
    go : (c : ℕ) → c < 65536 → (a b : Bool) → leb 0x8000 c ≡ a → eqb c 0xFFFF ≡ b
        → rises_from c ≡ leb 0x8000 c && eqb (c % 0x8000 + 1) 0x7FFF
    go c h false b p q = rw (lt-ltb c 0x8000 (leb-false 0x8000 c p), p)
    go c h true true p q = rw (eqb-true c 0xFFFF q)
    go c h true false p q =
        let l = leb-true 0x8000 c p in
        let ne = eqb-false c 0xFFFF q in
        let n : (c + 1) % 2 ^ 16 ≡ c + 1 = omega (arith, ne) in
        rw (le-ltb c 0x8000 l, q, p, n)
        (same_test (eqb (c + 1) 0xFFFF) (eqb (c % 0x8000 + 1) 0x7FFF)
        (λ z. eq-eqb (c % 0x8000 + 1) 0x7FFF (omega (arith, eqb-true (c + 1) 0xFFFF z)))
        (λ z. ne_eqb (c % 0x8000 + 1) 0x7FFF (λ e. eqb-false (c + 1) 0xFFFF z (omega (arith, ne)))))

or_is : (t b : Bool) → cond t true b ≡ t || b
or_is true b = refl
or_is false b = refl

pub cycle-agrees : (r : Regs) → r.irq_counter < 65536 → irq_of (clock_counter r) ≡ wiki_cycle (irq_of r)
unfolding wiki_cycle clock_counter next_counter moves
cycle-agrees r h = go (leb 0x8000 r.irq_counter) (eqb r.irq_counter 0xFFFF) refl refl
  where
    go : (a b : Bool) → leb 0x8000 r.irq_counter ≡ a → eqb r.irq_counter 0xFFFF ≡ b
        → irq_of (clock_counter r) ≡ wiki_cycle (irq_of r)
    go false b p q = rw (rises-agree r h, lt-ltb r.irq_counter 0x8000 (leb-false 0x8000 r.irq_counter p), p)
    go true true p q = rw (rises-agree r h, eqb-true r.irq_counter 0xFFFF q)
    go true false p q =
        let c = r.irq_counter in
        let l = leb-true 0x8000 c p in
        let ne = eqb-false c 0xFFFF q in
        let n : (c + 1) % 2 ^ 16 ≡ c + 1 = omega (arith, ne) in
        let m : (c + 1) % 0x8000 ≡ c % 0x8000 + 1 = omega (arith, ne) in
        rw (
          rises-agree r h,
          le-ltb c 0x8000 l,
          q,
          n,
          p,
          lt-ltb (c % 0x8000) 0x7FFF (omega (arith, ne)),
          m,
          le-leb 0x8000 (c + 1) (omega arith),
          or_is (eqb (c % 0x8000 + 1) 0x7FFF) r.irq_pending,
        )

-- ---- a run's rise: W5, C5

-- the wiki's counter, enabled
abbrev counting : ℕ → Bool → WikiIrq
counting c raised = record { count = c; enabled = true; raised = raised }

cycle-up : (c : ℕ) (b : Bool) → c < 0x7FFF → wiki_cycle (counting c b) ≡ counting (c + 1) (eqb (c + 1) 0x7FFF || b)
unfolding wiki_cycle
cycle-up c b h = rw (lt-ltb c 0x7FFF h)

-- n cycles of one that stands still; of one that does not reach 7FFF; and of one that does, after d + 1
still : (n k : ℕ) (w : WikiIrq) → wiki_cycle w ≡ w → wiki_rises w ≡ false → wiki_rise_in n k w ≡ 0
unfolding wiki_rise_in
still zero k w e f = refl
still (suc n) k w e f = rw (f, e) (still n (k + 1) w e f)

short : (n k c : ℕ) (b : Bool) → c + n < 0x7FFF → wiki_rise_in n k (counting c b) ≡ 0
unfolding wiki_rise_in
short zero k c b h = refl
short (suc n) k c b h =
    rw (cycle-up c b (omega arith), ne_eqb (c + 1) 0x7FFF (λ e. omega arith)) (short n (k + 1) (c + 1) b (omega arith))

reaches : (n d k c : ℕ) (b : Bool) → c + suc d ≡ 0x7FFF → suc d ≤ n → wiki_rise_in n k (counting c b) ≡ k + suc d
unfolding wiki_rise_in
reaches zero d k c b e h = absurd (omega arith)
reaches (suc n) zero k c b e h = rw (eq-eqb (c + 1) 0x7FFF (omega arith))
reaches (suc n) (suc d) k c b e h =
    let m : k + suc (suc d) ≡ k + 1 + suc d = omega arith in
    rw (cycle-up c b (omega arith), ne_eqb (c + 1) 0x7FFF (λ z. omega arith), m)
    (reaches n d (k + 1) (c + 1) b (omega arith) (omega arith))

rise-in : (n : ℕ) (r : Regs) → r.irq_counter < 65536 → counter_rise n r ≡ wiki_rise_in n 0 (irq_of r)
unfolding wiki_cycle
rise-in n r h = by (le-or-lt 0x8000 r.irq_counter) (eq-or-lt_of_le {n = r.irq_counter} {m = 0xFFFF} (omega arith))
  where
    moving : 0x8000 ≤ r.irq_counter → r.irq_counter < 0xFFFF → (0xFFFF ≤ r.irq_counter + n) ⊎ (r.irq_counter + n < 0xFFFF)
        → counter_rise n r ≡ wiki_rise_in n 0 (irq_of r)
    moving l t (inl g) =
        let d = 0xFFFE - r.irq_counter in
        rw (le-leb 0x8000 r.irq_counter l)
        ((ends n d r l (omega arith) (omega arith)).rise
        ∙ sym (reaches n d 0 (r.irq_counter % 0x8000) r.irq_pending (omega arith) (omega arith) ∙ zero-add (suc d)))
    moving l t (inr g) =
        rw (le-leb 0x8000 r.irq_counter l)
        ((goes-up n r l g).rise ∙ sym (short n 0 (r.irq_counter % 0x8000) r.irq_pending (omega arith)))

    by : (0x8000 ≤ r.irq_counter) ⊎ (r.irq_counter < 0x8000) → (r.irq_counter ≡ 0xFFFF) ⊎ (r.irq_counter < 0xFFFF)
        → counter_rise n r ≡ wiki_rise_in n 0 (irq_of r)
    by (inr l) t =
        let f = lt-leb 0x8000 r.irq_counter l in
        (stopped n r (low-stops r.irq_counter l)).rise ∙ sym (still n 0 (irq_of r) (rw f) (rw f))
    by (inl l) (inl e) = (stopped n r (top-stops r.irq_counter e)).rise ∙ sym (still n 0 (irq_of r) (rw e) (rw e))
    by (inl l) (inr t) = moving l t (le-or-lt 0xFFFF (r.irq_counter + n))

-- an accepted run answers which of its clocks reached 7FFF
pub run-rise : (s : State) (n : ℕ) (lent : List Float) → s.chip.regs.irq_counter < 65536
    → first_of (run_checks s n (length lent)) ≡ 0
    → (run_gave s n lent).rise ≡ wiki_rise_in n 0 (irq_of s.chip.regs)
unfolding run_gave
run-rise s n lent h e = rw e (rise-is n s ∙ rise-in n s.chip.regs h)

-- ---- its two bytes, written: W4, W6

pub low-agrees : (r : Regs) (v : ℕ) → r.irq_counter < 65536 → v < 256 → irq_of (low_half r v) ≡ wiki_write_low (irq_of r) v
unfolding wiki_write_low
low-agrees r v h b =
    let e : (r.irq_counter / 256 * 256 + v) % 0x8000 ≡ r.irq_counter % 0x8000 / 256 * 256 + v = omega arith in
    rw (e, same)
  where
    same : leb 0x8000 (r.irq_counter / 256 * 256 + v) ≡ leb 0x8000 r.irq_counter
    same =
        same_test (leb 0x8000 (r.irq_counter / 256 * 256 + v)) (leb 0x8000 r.irq_counter)
        (λ p. le-leb 0x8000 r.irq_counter (omega (arith, leb-true 0x8000 (r.irq_counter / 256 * 256 + v) p)))
        (λ p. lt-leb 0x8000 r.irq_counter (omega (arith, leb-false 0x8000 (r.irq_counter / 256 * 256 + v) p)))

pub high-agrees : (r : Regs) (v : ℕ) → r.irq_counter < 65536 → v < 256 → irq_of (high_half r v) ≡ wiki_write_high (irq_of r) v
unfolding wiki_write_high
high-agrees r v h b =
    let e : (r.irq_counter % 256 + v * 256) % 0x8000 ≡ v % 128 * 256 + r.irq_counter % 0x8000 % 256 = omega arith in
    rw (e, enable)
  where
    enable : leb 0x8000 (r.irq_counter % 256 + v * 256) ≡ eqb (v / 128 % 2) 1
    enable =
        same_test (leb 0x8000 (r.irq_counter % 256 + v * 256)) (eqb (v / 128 % 2) 1)
        (λ p. eq-eqb (v / 128 % 2) 1 (omega (arith, leb-true 0x8000 (r.irq_counter % 256 + v * 256) p)))
        (λ p. let l = leb-false 0x8000 (r.irq_counter % 256 + v * 256) p in ne_eqb (v / 128 % 2) 1 (λ e. omega arith))

-- the wiki's write, by the range of its address
pub irq-below : (w : WikiIrq) (a v : ℕ) → a < 0x5000 → irq_write w a v ≡ w
unfolding irq_write
irq-below w a v h = rw (lt-ltb a 0x5000 h)

pub irq-low : (w : WikiIrq) (a v : ℕ) → 0x5000 ≤ a → a < 0x5800 → irq_write w a v ≡ wiki_write_low w v
unfolding irq_write
irq-low w a v l h = rw (le-ltb a 0x5000 l, lt-ltb a 0x5800 h)

pub irq-high : (w : WikiIrq) (a v : ℕ) → 0x5800 ≤ a → a < 0x6000 → irq_write w a v ≡ wiki_write_high w v
unfolding irq_write
irq-high w a v l h = rw (le-ltb a 0x5000 (omega arith), le-ltb a 0x5800 l, lt-ltb a 0x6000 h)

pub irq-above : (w : WikiIrq) (a v : ℕ) → 0x6000 ≤ a → irq_write w a v ≡ w
unfolding irq_write
irq-above w a v h = rw (le-ltb a 0x5000 (omega arith), le-ltb a 0x5800 (omega arith), le-ltb a 0x6000 h)

-- ---- and read: W4, L8

pub read-low-agrees : (n : Namco163) (a : ℕ) → 0x5000 ≤ a → a < 0x5800 → served n a ≡ Some (wiki_read_low (irq_of n.regs))
unfolding served
read-low-agrees n a l h =
    let e : n.regs.irq_counter % 0x8000 % 256 ≡ n.regs.irq_counter % 256 = omega arith in
    rw (le-ltb a 0x4800 (omega arith), le-ltb a 0x5000 l, lt-ltb a 0x5800 h, e)

pub read-high-agrees : (n : Namco163) (a : ℕ) → n.regs.irq_counter < 65536 → 0x5800 ≤ a → a < 0x6000
    → served n a ≡ Some (wiki_read_high (irq_of n.regs))
unfolding served
read-high-agrees n a b l h =
    rw (le-ltb a 0x4800 (omega arith), le-ltb a 0x5000 (omega arith), le-ltb a 0x5800 l, lt-ltb a 0x6000 h)
    (ap Some (go (leb 0x8000 n.regs.irq_counter) refl))
  where
    go : (t : Bool) → leb 0x8000 n.regs.irq_counter ≡ t
        → n.regs.irq_counter / 256 ≡ cond t 128 0 + n.regs.irq_counter % 0x8000 / 256
    go true p = omega (arith, leb-true 0x8000 n.regs.irq_counter p)
    go false p = omega (arith, leb-false 0x8000 n.regs.irq_counter p)

-- what a CPU read answers
pub counter-bytes : (s : State) (arena : List ℕ) (a : ℕ) → s.chip.regs.irq_counter < 65536
    → (0x5000 ≤ a → a < 0x5800 → cpu_byte s arena a ≡ wiki_read_low (irq_of s.chip.regs))
    × (0x5800 ≤ a → a < 0x6000 → cpu_byte s arena a ≡ wiki_read_high (irq_of s.chip.regs))
counter-bytes s arena a b =
    let memory = prg_peek arena s.memory a in (
      (λ l h. ap (byte_or memory) (read-low-agrees s.chip a l h)),
      (λ l h. ap (byte_or memory) (read-high-agrees s.chip a b l h)),
    )

-- ---- all of it, where the counter is the wiki's

clock-rise : (s : State) → (state_clock s).rise ≡ rises_from s.chip.regs.irq_counter
unfolding state_clock chip_clock
clock-rise s = by (is163 s.chip.board) refl
  where
    by : (t : Bool) → is163 s.chip.board ≡ t → (state_clock s).rise ≡ rises_from s.chip.regs.irq_counter
    by true e = rw e
    by false e = rw e

pub counter-agrees : (w : WikiIrq) (s : State) → s.chip.regs.irq_counter < 65536 → irq_of s.chip.regs ≡ w → CounterAgrees w s
counter-agrees w s c i =
    record {
      low = λ arena a l h. (counter-bytes s arena a c).0 l h ∙ ap (λ (y : WikiIrq). wiki_read_low y) i;
      high = λ arena a l h. (counter-bytes s arena a c).1 l h ∙ ap (λ (y : WikiIrq). wiki_read_high y) i;
      line = ap (λ (y : WikiIrq). y.raised) i;
      rise = clock-rise s ∙ rises-agree s.chip.regs c ∙ ap wiki_rises i;
      run = λ n lent e. run-rise s n lent c e ∙ ap (wiki_rise_in n 0) i;
    }
