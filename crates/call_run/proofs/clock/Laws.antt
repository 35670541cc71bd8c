-- n clocks of the counter: one that does not move stays, one that moves goes up to FFFF, and pends there.
use Prim.Native.Nat.{ℕ, zero, suc, ◌+◌, ◌≤◌, ◌<◌}
use mathlib.Core.Path.{◌≡◌, refl}
use mathlib.Core.Bool.{true, false}
use mathlib.Core.Logic.{◌⊎◌, inl, inr}
use native.Mathlib.Nat.{eq-or-lt_of_le}
use native.Mathlib.Omega.{arith}
use borrow.Author.Tests.{eq-eqb, ne_eqb, lt-ltb, le-ltb}
use Rattle.cut.specs.Counter.{moves, next_counter, rises_from}
use Rattle.board_chip.specs.declared.namco163.Regs.{Regs}
use Rattle.board_chip.specs.Namco163.{with_counter}
use Rattle.board_chip.specs.Clock.{clock_counter}
use Rattle.call_run.specs.Clock.{counter_run, counter_rise}

-- ---- one clock

pub low-stops : (c : ℕ) → c < 0x8000 → moves c ≡ false
unfolding moves
low-stops c h = rw (lt-ltb c 0x8000 h)

pub top-stops : (c : ℕ) → c ≡ 0xFFFF → moves c ≡ false
unfolding moves
top-stops c e = rw e

pub quiet : (c : ℕ) → moves c ≡ false → rises_from c ≡ false
unfolding rises_from
quiet c h = rw h

pub stays : (r : Regs) → moves r.irq_counter ≡ false → clock_counter r ≡ r
unfolding clock_counter rises_from next_counter
stays r h = rw h

going : (c : ℕ) → 0x8000 ≤ c → c < 0xFFFF → moves c ≡ true
unfolding moves
going c l h = rw (le-ltb c 0x8000 l, ne_eqb c 0xFFFF (λ e. omega arith))

next_up : (c : ℕ) → 0x8000 ≤ c → c < 0xFFFF → next_counter c ≡ suc c
unfolding next_counter
next_up c l h = rw (going c l h) (omega arith)

quiet-up : (c : ℕ) → 0x8000 ≤ c → suc c < 0xFFFF → rises_from c ≡ false
unfolding rises_from
quiet-up c l h = rw (going c l (omega arith), next_up c l (omega arith)) (ne_eqb (suc c) 0xFFFF (λ e. omega arith))

rises-up : (c : ℕ) → 0x8000 ≤ c → suc c ≡ 0xFFFF → rises_from c ≡ true
unfolding rises_from
rises-up c l h = rw (going c l (omega arith), next_up c l (omega arith)) (eq-eqb (suc c) 0xFFFF h)

-- ---- n clocks: the registers that they leave, and the clock of the rise, or 0

pub record Ran (n : ℕ) (r after : Regs) (rises : ℕ) : Type 0 where
  pub regs : counter_run n r ≡ after
  pub rise : counter_rise n r ≡ rises

pub stopped : (n : ℕ) (r : Regs) → moves r.irq_counter ≡ false → Ran n r r 0
unfolding counter_run counter_rise
stopped zero r h = record { regs = refl; rise = refl }
stopped (suc n) r h =
    let g = stopped n r h in
    record { regs = rw g.regs (stays r h); rise = rw (g.regs, quiet r.irq_counter h) g.rise }

-- before the end
pub goes-up : (n : ℕ) (r : Regs) → 0x8000 ≤ r.irq_counter → r.irq_counter + n < 0xFFFF
    → Ran n r (with_counter r (r.irq_counter + n) r.irq_pending) 0
unfolding counter_run counter_rise clock_counter
goes-up zero r l h = let e : r.irq_counter + 0 ≡ r.irq_counter = omega arith in record { regs = rw e; rise = refl }
goes-up (suc n) r l h =
    let c = r.irq_counter in
    let g = goes-up n r l (omega arith) in
    let quietly = quiet-up (c + n) (omega arith) (omega arith) in
    let e : c + suc n ≡ suc (c + n) = omega arith in
    record {
      regs = rw (g.regs, next_up (c + n) (omega arith) (omega arith), quietly, e);
      rise = rw (g.regs, quietly) g.rise;
    }

-- d clocks from the end, and more
abbrev Ended : ℕ → Regs → ℕ → Type 0
Ended n r d = Ran n r (with_counter r 0xFFFF true) d

ended-now : (d : ℕ) (r : Regs) → 0x8000 ≤ r.irq_counter → r.irq_counter + suc d ≡ 0xFFFF → Ended (suc d) r (suc d)
unfolding counter_run counter_rise clock_counter
ended-now d r l h =
    let c = r.irq_counter in
    let u = (goes-up d r l (omega arith)).regs in
    let e : suc (c + d) ≡ 0xFFFF = omega arith in
    record {
      regs = rw (u, next_up (c + d) (omega arith) (omega arith), rises-up (c + d) (omega arith) e, e);
      rise = rw (u, rises-up (c + d) (omega arith) e);
    }

ended-more : (n d : ℕ) (r : Regs) → Ended n r d → Ended (suc n) r d
unfolding counter_run counter_rise
ended-more n d r h =
    record {
      regs = rw h.regs (stays (with_counter r 0xFFFF true) (top-stops 0xFFFF refl));
      rise = rw (h.regs, quiet 0xFFFF (top-stops 0xFFFF refl)) h.rise;
    }

pub ends : (n d : ℕ) (r : Regs) → 0x8000 ≤ r.irq_counter → r.irq_counter + suc d ≡ 0xFFFF → suc d ≤ n
    → Ran n r (with_counter r 0xFFFF true) (suc d)
ends zero d r l h k = absurd (omega arith)
ends (suc n) d r l h k = by (eq-or-lt_of_le {n = d} {m = n} (omega arith)) (ends n d r l h)
  where
    by : (d ≡ n) ⊎ (d < n) → (suc d ≤ n → Ended n r (suc d)) → Ended (suc n) r (suc d)
    by (inl e) ih = rw (← e) (ended-now d r l h)
    by (inr g) ih = ended-more n (suc d) r (ih (omega arith))
