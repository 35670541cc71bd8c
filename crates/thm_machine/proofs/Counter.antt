-- C1: the clock of `paper` has the counter of mappers 19 and 210, on every board.
use mathlib.Core.Path.{◌≡◌, refl, ap}
use mathlib.Core.Bool.{Bool, true, false, cond}
use Rattle.cut.specs.Counter.{Counter, rises_from, next_counter}
use Rattle.board_chip.specs.declared.namco163.Regs.{Regs}
use Rattle.board_chip.specs.Namco163.{is163}
use Rattle.board_chip.specs.Clock.{clock_counter}
use Rattle.call_run.specs.Clock.{chip_clock, state_clock}
use Rattle.thm_machine.specs.Calls.{Held}
use Rattle.thm_machine.specs.Paper.{clock, paper}
use Rattle.thm_machine.specs.Counter.{counter_of, line_of}

-- a sound clock, which only a 163 has, leaves the counter and the line
clock-regs : (h : Held) → (clock h).state.state.chip.regs ≡ clock_counter h.state.chip.regs
unfolding clock state_clock chip_clock
clock-regs h = by (is163 h.state.chip.board) refl
  where
    by : (t : Bool) → is163 h.state.chip.board ≡ t → (clock h).state.state.chip.regs ≡ clock_counter h.state.chip.regs
    by true e = rw e
    by false e = rw e

pub counts : (h : Held) → counter_of (clock h).state ≡ next_counter (counter_of h)
unfolding clock_counter
counts h = ap (λ (r : Regs). r.irq_counter) (clock-regs h)

pub pends : (h : Held) → line_of (clock h).state ≡ cond (rises_from (counter_of h)) true (line_of h)
unfolding clock_counter
pends h = ap (λ (r : Regs). r.irq_pending) (clock-regs h)

pub rises : (h : Held) → (clock h).rise ≡ rises_from (counter_of h)
unfolding clock state_clock chip_clock
rises h = by (is163 h.state.chip.board) refl
  where
    by : (t : Bool) → is163 h.state.chip.board ≡ t → (clock h).rise ≡ rises_from (counter_of h)
    by true e = rw e
    by false e = rw e

unfoldable pub counter : Counter paper.clock
counter = record { counter = counter_of; line = line_of; counts = counts; rises = rises; pends = pends }
