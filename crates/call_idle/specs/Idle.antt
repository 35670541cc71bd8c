-- C25 on this board: when the next clock alters nothing, and how many clocks of a run do not. That a clock does so is in
-- crates/call_run/proofs/run/Idle.antt.
use Rattle.std.specs.Prelude.{ℕ, ◌-◌, min, Bool, true, cond, not, ◌&&◌, eqb}
use Rattle.cut.specs.Counter.{moves}
use Rattle.board_chip.specs.Namco163.{is163}
use Rattle.board_state.specs.declared.State.{State}

-- C2: the sound steps, on a 163 whose sound is enabled
unfoldable pub stepping : State → Bool
stepping s = is163 s.chip.board && not s.chip.audio.disabled

-- C25: neither does the sound step nor the counter move
unfoldable pub idle : State → Bool
idle s = not (stepping s) && not (moves s.chip.regs.irq_counter)

-- C25: of n clocks that remain none alters anything
unfoldable pub ends : ℕ → State → Bool
ends n s = cond (eqb n 0) true (idle s)

-- C1: the clocks after which a counter stops
unfoldable pub left : ℕ → ℕ
left c = cond (moves c) (0xFFFF - c) 0

-- C25: of n clocks those that alter something
unfoldable pub counted : ℕ → State → ℕ
counted n s = cond (stepping s) n (min n (left s.chip.regs.irq_counter))
