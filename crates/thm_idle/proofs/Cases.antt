-- The table of specs/Cases.antt in one computed test, and runs of a frame.
use Prim.Native.Nat.{ℕ, ◌+◌, ◌/◌, ◌^◌, ◌≤◌, ◌<◌}
use mathlib.Core.Path.{◌≡◌, refl, ◌∙◌}
use mathlib.Core.Bool.{true, false, cond}
use native.Mathlib.Omega.{arith}
use Rattle.limits.specs.Limits.{update_most}
use Rattle.cut.specs.Counter.{moves, next_counter, rises_from}
use Rattle.cut.specs.Machine.{tick, ticks}
use Rattle.idle_runs.specs.Idle.{busy}
use Rattle.sound_clock.specs.Cases.{right}
use Rattle.sound_clock.specs.Clock.{next_channel, update_channel, updated, sound_clock}
use Rattle.board_chip.specs.declared.namco163.Board.{Board}
use Rattle.board_chip.specs.declared.namco163.Board.TheVariants.{Unknown, Namco163, Namco340}
use Rattle.board_chip.specs.declared.namco163.Regs.{Regs}
use Rattle.board_chip.specs.Namco163.{is163}
use Rattle.board_chip.specs.Clock.{clock_counter}
use Rattle.board_state.specs.None.{no_state}
use Rattle.call_run.specs.Clock.{sound_sample, chip_clock, state_clock, counter_rise}
use Rattle.call_idle.specs.Idle.{stepping, idle, left, counted}
use Rattle.call_run.specs.Run.{made, run_limit}
use Rattle.call_run.proofs.clock.Laws.{stopped, goes-up, ends}
use Rattle.call_run.proofs.run.Idle.{busy-closed}
use Rattle.call_run.proofs.run.Laws.{made-floor, rise-is}
use Rattle.thm_idle.specs.Cases.{state_of, table, Frame}

pub cases : right table ≡ true
unfolding right table busy tick ticks moves next_counter rises_from next_channel update_channel updated sound_clock clock_counter no_state
    sound_sample chip_clock state_clock stepping idle left counted made
cases = refl

-- ---- runs of a frame

-- by the closed forms, u being the update counter and c the other
frame : (b : Board) (c u count samples rise : ℕ) → let s = state_of b false c u in c < 2 ^ 16 → u ≤ update_most → counted run_limit s ≡ count
    → cond (is163 b) ((u + run_limit) / 15) 0 ≡ samples → counter_rise run_limit s.chip.regs ≡ rise → Frame s count samples rise
frame b c u count samples rise small low e m r =
    let s = state_of b false c u in
    record {
      clocked = busy-closed run_limit s small ∙ e;
      sampled = made-floor run_limit s low ∙ m;
      risen = rise-is run_limit s ∙ r;
    }

abbrev regs : Board → ℕ → Regs
regs b c = (state_of b false c 0).chip.regs

-- a counter that stands, on a 340 and an Unknown; one that moves, to its end and not so far; and a 163 whose sound steps
pub frames : Frame (state_of Namco340 false 0x0000 0) 0 0 0
    × (Frame (state_of Unknown false 0x7FFE 0) 0 0 0
    × (Frame (state_of Namco340 false 0x8134 0) 29781 0 0
    × (Frame (state_of Namco340 false 0xF000 0) 4095 0 4095
    × Frame (state_of Namco163 false 0x0000 0) 29781 1985 0)))
unfolding counted stepping left moves no_state
frames = (
  frame Namco340 0x0000 0 0 0 0 (omega arith) (omega arith) refl refl (stopped run_limit (regs Namco340 0) refl).rise,
  (
    frame Unknown 0x7FFE 0 0 0 0 (omega arith) (omega arith) refl refl (stopped run_limit (regs Unknown 0x7FFE) refl).rise,
    (
      frame Namco340 0x8134 0 29781 0 0 (omega arith) (omega arith) refl refl
          (goes-up run_limit (regs Namco340 0x8134) (omega arith) (omega arith)).rise,
      (
        frame Namco340 0xF000 0 4095 0 4095 (omega arith) (omega arith) refl refl
            (ends run_limit 4094 (regs Namco340 0xF000) (omega arith) (omega arith) (omega arith)).rise,
        frame Namco163 0x0000 0 29781 1985 0 (omega arith) (omega arith) refl refl (stopped run_limit (regs Namco163 0) refl).rise,
      ),
    ),
  ),
)
