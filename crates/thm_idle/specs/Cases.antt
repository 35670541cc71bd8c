-- C25: runs of each kind, by their states: the clocks that they make, by the loop's definition and by its closed form, and their samples and
-- rise (C4, C5), which are those of all n clocks.
use Rattle.std.specs.Prelude.{ℕ, ◌≡◌, Bool, true, false, List, [], ◌∷◌, ◌++◌}
use Rattle.cut.specs.Contract.{last_or}
use Rattle.idle_runs.specs.Idle.{busy}
use Rattle.sound.specs.Audio.{with_disabled, with_counter as with_updates}
use Rattle.board_chip.specs.declared.namco163.Board.{Board}
use Rattle.board_chip.specs.declared.namco163.Board.TheVariants.{Namco163, Namco175, Namco340}
use Rattle.board_chip.specs.Namco163.{with_board, with_regs, with_audio, with_counter}
use Rattle.board_state.specs.declared.State.{State}
use Rattle.board_state.specs.None.{no_state}
use Rattle.board_state.specs.State.{with_chip}
use Rattle.call_run.specs.Clock.{state_clock}
use Rattle.call_idle.specs.Idle.{idle, counted}
use Rattle.call_run.specs.Run.{clocks, made, run_limit}

-- a state by what a clock looks at: the board, whether the sound is disabled, the counter and the update counter
abbrev pub state_of : Board → Bool → ℕ → ℕ → State
state_of b disabled counter updates =
    let n = no_state.chip in
    with_chip no_state
    (with_board
    (with_audio (with_regs n (with_counter n.regs counter false)) (with_updates (with_disabled n.audio disabled) updates)) b)

-- a run of n from s: its clocks, samples and rise
abbrev pub row : State → ℕ → ℕ → ℕ → ℕ → List (ℕ × ℕ)
row s n count samples rise =
    (busy state_clock idle n s, count) ∷ (counted n s, count) ∷ (made n s, samples) ∷ (last_or 0 (clocks n s).stretch.rises, rise) ∷ []

-- The clock that a counter stops on; a 163, its sound disabled and enabled; and no clock at all. Runs of a frame are in proofs/Cases.antt,
-- by the closed forms.
unfoldable pub table : List (ℕ × ℕ)
table =
    row (state_of Namco340 false 0xFFFB 0) 3 3 0 0
    ++ (row (state_of Namco340 false 0xFFFB 0) 4 4 0 4
    ++ (row (state_of Namco175 false 0xFFFE 3) 100 1 0 1
    ++ (row (state_of Namco163 true 0xFFFE 3) 100 1 0 1
    ++ (row (state_of Namco163 true 0xFFFF 3) 100 0 0 0
    ++ (row (state_of Namco163 true 0x7FFF 3) 100 0 0 0
    ++ (row (state_of Namco163 false 0xFFFF 14) 1 1 1 0
    ++ row (state_of Namco163 false 0x8000 7) 0 0 0 0))))))

-- a run of a frame from s: the same
pub record Frame (s : State) (count samples rise : ℕ) : Type 0 where
  pub clocked : busy state_clock idle run_limit s ≡ count
  pub sampled : made run_limit s ≡ samples
  pub risen : last_or 0 (clocks run_limit s).stretch.rises ≡ rise
