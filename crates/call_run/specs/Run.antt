-- The run, C4 to C6: n single clocks, and what it answers and alters, refused runs too.
use Rattle.std.specs.Prelude.{ℕ, List, [], ◌∷◌, Result, ltb, Float, length}
use Rattle.cut.specs.Calls.{RunGave, Point, start}
use Rattle.cut.specs.Machine.{ticks}
use Rattle.cut.specs.Contract.{run_by}
use Rattle.board_state.specs.declared.State.{State}
use Rattle.refusals.specs.declared.Refusal.{Refusal}
use Rattle.refusals.specs.Refusal.{answered}
use Rattle.call_refusals.specs.Refusals.{Check, first_of, state_check}
use Rattle.call_run.specs.declared.run.Ran.{Ran}
use Rattle.call_run.specs.Clock.{state_clock}

-- C4: n single clocks from a state
abbrev pub clocks : ℕ → State → Point State Float
clocks n s = ticks state_clock n (start s)

-- C6: how many samples they make
unfoldable pub made : ℕ → State → ℕ
made n s = length (clocks n s).stretch.samples

-- C4, N10: the most clocks of a run
abbrev pub run_limit : ℕ
run_limit = 29781

-- C6: as many samples as a run can make; `samples-most` says that it is what the longest run makes from the greatest update counter
abbrev pub samples_most : ℕ
samples_most = 1986

-- N10: more clocks than a run may have
abbrev pub length_check : ℕ → Check
length_check n = record { number = 10; holds = ltb run_limit n }

-- N11: places for fewer samples than n clocks make
abbrev pub room_check : State → ℕ → ℕ → Check
room_check s n room = record { number = 11; holds = ltb room (made n s) }

-- N20: a run takes the state, the clocks and the lent samples
abbrev pub run_checks : State → ℕ → ℕ → List Check
run_checks s n room = state_check s ∷ length_check n ∷ room_check s n room ∷ []

-- C4, C5: what a run of n answers and leaves, the lent samples too
unfoldable pub run_gave : State → ℕ → List Float → RunGave State Float
run_gave s n lent = run_by (first_of (run_checks s n (length lent))) (clocks n s) lent s

-- C5: of what it leaves, what an accepted run gives
abbrev pub ran_in : RunGave State Float → Ran
ran_in g = record { made = g.made; rise = g.rise; state = g.state }

-- C5, N21: a run's answer, and by what the function gives, which was called on s
pub record RunAnswer : Type 0 where
  pub refusal : ℕ
  pub made : ℕ
  pub rise : ℕ
  pub state : State

abbrev pub run_answer : State → Result Ran Refusal → RunAnswer
run_answer s =
    answered (λ q. record { refusal = q; made = 0; rise = 0; state = s })
    (λ (r : Ran). record { refusal = 0; made = r.made; rise = r.rise; state = r.state })

-- C5: the answer without the lent samples
abbrev pub ran_of : RunGave State Float → RunAnswer
ran_of g = record { refusal = g.refusal; made = g.made; rise = g.rise; state = g.state }
