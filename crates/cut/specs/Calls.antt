-- A list of calls, and what a host notes of it: C11 to C14.
use Rattle.std.specs.Prelude.{ℕ, zero, suc, ◌+◌, List, [], ◌∷◌, ◌++◌, take}

-- C12: a call, by its arguments. A run has a number of clocks and the samples that are lent. Any other call is an `Arg`: which call it is,
-- and its arguments, lent buffers among them.
pub data Call (Sample Arg : Type 0) : Type 0 where
  run : ℕ → List Sample → Call Sample Arg
  other : Arg → Call Sample Arg

-- C4, C5: what a run gives back. `state` is always the board's state together with the arena. `refusal` is 0 for accepted, `made` counts
-- the samples, `rise` says which clock was a rise, or 0, and `samples` are the lent samples afterwards.
pub record RunGave (State Sample : Type 0) : Type 0 where
  pub refusal : ℕ
  pub made : ℕ
  pub rise : ℕ
  pub samples : List Sample
  pub state : State

-- N0, C19: what any other call gives back: its number if it is refused, else its answer, written image bytes among it.
pub data Reply (Answer : Type 0) : Type 0 where
  refused : ℕ → Reply Answer
  answered : Answer → Reply Answer

pub record Gave (State Answer : Type 0) : Type 0 where
  pub reply : Reply Answer
  pub state : State

-- C19: a board, as what its functions give back, for every argument and every state.
pub record Board (State Sample Arg Answer : Type 0) : Type 0 where
  pub run : ℕ → List Sample → State → RunGave State Sample
  pub other : Arg → State → Gave State Answer

-- C13, C14: a stretch of runs, maybe of none. Of a stretch a host notes the clocks of its accepted runs, their samples and their rises.
pub record Stretch (Sample : Type 0) : Type 0 where
  pub clocks : ℕ
  pub samples : List Sample
  pub rises : List ℕ

abbrev pub empty : {Sample : Type 0} → Stretch Sample
empty = record { clocks = 0; samples = []; rises = [] }

-- C13: a list's trace: a stretch, the other call that ends it and its reply, again and again, and the last stretch.
pub data Trace (Sample Arg Answer : Type 0) : Type 0 where
  last : Stretch Sample → Trace Sample Arg Answer
  then : Stretch Sample → Arg → Reply Answer → Trace Sample Arg Answer → Trace Sample Arg Answer

-- C19: all that is observed of a list: its trace, the refusal number of each run in order, and the state and arena at the end.
pub record Observed (State Sample Arg Answer : Type 0) : Type 0 where
  pub trace : Trace Sample Arg Answer
  pub refusals : List ℕ
  pub state : State

abbrev pub with_run : {State Sample Arg Answer : Type 0} → ℕ → Observed State Sample Arg Answer → Observed State Sample Arg Answer
with_run q t = record { trace = t.trace; refusals = q ∷ t.refusals; state = t.state }

abbrev pub with_other : {State Sample Arg Answer : Type 0}
    → Stretch Sample → Arg → Reply Answer → Observed State Sample Arg Answer → Observed State Sample Arg Answer
with_other w a r t = record { trace = then w a r t.trace; refusals = t.refusals; state = t.state }

-- C11, C14: where a list stands: the state and arena, the clocks of all accepted runs so far, and the stretch so far.
pub record Point (State Sample : Type 0) : Type 0 where
  pub state : State
  pub count : ℕ
  pub stretch : Stretch Sample

-- C13: where a stretch begins; C11: where a list begins
abbrev pub from : {State Sample : Type 0} → State → ℕ → Point State Sample
from s k = record { state = s; count = k; stretch = empty }

abbrev pub start : {State Sample : Type 0} → State → Point State Sample
start s = from s 0

-- C14: a run's rise, if it has one, counted since the load; the accepted runs before it made k clocks
abbrev pub rise_after : ℕ → ℕ → List ℕ
rise_after k zero = []
rise_after k (suc r) = (k + suc r) ∷ []

-- C14: a stretch and one more accepted run: n clocks more, its samples behind those before, and its rise
abbrev pub joined : {State Sample : Type 0} → Stretch Sample → ℕ → ℕ → RunGave State Sample → Stretch Sample
joined w k n g =
    record {
      clocks = w.clocks + n;
      samples = w.samples ++ take g.made g.samples;
      rises = w.rises ++ rise_after k g.rise;
    }

-- C13: a host's notes after a run of n: an accepted one (refusal 0) is joined to the stretch, a refused one counts no clock.
abbrev pub after_run : {State Sample : Type 0} → ℕ → ℕ → RunGave State Sample → Point State Sample → Point State Sample
after_run zero n g p = record { state = g.state; count = p.count + n; stretch = joined p.stretch p.count n g }
after_run (suc q) n g p = record { state = g.state; count = p.count; stretch = p.stretch }

module _ {State Sample Arg Answer : Type 0} (board : Board State Sample Arg Answer) where
  -- C11: what a host notes of a list; state and arena go from call to call
  unfoldable pub noted : List (Call Sample Arg) → Point State Sample → Observed State Sample Arg Answer
  noted [] p = record { trace = last p.stretch; refusals = []; state = p.state }
  noted (run n lent ∷ calls) p = let g = board.run n lent p.state in with_run g.refusal (noted calls (after_run g.refusal n g p))
  noted (other a ∷ calls) p = let g = board.other a p.state in
      with_other p.stretch a g.reply (noted calls (from g.state p.count))

-- D3.1: a list's outline: its other calls with their arguments, in order, and the clocks of each stretch.
pub data Outline (Arg : Type 0) : Type 0 where
  last : ℕ → Outline Arg
  then : ℕ → Arg → Outline Arg → Outline Arg

abbrev pub outline : {Sample Arg Answer : Type 0} → Trace Sample Arg Answer → Outline Arg
outline (last w) = last w.clocks
outline (then w a r t) = then w.clocks a (outline t)

-- C14: the clocks and the rises of a whole trace
abbrev pub all_clocks : {Sample Arg Answer : Type 0} → Trace Sample Arg Answer → ℕ
all_clocks (last w) = w.clocks
all_clocks (then w a r t) = w.clocks + all_clocks t

abbrev pub all_rises : {Sample Arg Answer : Type 0} → Trace Sample Arg Answer → List ℕ
all_rises (last w) = w.rises
all_rises (then w a r t) = w.rises ++ all_rises t
