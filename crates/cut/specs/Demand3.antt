-- What demand 3 claims of a board: D3.1 to D3.3.
use Rattle.std.specs.Prelude.{ℕ, ◌+◌, ◌-◌, ◌≤◌, ◌<◌, ◌≡◌, Bool, true, false, List, [], ◌∷◌, ◌++◌}
use Rattle.cut.specs.Calls.{Call, run, other, Board, Observed, start, noted, outline, all_clocks, all_rises}
use Rattle.cut.specs.Machine.{Paper, machine}

module _ {State Sample Arg Answer : Type 0} (board : Board State Sample Arg Answer) where
  -- C11: what a host notes of a list of calls from the state and arena that a load leaves
  abbrev pub observed : List (Call Sample Arg) → State → Observed State Sample Arg Answer
  observed calls s = noted board calls (start s)

  -- C19: board and machine agree on every list: in the samples and rises of each stretch, in the other calls' replies, in the refusal
  -- number of each run, and in the state and arena at the end. Samples that are equal here have equal bits (C20).
  abbrev pub AsMachine : Paper State Sample Arg Answer → Type 0
  AsMachine paper = (calls : List (Call Sample Arg)) (s : State) → observed calls s ≡ machine paper calls (start s)

  -- D3.1, C19: of two lists with the same other calls in the same order, their arguments too, and as many clocks in each stretch, the
  -- samples, the rises, the other calls' replies and the state and arena at the end are the same.
  abbrev pub CutBlind : Type 0
  CutBlind =
      (calls others : List (Call Sample Arg)) (s : State) → outline (observed calls s).trace ≡ outline (observed others s).trace
      → ((observed calls s).trace ≡ (observed others s).trace) × ((observed calls s).state ≡ (observed others s).state)

  -- D3.2: no other call writes or resets the counter: each leaves the counter and the line
  abbrev pub Untouched : (State → ℕ) → (State → Bool) → List (Call Sample Arg) → Type 0
  Untouched counter line [] = Unit {0}
  Untouched counter line (run n lent ∷ calls) = Untouched counter line calls
  Untouched counter line (other a ∷ calls) =
      ((s : State) → (counter (board.other a s).state ≡ counter s) × (line (board.other a s).state ≡ line s))
      × Untouched counter line calls

  -- D3.2: the list `first` leads to a counter of 0x8000 + n, n below 0x7FFF, with the line clear. Of the calls after it no other call
  -- touches the counter or the line, and their accepted runs make `more` clocks. With fewer than 0x7FFF − n they note no rise and leave the
  -- line clear. Else they note one, at that clock, and the line is up.
  pub record FirstRise (counter : State → ℕ) (line : State → Bool) (first rest : List (Call Sample Arg)) (s : State)
      (n more : ℕ) : Type 0 where
    pub early : more < 0x7FFF - n
        → (all_rises (observed (first ++ rest) s).trace ≡ all_rises (observed first s).trace)
        × (line (observed (first ++ rest) s).state ≡ false)
    pub due : 0x7FFF - n ≤ more
        → (all_rises (observed (first ++ rest) s).trace
        ≡ all_rises (observed first s).trace ++ (all_clocks (observed first s).trace + (0x7FFF - n)) ∷ [])
        × (line (observed (first ++ rest) s).state ≡ true)

  -- D3.2 for every `first` and `rest`
  abbrev pub RisesInTime : (State → ℕ) → (State → Bool) → Type 0
  RisesInTime counter line =
      (first rest : List (Call Sample Arg)) (s : State) (n more : ℕ)
      → counter (observed first s).state ≡ 0x8000 + n
      → n < 0x7FFF
      → line (observed first s).state ≡ false
      → Untouched counter line rest
      → all_clocks (observed (first ++ rest) s).trace ≡ all_clocks (observed first s).trace + more
      → FirstRise counter line first rest s n more

  -- D3.3: demand 3 as one statement
  pub record Demand3 (paper : Paper State Sample Arg Answer) (counter : State → ℕ) (line : State → Bool) : Type 0 where
    pub as-machine : AsMachine paper
    pub cut-blind : CutBlind
    pub rises-in-time : RisesInTime counter line
