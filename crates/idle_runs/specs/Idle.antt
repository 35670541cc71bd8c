-- C24 to C26, for any clock: a clock that alters nothing, and how many clocks of a run are enough.
use Rattle.std.specs.Prelude.{ℕ, zero, suc, ◌≤◌, ◌<◌, ◌≡◌, Bool, true, false, cond}
use Rattle.std.proofs.Math.Option.{none}
use Rattle.cut.specs.Calls.{Point, start}
use Rattle.cut.specs.Machine.{Clocked, ticks}

-- C26: two places of a list with the same state, samples and rises
pub record Same {State Sample : Type 0} (p q : Point State Sample) : Type 0 where
  pub state : p.state ≡ q.state
  pub samples : p.stretch.samples ≡ q.stretch.samples
  pub rises : p.stretch.rises ≡ q.stretch.rises

module _ {State Sample : Type 0} (clock : State → Clocked State Sample) where
  -- C24: a clock from s alters nothing: no field of the state, no sample, no rise
  pub record Still (s : State) : Type 0 where
    pub state : (clock s).state ≡ s
    pub sample : (clock s).sample ≡ none
    pub rise : (clock s).rise ≡ false

  -- the state after k single clocks from s
  abbrev pub after : ℕ → State → State
  after k s = (ticks clock k (start s)).state

  -- C24: of a run of n clocks from s the first k are enough, since each one behind them alters nothing
  pub record Ends (n k : ℕ) (s : State) : Type 0 where
    pub within : k ≤ n
    pub still : (j : ℕ) → k ≤ j → j < n → Still (after j s)

  -- C24: and no fewer are
  pub record Least (n k : ℕ) (s : State) : Type 0 where
    pub ends : Ends n k s
    pub least : (j : ℕ) → Ends n j s → k ≤ j

  -- C25: a test of a state that says whether the next clock alters nothing
  pub record Tests (idle : State → Bool) : Type 0 where
    pub yes-still : (s : State) → idle s ≡ true → Still s
    pub still-yes : (s : State) → Still s → idle s ≡ true

  -- C25: the clocks that a loop makes which ends where none is left or the next one alters nothing
  unfoldable pub busy : (State → Bool) → ℕ → State → ℕ
  busy idle zero s = 0
  busy idle (suc n) s = cond (idle s) 0 (suc (busy idle n (clock s).state))

  -- ---- C26: the same by what a run comes to as a whole

  -- k clocks come to what all n come to
  pub record Nets (n k : ℕ) (s : State) : Type 0 where
    pub within : k ≤ n
    pub same : Same (ticks clock n (start s)) (ticks clock k (start s))

  -- and no fewer do
  pub record LeastNet (n k : ℕ) (s : State) : Type 0 where
    pub nets : Nets n k s
    pub least : (j : ℕ) → Nets n j s → k ≤ j
