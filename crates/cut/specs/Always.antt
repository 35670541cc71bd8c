-- What holds after every list of calls (C11): a fact about state and arena that each call keeps, and refusals that never come.
use Rattle.std.specs.Prelude.{ℕ, ◌≡◌, List, [], ◌∷◌}
use Rattle.cut.specs.Calls.{Call, run, other, refused, Board, Trace, last, then, Observed}

-- C12: each call of a list has arguments of their types
abbrev pub AllTyped : {Sample Arg : Type 0} → (Call Sample Arg → Type 0) → List (Call Sample Arg) → Type 0
AllTyped Typed [] = Unit {0}
AllTyped Typed (c ∷ calls) = Typed c × AllTyped Typed calls

-- C19: no call other than a run is refused by q
abbrev pub NoReply : {Sample Arg Answer : Type 0} → ℕ → Trace Sample Arg Answer → Type 0
NoReply q (last w) = Unit {0}
NoReply q (then w a r t) = (r ≡ refused q → ⊥) × NoReply q t

-- C19: and no run
abbrev pub NoNumber : ℕ → List ℕ → Type 0
NoNumber q [] = Unit {0}
NoNumber q (r ∷ rs) = (r ≡ q → ⊥) × NoNumber q rs

-- each element of a list
abbrev pub Each : {Sample : Type 0} → (Sample → Type 0) → List Sample → Type 0
Each P [] = Unit {0}
Each P (x ∷ xs) = P x × Each P xs

-- C14: each sample of each stretch
abbrev pub EachSample : {Sample Arg Answer : Type 0} → (Sample → Type 0) → Trace Sample Arg Answer → Type 0
EachSample P (last w) = Each P w.samples
EachSample P (then w a r t) = Each P w.samples × EachSample P t

pub record NeverRefused {State Sample Arg Answer : Type 0} (q : ℕ) (o : Observed State Sample Arg Answer) : Type 0 where
  pub others : NoReply q o.trace
  pub runs : NoNumber q o.refusals

module _ {State Sample Arg Answer : Type 0} (board : Board State Sample Arg Answer) (Typed : Call Sample Arg → Type 0)
    (Holds : State → Type 0) where
  -- each call keeps it, refused ones too
  pub record Kept : Type 0 where
    pub run : (n : ℕ) (lent : List Sample) (s : State) → Typed (run n lent) → Holds s → Holds (board.run n lent s).state
    pub other : (a : Arg) (s : State) → Typed (other a) → Holds s → Holds (board.other a s).state

  -- where it holds no call is refused by q
  pub record Never (q : ℕ) : Type 0 where
    pub run : (n : ℕ) (lent : List Sample) (s : State) → Holds s → (board.run n lent s).refusal ≡ q → ⊥
    pub other : (a : Arg) (s : State) → Holds s → (board.other a s).reply ≡ refused q → ⊥
