-- C15 to C17: the plain machine, which makes single clocks.
use Rattle.std.specs.Prelude.{ℕ, zero, suc, Bool, cond, List, [], ◌∷◌, ◌++◌, length}
use Rattle.std.proofs.Math.Option.{Option, some, none}
use Rattle.cut.specs.Calls.{Call, run, other, refused, answered, Gave, last, Observed, with_run, with_other, Point, from}

-- C1, C2: one clock: the state after it, its sample if it makes one, and whether it is a rise.
pub record Clocked (State Sample : Type 0) : Type 0 where
  pub state : State
  pub sample : Option Sample
  pub rise : Bool

-- C17: what an accepted call other than a run answers and alters.
pub record Answered (State Answer : Type 0) : Type 0 where
  pub answer : Answer
  pub state : State

-- What the scope says: the single clock (C1, C2); the number by which a run of n with so many samples lent is refused, and that of any
-- other call, 0 for accepted (N); and what the other calls do when they are accepted (C17).
pub record Paper (State Sample Arg Answer : Type 0) : Type 0 where
  pub clock : State → Clocked State Sample
  pub refuses_run : ℕ → ℕ → State → ℕ
  pub refuses : Arg → State → ℕ
  pub answers : Arg → State → Answered State Answer

-- C2: a clock makes no sample, or one
abbrev pub of_option : {A : Type 0} → Option A → List A
of_option none = []
of_option (some a) = a ∷ []

module _ {State Sample : Type 0} (clock : State → Clocked State Sample) where
  -- C16: after a clock the count is one more, and a rise notes it
  unfoldable pub tick : Point State Sample → Point State Sample
  tick p =
      let c = clock p.state in
      let w = p.stretch in
      record {
        state = c.state;
        count = suc p.count;
        stretch =
            record {
              clocks = suc w.clocks;
              samples = w.samples ++ of_option c.sample;
              rises = w.rises ++ cond c.rise (suc p.count ∷ []) [];
            };
      }

  unfoldable pub ticks : ℕ → Point State Sample → Point State Sample
  ticks zero p = p
  ticks (suc n) p = tick (ticks n p)

-- C15, C16: the machine after a run of n with the refusal number q
abbrev pub machine_run : {State Sample : Type 0} → (State → Clocked State Sample) → ℕ → ℕ → Point State Sample → Point State Sample
machine_run clock zero n p = ticks clock n p
machine_run clock (suc q) n p = p

-- C15, C17: another call by its refusal number; refused, it leaves the state
abbrev pub plainly : {State Answer : Type 0} → ℕ → Answered State Answer → State → Gave State Answer
plainly zero b s = record { reply = answered b.answer; state = b.state }
plainly (suc q) b s = record { reply = refused (suc q); state = s }

module _ {State Sample Arg Answer : Type 0} (paper : Paper State Sample Arg Answer) where
  abbrev pub other_of : Arg → State → Gave State Answer
  other_of a s = plainly (paper.refuses a s) (paper.answers a s) s

  -- C15: the machine on a list, from a state, an arena and a count of clocks and from the calls' arguments alone
  unfoldable pub machine : List (Call Sample Arg) → Point State Sample → Observed State Sample Arg Answer
  machine [] p = record { trace = last p.stretch; refusals = []; state = p.state }
  machine (run n lent ∷ calls) p =
      let q = paper.refuses_run n (length lent) p.state in with_run q (machine calls (machine_run paper.clock q n p))
  machine (other a ∷ calls) p = let g = other_of a p.state in
      with_other p.stretch a g.reply (machine calls (from g.state p.count))
