-- The numbers of the refusals (N0), and an answer by them.
use Rattle.std.specs.Prelude.{ℕ, Result, Ok, Err}
use Rattle.refusals.specs.declared.Refusal.{Refusal}
use Rattle.refusals.specs.declared.word.Word.{Word}
use Rattle.refusals.specs.declared.Refusal.TheVariants.{Image, State, Kind, Mapper, Size, Reserve, Arena, Address, Fill, Clocks, Room}
use Rattle.refusals.specs.declared.Refusal.TheVariants.{Battery, Block, Full}

-- N0
abbrev pub number_of : Refusal → ℕ
number_of Image = 1
number_of State = 2
number_of Kind = 3
number_of Mapper = 4
number_of Size = 5
number_of Reserve = 6
number_of Arena = 7
number_of Address = 8
number_of Fill = 9
number_of Clocks = 10
number_of Room = 11
number_of Battery = 12
number_of Block = 13
number_of Full = 14

-- N0: of an answer: 0 where the call is accepted
abbrev pub refusal_of : {A : Type 0} → Result A Refusal → ℕ
refusal_of (Ok a) = 0
refusal_of (Err r) = number_of r

-- N0, N21: what an answer says: where the call is refused, what is said for the number, else what is said of what it gave
abbrev pub answered {ℓ} : {A : Type 0} {B : Type ℓ} → (ℕ → B) → (A → B) → Result A Refusal → B
answered refused accepted (Ok a) = accepted a
answered refused accepted (Err r) = refused (number_of r)

-- H6: a call's word: of a refused call the number
abbrev pub word_of : Result Word Refusal → ℕ
word_of (Ok given) = given.bits
word_of (Err r) = number_of r
