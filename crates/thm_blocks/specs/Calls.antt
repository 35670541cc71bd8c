-- K7: the calls of a list with a directory: M14's thirteen others, registering and looking up.
use Rattle.std.specs.Prelude.{ℕ, ◌^◌, ◌<◌, List, Float}
use Rattle.cut.specs.Calls.{Call, run, other}
use Rattle.thm_machine.specs.Calls.{Held, Other, Answer}

-- C11, K7: what goes from call to call: state and arena, and the places of the directory
pub record HeldBlocks : Type 0 where
  pub held : Held
  pub places : List ℕ

-- C12: a call with its arguments: a registering has start, length and number, a lookup the start
pub data BlockCall : Type 0 where
  base : Other → BlockCall
  register : ℕ → ℕ → ℕ → BlockCall
  lookup : ℕ → BlockCall

-- C12: what the type of a registering's number says; no other argument matters to the theorems
abbrev pub NumberTyped : Call Float BlockCall → Type 0
NumberTyped (run n lent) = Unit {0}
NumberTyped (other (base a)) = Unit {0}
NumberTyped (other (register start len number)) = number < 2 ^ 32
NumberTyped (other (lookup start)) = Unit {0}

-- C12: what is said of the calls without a directory, of a list with one
abbrev pub Inner : (Call Float Other → Type 0) → Call Float BlockCall → Type 0
Inner T (run n lent) = T (run n lent)
Inner T (other (base a)) = T (other a)
Inner T (other (register start len number)) = Unit {0}
Inner T (other (lookup start)) = Unit {0}

-- C19: the answer of an accepted call: as without a directory, the length and number that a lookup hands out, or that it finds none
pub data BlockAnswer : Type 0 where
  base : Answer → BlockAnswer
  found : ℕ → ℕ → BlockAnswer
  none : BlockAnswer
