-- L16, L17: when the type of a board can no longer change, in lists of calls on the board that the contracts give.
use Rattle.std.specs.Prelude.{◌≡◌, Bool, true, false, List, ◌++◌, ℕ, Float}
use Rattle.cut.specs.Calls.{Call, Trace, last, then, answered}
use Rattle.cut.specs.Demand3.{observed}
use Rattle.board_chip.specs.declared.namco163.Board.{Board}
use Rattle.board_chip.specs.declared.namco163.Board.TheVariants.{Namco340}
use Rattle.board_chip.specs.Load.{board_at_load}
use Rattle.thm_machine.specs.Calls.{Held, Other, reset, Answer, done}
use Rattle.thm_machine.specs.Board.{board}
use Rattle.thm_machine.specs.Start.{Loaded, loaded}

-- R8: the type, whether it is being detected, and the written flag
abbrev pub type_of : Held → Board
type_of h = h.state.chip.board

abbrev pub detects : Held → Bool
detects h = h.state.chip.auto_detect_board

abbrev pub written : Held → Bool
written h = h.state.chip.prg_ram_written_to

-- L16: a 340 that detects and was written to
pub record Settled (h : Held) : Type 0 where
  pub detecting : detects h ≡ true
  pub type : type_of h ≡ Namco340
  pub flag : written h ≡ true

-- L16: no reset of a list was accepted; one that is refused alters nothing
abbrev pub NoReset : Trace Float Other Answer → Type 0
NoReset (last w) = Unit {0}
NoReset (then w a r t) = ((kind : ℕ) → a ≡ reset kind → r ≡ answered done → ⊥) × NoReset t

-- C11: state and arena after a list
abbrev pub after : List (Call Float Other) → Held → Held
after calls h = (observed board calls h).state

-- ---- from every state and arena, in range or not

-- L16: it remains one; each beginning of a list is a list, so it does at every moment
abbrev pub StaysSettled : Type 0
StaysSettled = (calls : List (Call Float Other)) (h : Held) → Settled h → NoReset (observed board calls h).trace → Settled (after calls h)

-- L17: whether the type is being detected stays, in lists with resets too
abbrev pub StaysDetecting : Type 0
StaysDetecting = (calls : List (Call Float Other)) (h : Held) → detects (after calls h) ≡ detects h

-- L17: and where it is not, so does the type
abbrev pub StaysFixed : Type 0
StaysFixed = (calls : List (Call Float Other)) (h : Held) → detects h ≡ false → type_of (after calls h) ≡ type_of h

-- ---- from every load, which is of mapper 19 or 210 (N4)

-- L16: whatever calls led there, resets among them
abbrev pub SettledFromLoad : Type 0
SettledFromLoad = (l : Loaded) (first rest : List (Call Float Other)) → Settled (after first (loaded l))
    → NoReset (observed board rest (after first (loaded l))).trace → Settled (after (first ++ rest) (loaded l))

-- L17: a board that is not detecting has the type that the load gave it
abbrev pub TypeOfLoad : Type 0
TypeOfLoad = (l : Loaded) (calls : List (Call Float Other)) → detects (after calls (loaded l)) ≡ false
    → type_of (after calls (loaded l)) ≡ board_at_load l.mapper l.submapper
