-- Refused calls: the conditions N2 to N9 and N12 with their numbers, and the checks that each call makes, in the order of the numbers (N0,
-- N20). N1 is in image_write, N10 and N11 are in call_run.
use Rattle.std.specs.Prelude.{ℕ, Bool, cond, not, ◌&&◌, List, [], ◌∷◌, eqb, ltb}
use Rattle.memory.specs.declared.layout.MemoryLayout.{MemoryLayout}
use Rattle.memory.specs.declared.layout.Src.{Src}
use Rattle.memory.specs.Layout.{within_limits, layout_of, arena_len}
use Rattle.memory.specs.Memory.{region_in}
use Rattle.board_state.specs.declared.State.{State}
use Rattle.board_state.specs.State.{mapper_ok, in_range}

-- N0: a condition, and the number of the refusal where it holds
pub record Check : Type 0 where
  pub number : ℕ
  pub holds : Bool

-- N0: the number of the first check that holds; 0 where none does
unfoldable pub first_of : List Check → ℕ
first_of [] = 0
first_of (c ∷ cs) = cond c.holds c.number (first_of cs)

-- N0, N21: what a call gives: where a check refuses, what is given for the first such number, else what the accepted call gives
abbrev pub unless_refused {ℓ} : {A : Type ℓ} → List Check → (ℕ → A) → A → A
unless_refused checks refused accepted = cond (eqb (first_of checks) 0) accepted (refused (first_of checks))

-- N0: the same of lent bytes, which a refused call leaves as they were
abbrev pub unless_kept {ℓ} : {A : Type ℓ} → List Check → A → A → A
unless_kept checks lent after = unless_refused checks (λ q. lent) after

-- N2: the state is out of range (R9)
abbrev pub state_check : State → Check
state_check s = record { number = 2; holds = not (in_range s) }

-- N3: the kind of a reset is above 1
abbrev pub kind_check : ℕ → Check
kind_check kind = record { number = 3; holds = ltb 1 kind }

-- N4: another mapper than 19 and 210
abbrev pub mapper_check : ℕ → Check
mapper_check mapper = record { number = 4; holds = not (mapper_ok mapper) }

-- N5: a size exceeds the limit of R1
abbrev pub sizes_check : MemoryLayout → Check
sizes_check sizes = record { number = 5; holds = not (within_limits sizes) }

-- N6: mapper 19 without a reserve
abbrev pub reserve_check : ℕ → MemoryLayout → Check
reserve_check mapper sizes = record { number = 6; holds = eqb mapper 19 && eqb sizes.battery_ext 0 }

-- N7: the lent arena has len bytes, and the layout makes one of another length (R4)
abbrev pub arena_check : ℕ → ℕ → Check
arena_check long len = record { number = 7; holds = not (eqb len long) }

-- N8: the address is less than 4800
abbrev pub address_check : ℕ → Check
address_check addr = record { number = 8; holds = ltb addr 0x4800 }

-- N9: a fill of n bytes, and the region has fewer
abbrev pub fill_check : State → Src → ℕ → Check
fill_check s src n = record { number = 9; holds = ltb (region_in s.memory src).len n }

-- N12: no byte of the reserve is used
abbrev pub battery_check : State → Check
battery_check s = record { number = 12; holds = eqb s.memory.battery_ext_len 0 }

-- ---- the checks of each call: N20

-- `sram` takes the state alone
abbrev pub state_checks : State → List Check
state_checks s = state_check s ∷ []

-- reset takes the state and the host's number of its kind
abbrev pub reset_checks : State → ℕ → List Check
reset_checks s kind = state_check s ∷ kind_check kind ∷ []

-- CHR read and write, `region_peek` and `region_write`; len is the lent arena's length
abbrev pub arena_checks : State → ℕ → List Check
arena_checks s len = state_check s ∷ arena_check (arena_len s.memory.layout) len ∷ []

-- CPU read, peek and write
abbrev pub cpu_checks : State → ℕ → ℕ → List Check
cpu_checks s len addr = state_check s ∷ arena_check (arena_len s.memory.layout) len ∷ address_check addr ∷ []

-- fill of n bytes
abbrev pub fill_checks : State → ℕ → Src → ℕ → List Check
fill_checks s len src n = state_check s ∷ arena_check (arena_len s.memory.layout) len ∷ fill_check s src n ∷ []

-- battery sync and restore
abbrev pub battery_checks : State → ℕ → List Check
battery_checks s len = state_check s ∷ arena_check (arena_len s.memory.layout) len ∷ battery_check s ∷ []

-- load; len is the lent arena's length
abbrev pub load_checks : ℕ → MemoryLayout → ℕ → List Check
load_checks mapper sizes len =
    mapper_check mapper ∷ sizes_check sizes ∷ reserve_check mapper sizes ∷ arena_check (arena_len (layout_of sizes)) len ∷ []
