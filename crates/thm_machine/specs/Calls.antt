-- M14: the thirteen calls of a list other than runs, with their arguments.
use Rattle.std.specs.Prelude.{ℕ, ◌<◌, List, Float}
use Rattle.cut.specs.Calls.{Call, run, other}
use Rattle.memory.specs.declared.layout.Src.{Src}
use Rattle.memory.specs.Range.{Bytes}
use Rattle.board_state.specs.declared.State.{State}
use Rattle.memory.specs.declared.changes.Changed.{Changed}

-- C11: what goes from call to call: the state, and the bytes of the arena
pub record Held : Type 0 where
  pub state : State
  pub arena : List ℕ

-- C12: a call with its arguments. A reset carries the host's number (C18), image writing the lent buffer.
pub data Other : Type 0 where
  cpu_read : ℕ → Other
  cpu_peek : ℕ → Other
  cpu_write : ℕ → ℕ → Other
  chr_read : ℕ → Other
  chr_write : ℕ → ℕ → Other
  fill : Src → List ℕ → Other
  region_peek : Src → ℕ → Other
  region_write : Src → ℕ → ℕ → Other
  sram : Other
  reset : ℕ → Other
  sync_battery : Other
  restore_battery : Other
  write_image : List ℕ → Other

-- C12: what the types of the arguments say: a value is a byte, and so is each lent one
abbrev pub ArgTyped : Other → Type 0
ArgTyped (cpu_read addr) = Unit {0}
ArgTyped (cpu_peek addr) = Unit {0}
ArgTyped (cpu_write addr v) = v < 256
ArgTyped (chr_read addr) = Unit {0}
ArgTyped (chr_write addr v) = v < 256
ArgTyped (fill src bytes) = Bytes bytes
ArgTyped (region_peek src offset) = Unit {0}
ArgTyped (region_write src offset v) = v < 256
ArgTyped sram = Unit {0}
ArgTyped (reset kind) = Unit {0}
ArgTyped sync_battery = Unit {0}
ArgTyped restore_battery = Unit {0}
ArgTyped (write_image buffer) = Unit {0}

abbrev pub CallTyped : Call Float Other → Type 0
CallTyped (run n lent) = Unit {0}
CallTyped (other a) = ArgTyped a

-- C19: the answer of an accepted call besides its number: a byte, the changed pages, a start and a length, the written image bytes, or
-- nothing
pub data Answer : Type 0 where
  byte : ℕ → Answer
  changed : Changed → Answer
  span : ℕ → ℕ → Answer
  image : List ℕ → Answer
  done : Answer
