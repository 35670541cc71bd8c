-- C11: where a list starts: an accepted load.
use Rattle.std.specs.Prelude.{ℕ, ◌≡◌, Bool, List, length, replicate}
use Rattle.memory.specs.declared.layout.MemoryLayout.{MemoryLayout}
use Rattle.memory.specs.Layout.{layout_of, arena_len}
use Rattle.board_state.specs.declared.Options.{Options}
use Rattle.call_load.specs.Cartridge.{fresh_state, load_answer, load_arena}
use Rattle.call_refusals.specs.Refusals.{first_of, load_checks}
use Rattle.thm_machine.specs.Calls.{Held}

-- C11: a load's arguments, and that it is accepted
pub record Loaded : Type 0 where
  pub mapper : ℕ
  pub submapper : ℕ
  pub flags : ℕ
  pub known : Bool
  pub sizes : MemoryLayout
  pub options : Options
  pub arena : List ℕ
  pub accepted : first_of (load_checks mapper sizes (length arena)) ≡ 0

-- C11: the state that the call answers, and the arena that it leaves
abbrev pub loaded : Loaded → Held
loaded l =
    record {
      state = (load_answer l.mapper l.submapper l.flags l.known l.sizes l.options (length l.arena)).state;
      arena = load_arena l.mapper l.sizes l.arena;
    }

-- C15: the machine's own: a fresh state, and as many zeros as the layout has bytes
abbrev pub zeroed : Loaded → Held
zeroed l =
    record {
      state = fresh_state l.mapper l.submapper l.flags l.known l.sizes l.options;
      arena = replicate (arena_len (layout_of l.sizes)) 0;
    }
