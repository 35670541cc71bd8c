-- K5, H4, H6: what the host's calls with a directory answer and leave on a state, once its image is read, refused calls too. The places
-- after a CPU write are call_blocks' `cpu_write_drops`.
use Rattle.std.specs.Prelude.{ℕ, cond, List, [], ltb, length}
use Rattle.std.proofs.Math.Option.{Option, some, none}
use Rattle.memory.specs.declared.Memory.{Memory}
use Rattle.memory.specs.Layout.{arena_len}
use Rattle.board_state.specs.declared.State.{State}
use Rattle.call_refusals.specs.Refusals.{unless_refused, unless_kept, cpu_checks}
use Rattle.directory.specs.Drop.{dropped}
use Rattle.directory_touched.specs.Touched.{touched}
use Rattle.call_blocks.specs.Blocks.{with_directory}
use Rattle.host_state.specs.HostState.{Gives, unaltered, write_gives}

-- N2: refused by the directory, else as the write without one
abbrev pub write_blocks_on : List ℕ → State → List ℕ → List ℕ → ℕ → ℕ → Gives
write_blocks_on d s img arena addr v =
    unless_refused (with_directory d (cpu_checks s (length arena) addr)) (unaltered img arena) (write_gives (length img) s arena addr v)

-- ---- a store of the host's own into the arena: K5

-- the arena's byte at an offset; none behind its end
abbrev pub arena_byte : Memory → ℕ → Option ℕ
arena_byte m offset = cond (ltb offset (arena_len m.layout)) (some offset) none

-- no entry changes
unfoldable pub stored_touched : State → ℕ → ℕ
stored_touched s offset = touched s.memory.prg_pages s.memory.prg_pages (arena_byte s.memory offset)

unfoldable pub stored_drops : List ℕ → State → ℕ → List ℕ
stored_drops d s offset = unless_kept (with_directory d []) d (dropped (stored_touched s offset) d)
