-- R4, R9: a state that is known, and the arena that belongs to it: of the layout's length, and of bytes.
use Rattle.std.specs.Prelude.{◌≡◌, length}
use Rattle.memory.specs.Layout.{arena_len}
use Rattle.memory.specs.Range.{Bytes}
use Rattle.board_state.specs.State.{Known}
use Rattle.thm_machine.specs.Calls.{Held}

pub record Fit (h : Held) : Type 0 where
  pub known : Known h.state
  pub long : length h.arena ≡ arena_len h.state.memory.layout
  pub bytes : Bytes h.arena
