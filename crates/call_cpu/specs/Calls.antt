-- The CPU's calls, L7, L8 and L15: what each answers and alters, refused calls too. A refused call's other answer fields are 0, and its
-- state is the one it was given (N21).
use Rattle.std.specs.Prelude.{ℕ, cond, List, Result, length}
use Rattle.memory_bytes.specs.Bytes.{prg_peek, prg_write}
use Rattle.memory.specs.declared.changes.Changed.{Changed}
use Rattle.memory.specs.Changes.{changes, no_changes}
use Rattle.board_chip.specs.Reads.{served, byte_or, after_read}
use Rattle.board_registers.specs.Writes.{write_chip}
use Rattle.board_protection.specs.Protection.{remap_banks, remaps_in}
use Rattle.board_state.specs.declared.State.{State}
use Rattle.board_state.specs.State.{with_chip}
use Rattle.refusals.specs.declared.Refusal.{Refusal}
use Rattle.refusals.specs.Refusal.{answered}
use Rattle.call_cpu.specs.declared.calls.ByteRead.{ByteRead}
use Rattle.call_cpu.specs.declared.calls.Written.{Written}
use Rattle.call_answers.specs.Answers.{Peeked}
use Rattle.call_refusals.specs.Refusals.{unless_refused, unless_kept, cpu_checks}

-- ---- CPU read and peek: L8

-- L8: the byte that the board serves, or else the page's
abbrev pub cpu_byte : State → List ℕ → ℕ → ℕ
cpu_byte s arena addr = byte_or (prg_peek arena s.memory addr) (served s.chip addr)

-- N21: a read's answer, and by what the function gives, which was called on s
pub record ReadAnswer : Type 0 where
  pub refusal : ℕ
  pub byte : ℕ
  pub state : State

abbrev pub read_answer : State → Result ByteRead Refusal → ReadAnswer
read_answer s =
    answered (λ q. record { refusal = q; byte = 0; state = s })
    (λ (r : ByteRead). record { refusal = 0; byte = r.byte; state = r.state })

-- L8, S10: a read of the sound port moves its address, where auto-increment is set
abbrev pub state_after_read : State → ℕ → State
state_after_read s addr = with_chip s (after_read s.chip addr)

unfoldable pub cpu_read : State → List ℕ → ℕ → ReadAnswer
cpu_read s arena addr =
    unless_refused (cpu_checks s (length arena) addr) (λ q. record { refusal = q; byte = 0; state = s })
    (record { refusal = 0; byte = cpu_byte s arena addr; state = state_after_read s addr })

-- L8, S10: a peek changes nothing
unfoldable pub cpu_peek : State → List ℕ → ℕ → Peeked
cpu_peek s arena addr =
    unless_refused (cpu_checks s (length arena) addr) (λ q. record { refusal = q; byte = 0 })
    (record { refusal = 0; byte = cpu_byte s arena addr })

-- ---- CPU write: L7

-- L11, L21: the state after the register step, and the tables where they are made anew. The registers know no edition.
unfoldable pub write_register : State → ℕ → ℕ → State
write_register s addr v =
    let chip = write_chip s.chip addr v in
    let protects = s.f800_protects in
    record {
      chip = chip;
      memory = cond (remaps_in protects s.chip.board chip.board addr) (remap_banks protects chip s.memory) s.memory;
      f800_protects = protects;
    }

-- N21: a write's answer, a refused write's, and the answer by what the function gives, which was called on s
pub record WriteAnswer : Type 0 where
  pub refusal : ℕ
  pub state : State
  pub changed : Changed

abbrev pub refused_write : State → ℕ → WriteAnswer
refused_write s q = record { refusal = q; state = s; changed = no_changes }

abbrev pub write_answer : State → Result Written Refusal → WriteAnswer
write_answer s =
    answered (refused_write s) (λ (w : Written). record { refusal = 0; state = w.state; changed = w.changed })

-- L15: the answer has of each table a mask of what changed, their count and the lowest
unfoldable pub cpu_write : State → List ℕ → ℕ → ℕ → WriteAnswer
cpu_write s arena addr v =
    let t = write_register s addr v in
    unless_refused (cpu_checks s (length arena) addr) (refused_write s)
    (record { refusal = 0; state = t; changed = changes s.memory t.memory })

-- L7: the byte is stored by the table before the write
unfoldable pub cpu_write_arena : State → List ℕ → ℕ → ℕ → List ℕ
cpu_write_arena s arena addr v = unless_kept (cpu_checks s (length arena) addr) arena (prg_write arena s.memory addr v)
