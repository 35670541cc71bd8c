-- Load, L1 to L5: a new memory, and then the registers at load; no reset.
use Rattle.std.specs.Prelude.{ℕ, ◌≤◌, ◌≡◌, Bool, true, cond, List, Result, eqb, length, replicate}
use Rattle.memory.specs.declared.Memory.{Memory}
use Rattle.memory.specs.declared.layout.MemoryLayout.{MemoryLayout}
use Rattle.memory.specs.Layout.{within_limits}
use Rattle.memory_map.specs.New.{new_memory}
use Rattle.sound.specs.Audio.{with_choice}
use Rattle.board_chip.specs.declared.namco163.Namco163.{Namco163}
use Rattle.board_chip.specs.Load.{chip_at_load}
use Rattle.board_chip.specs.Namco163.{with_audio}
use Rattle.board_protection.specs.Protection.{remap_banks}
use Rattle.board_state.specs.declared.Options.{Options}
use Rattle.board_state.specs.declared.State.{State}
use Rattle.board_state.specs.None.{no_state}
use Rattle.refusals.specs.declared.Refusal.{Refusal}
use Rattle.refusals.specs.Refusal.{answered}
use Rattle.call_refusals.specs.Refusals.{unless_refused, unless_kept, load_checks}

-- R8: the memory with another used battery length
abbrev pub with_used : Memory → ℕ → Memory
with_used m used = record { layout = m.layout; battery_ext_len = used; prg_pages = m.prg_pages; chr_pages = m.chr_pages }

-- L5: mapper 19, which is a 163 at load (L3), uses 128 bytes of the reserve, mapper 210 none
unfoldable pub memory_at_load : ℕ → MemoryLayout → Memory
memory_at_load mapper sizes = with_used (new_memory sizes) (cond (eqb mapper 19) 128 0)

-- S13: a board whose sound has the choices of a load
abbrev pub chosen : Namco163 → Options → Namco163
chosen n options = with_audio n (with_choice n.audio options.signed_levels options.plain_sum)

-- L1, L19, S13: the state after an accepted load: the registers at load (chip), the page tables mapped by them, and the options
unfoldable pub fresh_state : ℕ → ℕ → ℕ → Bool → MemoryLayout → Options → State
fresh_state mapper sub flags known sizes options =
    let chip = chosen (chip_at_load mapper sub flags known) options in
    let protects = options.f800_protects in
    record { chip = chip; memory = remap_banks protects chip (memory_at_load mapper sizes); f800_protects = protects }

-- N21: a load's answer, and by what the function gives. Where it is refused, the state is one that no call accepts.
pub record Loaded : Type 0 where
  pub refusal : ℕ
  pub state : State

abbrev pub loaded : Result State Refusal → Loaded
loaded = answered (λ q. record { refusal = q; state = no_state }) (λ s. record { refusal = 0; state = s })

-- N4 to N7 and N21, or the fresh state
unfoldable pub load_answer : ℕ → ℕ → ℕ → Bool → MemoryLayout → Options → ℕ → Loaded
load_answer mapper sub flags known sizes options len =
    unless_refused (load_checks mapper sizes len) (λ q. record { refusal = q; state = no_state })
    (record { refusal = 0; state = fresh_state mapper sub flags known sizes options })

-- R5: every byte is 0
unfoldable pub load_arena : ℕ → MemoryLayout → List ℕ → List ℕ
load_arena mapper sizes arena = unless_kept (load_checks mapper sizes (length arena)) arena (replicate (length arena) 0)

-- what an accepted load knows of its sizes: neither N5 nor N6 holds
pub record LoadFits (mapper : ℕ) (sizes : MemoryLayout) : Type 0 where
  pub within : within_limits sizes ≡ true
  pub reserve : mapper ≡ 19 → 1 ≤ sizes.battery_ext
