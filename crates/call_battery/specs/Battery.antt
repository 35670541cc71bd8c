-- The battery, C9: what each call answers and alters, refused calls too.
use Rattle.std.specs.Prelude.{ℕ, List, length, take, drop}
use Rattle.memory.specs.declared.layout.Src.TheVariants.{BatteryExt}
use Rattle.memory_bytes.specs.Bytes.{overlay}
use Rattle.memory.specs.Memory.{region_in}
use Rattle.sound.specs.Audio.{with_ram}
use Rattle.board_chip.specs.Namco163.{with_audio}
use Rattle.board_state.specs.declared.State.{State}
use Rattle.call_answers.specs.Answers.{Altered}
use Rattle.call_refusals.specs.Refusals.{unless_refused, unless_kept, battery_checks}
use Rattle.board_state.specs.State.{with_chip}

-- C9: the sound RAM at the reserve's first bytes; every other byte of the arena stays
unfoldable pub sync_arena : State → List ℕ → List ℕ
sync_arena s arena =
    unless_kept (battery_checks s (length arena)) arena (overlay arena (region_in s.memory BatteryExt).start s.chip.audio.ram)

-- C9: the reserve's first 128 bytes
abbrev pub battery_bytes : State → List ℕ → List ℕ
battery_bytes s arena = take 128 (drop (region_in s.memory BatteryExt).start arena)

-- C9: these bytes as the sound RAM, and nothing else
unfoldable pub restore_state : State → List ℕ → Altered
restore_state s arena =
    let chip = s.chip in
    unless_refused (battery_checks s (length arena)) (λ q. record { refusal = q; state = s })
    (record { refusal = 0; state = with_chip s (with_audio chip (with_ram chip.audio (battery_bytes s arena))) })
