-- What the scope says of the board: the single clock (C1, C2), the refusal of each call (N), and what each accepted call answers and alters
-- (C17). Neither the fast run nor an answer of the code occurs in it.
use Rattle.std.specs.Prelude.{ℕ, List, Float, length}
use Rattle.cut.specs.Machine.{Clocked, Answered, Paper}
use Rattle.memory.specs.declared.layout.Src.TheVariants.{BatteryExt}
use Rattle.memory_bytes.specs.Bytes.{prg_write, chr_peek, chr_write as chr_store, region_peek as region_byte, region_write as region_store}
use Rattle.memory_bytes.specs.Bytes.{fill_region, sram_of, overlay}
use Rattle.memory.specs.Memory.{region_in}
use Rattle.sound.specs.Audio.{with_ram}
use Rattle.board_chip.specs.Namco163.{with_audio}
use Rattle.board_chip.specs.Reads.{after_read}
use Rattle.board_chip.specs.Reset.{reset_chip}
use Rattle.board_state.specs.declared.State.{State}
use Rattle.call_refusals.specs.Refusals.{first_of, Check, state_checks, reset_checks, arena_checks, cpu_checks, fill_checks, battery_checks}
use Rattle.board_state.specs.State.{with_chip}
use Rattle.call_cpu.specs.Calls.{cpu_byte, write_register}
use Rattle.memory.specs.Changes.{changes}
use Rattle.call_reset.specs.Reset.{kind_of}
use Rattle.call_battery.specs.Battery.{battery_bytes}
use Rattle.image_write.specs.Options.{image_at}
use Rattle.image_write.specs.Writing.{write_checks}
use Rattle.call_run.specs.Clock.{state_clock}
use Rattle.call_run.specs.Run.{run_checks}
use Rattle.thm_machine.specs.Calls.{Held, Other, cpu_read, cpu_peek, cpu_write, chr_read, chr_write, fill, region_peek, region_write, sram}
use Rattle.thm_machine.specs.Calls.{reset, sync_battery, restore_battery, write_image, Answer, byte, changed, span, image, done}

-- C1, C2: one clock; it leaves the arena
unfoldable pub clock : Held → Clocked Held Float
clock h = let c = state_clock h.state in
    record { state = record { state = c.state; arena = h.arena }; sample = c.sample; rise = c.rise }

-- N20: the checks of each call, in the order of their numbers
unfoldable pub checks : Other → Held → List Check
checks (cpu_read addr) h = cpu_checks h.state (length h.arena) addr
checks (cpu_peek addr) h = cpu_checks h.state (length h.arena) addr
checks (cpu_write addr v) h = cpu_checks h.state (length h.arena) addr
checks (chr_read addr) h = arena_checks h.state (length h.arena)
checks (chr_write addr v) h = arena_checks h.state (length h.arena)
checks (fill src bytes) h = fill_checks h.state (length h.arena) src (length bytes)
checks (region_peek src offset) h = arena_checks h.state (length h.arena)
checks (region_write src offset v) h = arena_checks h.state (length h.arena)
checks sram h = state_checks h.state
checks (reset kind) h = reset_checks h.state kind
checks sync_battery h = battery_checks h.state (length h.arena)
checks restore_battery h = battery_checks h.state (length h.arena)
checks (write_image buffer) h = write_checks h.state (length buffer)

-- C17: an answer that alters nothing, the state, or the arena
abbrev pub saying : Answer → Held → Answered Held Answer
saying a h = record { answer = a; state = h }

abbrev pub to_state : Answer → Held → State → Answered Held Answer
to_state a h s = record { answer = a; state = record { state = s; arena = h.arena } }

abbrev pub to_arena : Answer → Held → List ℕ → Answered Held Answer
to_arena a h arena = record { answer = a; state = record { state = h.state; arena = arena } }

-- C17: what an accepted call other than a run answers and alters, by L7, L8, L15, S10, M8 to M13, C7 to C9 and H1
unfoldable pub answers : Other → Held → Answered Held Answer
answers (cpu_read addr) h = to_state (byte (cpu_byte h.state h.arena addr)) h (with_chip h.state (after_read h.state.chip addr))
answers (cpu_peek addr) h = saying (byte (cpu_byte h.state h.arena addr)) h
answers (cpu_write addr v) h =
    let t = write_register h.state addr v in
    record {
      answer = changed (changes h.state.memory t.memory);
      state = record { state = t; arena = prg_write h.arena h.state.memory addr v };
    }
answers (chr_read addr) h = saying (byte (chr_peek h.arena h.state.memory addr)) h
answers (chr_write addr v) h = to_arena done h (chr_store h.arena h.state.memory addr v)
answers (fill src bytes) h = to_arena done h (fill_region h.arena h.state.memory src bytes)
answers (region_peek src offset) h = saying (byte (region_byte h.arena h.state.memory src offset)) h
answers (region_write src offset v) h = to_arena done h (region_store h.arena h.state.memory src offset v)
answers sram h = saying (span (sram_of h.state.memory).start (sram_of h.state.memory).len) h
answers (reset kind) h = to_state done h (with_chip h.state (reset_chip h.state.chip (kind_of kind)))
answers sync_battery h = to_arena done h (overlay h.arena (region_in h.state.memory BatteryExt).start h.state.chip.audio.ram)
answers restore_battery h =
    let chip = h.state.chip in
    to_state done h (with_chip h.state (with_audio chip (with_ram chip.audio (battery_bytes h.state h.arena))))
answers (write_image buffer) h = saying (image (image_at (length buffer) h.state)) h

-- C15 to C17: what the plain machine goes by
abbrev pub paper : Paper Held Float Other Answer
paper =
    record {
      clock = clock;
      refuses_run = λ n room h. first_of (run_checks h.state n room);
      refuses = λ a h. first_of (checks a h);
      answers = answers;
    }
