-- C19: the board as its functions' contracts give it: what each public call hands back, for every argument and every state and arena.
use Rattle.std.specs.Prelude.{ℕ, zero, suc, List, Float, length}
use Rattle.cut.specs.Calls.{RunGave, Reply, refused, answered, Gave, Board}
use Rattle.board_state.specs.declared.State.{State}
use Rattle.call_refusals.specs.Refusals.{first_of, arena_checks, fill_checks, battery_checks}
use Rattle.call_cpu.specs.Calls.{cpu_read as cpu_read_gives, cpu_peek as cpu_peek_gives, cpu_write as cpu_write_gives, cpu_write_arena}
use Rattle.call_regions.specs.Regions.{chr_read as chr_read_gives, chr_write_arena, fill_arena, region_read, region_write_arena, sram_answer}
use Rattle.call_reset.specs.Reset.{reset_state}
use Rattle.call_battery.specs.Battery.{sync_arena, restore_state}
use Rattle.image_write.specs.Writing.{write_refusal, written_image}
use Rattle.call_run.specs.Run.{run_gave}
use Rattle.thm_machine.specs.Calls.{Held, Other, cpu_read, cpu_peek, cpu_write, chr_read, chr_write, fill, region_peek, region_write, sram}
use Rattle.thm_machine.specs.Calls.{reset, sync_battery, restore_battery, write_image, Answer, byte, changed, span, image, done}

-- N0: an answer by its refusal number
abbrev pub reply_of : ℕ → Answer → Reply Answer
reply_of zero a = answered a
reply_of (suc q) a = refused (suc q)

abbrev pub gave : ℕ → Answer → State → List ℕ → Gave Held Answer
gave q a s arena = record { reply = reply_of q a; state = record { state = s; arena = arena } }

-- A4: the contracts of call_cpu (calls.rt), call_regions, call_reset and call_battery (lib.rt), and image_write (writing.rt)
unfoldable pub other_gives : Other → Held → Gave Held Answer
other_gives (cpu_read addr) h = let r = cpu_read_gives h.state h.arena addr in gave r.refusal (byte r.byte) r.state h.arena
other_gives (cpu_peek addr) h = let r = cpu_peek_gives h.state h.arena addr in gave r.refusal (byte r.byte) h.state h.arena
other_gives (cpu_write addr v) h =
    let r = cpu_write_gives h.state h.arena addr v in
    gave r.refusal (changed r.changed) r.state (cpu_write_arena h.state h.arena addr v)
other_gives (chr_read addr) h = let r = chr_read_gives h.state h.arena addr in gave r.refusal (byte r.byte) h.state h.arena
other_gives (chr_write addr v) h = gave (first_of (arena_checks h.state (length h.arena))) done h.state
    (chr_write_arena h.state h.arena addr v)
other_gives (fill src bytes) h =
    gave (first_of (fill_checks h.state (length h.arena) src (length bytes))) done h.state
    (fill_arena h.state h.arena src bytes)
other_gives (region_peek src offset) h = let r = region_read h.state h.arena src offset in
    gave r.refusal (byte r.byte) h.state h.arena
other_gives (region_write src offset v) h =
    gave (first_of (arena_checks h.state (length h.arena))) done h.state (region_write_arena h.state h.arena src offset v)
other_gives sram h = let r = sram_answer h.state in gave r.refusal (span r.start r.len) h.state h.arena
other_gives (reset kind) h = let r = reset_state h.state kind in gave r.refusal done r.state h.arena
other_gives sync_battery h = gave (first_of (battery_checks h.state (length h.arena))) done h.state (sync_arena h.state h.arena)
other_gives restore_battery h = let r = restore_state h.state h.arena in gave r.refusal done r.state h.arena
other_gives (write_image buffer) h = gave (write_refusal h.state (length buffer)) (image (written_image h.state buffer)) h.state
    h.arena

-- A4: the contract of call_run (run.rt). A run takes no arena.
unfoldable pub run_gives : ℕ → List Float → Held → RunGave Held Float
run_gives n lent h =
    let g = run_gave h.state n lent in
    record {
      refusal = g.refusal;
      made = g.made;
      rise = g.rise;
      samples = g.samples;
      state = record { state = g.state; arena = h.arena };
    }

abbrev pub board : Board Held Float Other Answer
board = record { run = run_gives; other = other_gives }
