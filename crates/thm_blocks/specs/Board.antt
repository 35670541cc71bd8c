-- C19: the board as the contracts of the calls with a directory give it (call_blocks, directory), and those of the calls that take none,
-- which hand it on.
use Rattle.std.specs.Prelude.{ℕ, zero, suc, cond, List, Float, length}
use Rattle.cut.specs.Calls.{RunGave, Reply, refused, answered, Gave, Board}
use Rattle.call_refusals.specs.Refusals.{first_of, arena_checks, fill_checks, battery_checks}
use Rattle.directory.specs.Calls.{register_refusal, registered, lookup as lookup_gives}
use Rattle.call_blocks.specs.Blocks.{with_directory, cpu_write_answer, cpu_write_leaves, cpu_write_drops, chr_write_leaves, chr_write_drops}
use Rattle.call_blocks.specs.Blocks.{region_write_leaves, region_write_drops, fill_leaves, fill_drops, sync_leaves, sync_drops}
use Rattle.thm_machine.specs.Calls.{Held, Other, cpu_read, cpu_peek, cpu_write, chr_read, chr_write, fill, region_peek, region_write, sram}
use Rattle.thm_machine.specs.Calls.{reset, sync_battery, restore_battery, write_image, Answer, changed, done}
use Rattle.thm_machine.specs.Board.{gave, other_gives, run_gives}
use Rattle.thm_blocks.specs.Calls.{HeldBlocks, BlockCall, base, register, lookup, BlockAnswer, found, none}

-- an answer without a directory, as one of a list with one
abbrev pub inside : Reply Answer → Reply BlockAnswer
inside (refused q) = refused q
inside (answered a) = answered (base a)

abbrev pub leaving : List ℕ → Gave Held Answer → Gave HeldBlocks BlockAnswer
leaving d g = record { reply = inside g.reply; state = record { held = g.state; places = d } }

-- K7: a call that takes no directory
abbrev pub handing_on : Other → HeldBlocks → Gave HeldBlocks BlockAnswer
handing_on a h = leaving h.places (other_gives a h.held)

-- K5, K6: the calls that take one, by the contracts of call_blocks (writes.rt, calls.rt)
unfoldable pub base_gives : Other → HeldBlocks → Gave HeldBlocks BlockAnswer
base_gives (cpu_read addr) h = handing_on (cpu_read addr) h
base_gives (cpu_peek addr) h = handing_on (cpu_peek addr) h
base_gives (cpu_write addr v) h =
    let d = h.places in let s = h.held.state in let arena = h.held.arena in
    let r = cpu_write_answer d s arena addr v in
    leaving (cpu_write_drops d s arena addr v) (gave r.refusal (changed r.changed) r.state (cpu_write_leaves d s arena addr v))
base_gives (chr_read addr) h = handing_on (chr_read addr) h
base_gives (chr_write addr v) h =
    let d = h.places in let s = h.held.state in let arena = h.held.arena in
    leaving (chr_write_drops d s arena addr)
    (gave (first_of (with_directory d (arena_checks s (length arena)))) done s (chr_write_leaves d s arena addr v))
base_gives (fill src bytes) h =
    let d = h.places in let s = h.held.state in let arena = h.held.arena in
    leaving (fill_drops d s arena src bytes)
    (gave (first_of (with_directory d (fill_checks s (length arena) src (length bytes)))) done s (fill_leaves d s arena src bytes))
base_gives (region_peek src offset) h = handing_on (region_peek src offset) h
base_gives (region_write src offset v) h =
    let d = h.places in let s = h.held.state in let arena = h.held.arena in
    leaving (region_write_drops d s arena src offset)
    (gave (first_of (with_directory d (arena_checks s (length arena)))) done s (region_write_leaves d s arena src offset v))
base_gives sram h = handing_on sram h
base_gives (reset kind) h = handing_on (reset kind) h
base_gives sync_battery h =
    let d = h.places in let s = h.held.state in let arena = h.held.arena in
    leaving (sync_drops d s arena) (gave (first_of (with_directory d (battery_checks s (length arena)))) done s (sync_leaves d s arena))
base_gives restore_battery h = handing_on restore_battery h
base_gives (write_image buffer) h = handing_on (write_image buffer) h

abbrev pub block_reply : ℕ → BlockAnswer → Reply BlockAnswer
block_reply zero a = answered a
block_reply (suc q) a = refused (suc q)

-- K3, K4: the contracts of directory (lib.rt)
unfoldable pub block_gives : BlockCall → HeldBlocks → Gave HeldBlocks BlockAnswer
block_gives (base a) h = base_gives a h
block_gives (register start len number) h =
    record {
      reply = block_reply (register_refusal h.places start len) (base done);
      state = record { held = h.held; places = registered h.places start len number };
    }
block_gives (lookup start) h =
    let f = lookup_gives h.places start in
    record { reply = block_reply f.refusal (cond f.held (found f.len f.number) none); state = h }

-- K7: a run takes no directory
unfoldable pub block_run : ℕ → List Float → HeldBlocks → RunGave HeldBlocks Float
block_run n lent h =
    let g = run_gives n lent h.held in
    record {
      refusal = g.refusal;
      made = g.made;
      rise = g.rise;
      samples = g.samples;
      state = record { held = g.state; places = h.places };
    }

abbrev pub block_board : Board HeldBlocks Float BlockCall BlockAnswer
block_board = record { run = block_run; other = block_gives }
