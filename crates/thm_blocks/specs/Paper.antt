-- What the scope says of the calls with a directory: which take it and are refused by it (K2), what they do with its places (K5, K6), and
-- registering and looking up (K3, K4). All else is the scope's of the calls without one.
use Rattle.std.specs.Prelude.{ℕ, Bool, true, false, cond, List, Float}
use Rattle.cut.specs.Machine.{Clocked, Answered, Paper}
use Rattle.call_refusals.specs.Refusals.{Check, first_of}
use Rattle.call_run.specs.Run.{run_checks}
use Rattle.directory.specs.Block.{len_of, number_of, word_of, free}
use Rattle.directory.specs.Calls.{with_block, word_at}
use Rattle.directory.specs.Drop.{dropped}
use Rattle.call_blocks.specs.Blocks.{with_directory, register_checks, lookup_checks, emptied, cpu_touched, chr_touched, region_touched}
use Rattle.thm_machine.specs.Calls.{Held, Other, cpu_read, cpu_peek, cpu_write, chr_read, chr_write, fill, region_peek, region_write, sram}
use Rattle.thm_machine.specs.Calls.{reset, sync_battery, restore_battery, write_image, done}
use Rattle.thm_machine.specs.Paper.{clock, checks, answers}
use Rattle.thm_blocks.specs.Calls.{HeldBlocks, BlockCall, base, register, lookup, BlockAnswer, found, none}

-- K7: a clock leaves the places
unfoldable pub block_clock : HeldBlocks → Clocked HeldBlocks Float
block_clock h = let c = clock h.held in
    record { state = record { held = c.state; places = h.places }; sample = c.sample; rise = c.rise }

-- K7: the calls that take the directory
abbrev pub takes : Other → Bool
takes (cpu_read addr) = false
takes (cpu_peek addr) = false
takes (cpu_write addr v) = true
takes (chr_read addr) = false
takes (chr_write addr v) = true
takes (fill src bytes) = true
takes (region_peek src offset) = false
takes (region_write src offset v) = true
takes sram = false
takes (reset kind) = false
takes sync_battery = true
takes restore_battery = false
takes (write_image buffer) = false

-- N20: the checks of each call, in the order of their numbers
unfoldable pub block_checks : BlockCall → HeldBlocks → List Check
block_checks (base a) h = cond (takes a) (with_directory h.places (checks a h.held)) (checks a h.held)
block_checks (register start len number) h = register_checks h.places start len
block_checks (lookup start) h = lookup_checks h.places start

-- K5, K6: the places after an accepted call
abbrev pub places_after : Other → Held → List ℕ → List ℕ
places_after (cpu_read addr) h d = d
places_after (cpu_peek addr) h d = d
places_after (cpu_write addr v) h d = dropped (cpu_touched h.state addr v) d
places_after (chr_read addr) h d = d
places_after (chr_write addr v) h d = dropped (chr_touched h.state addr) d
places_after (fill src bytes) h d = emptied
places_after (region_peek src offset) h d = d
places_after (region_write src offset v) h d = dropped (region_touched h.state src offset) d
places_after sram h d = d
places_after (reset kind) h d = d
places_after sync_battery h d = emptied
places_after restore_battery h d = d
places_after (write_image buffer) h d = d

-- K4: the block of a word, or none
abbrev pub handed_out : ℕ → BlockAnswer
handed_out w = cond (free w) none (found (len_of w) (number_of w))

-- C17: what an accepted call answers and alters
unfoldable pub block_answers : BlockCall → HeldBlocks → Answered HeldBlocks BlockAnswer
block_answers (base a) h =
    let r = answers a h.held in
    record { answer = base r.answer; state = record { held = r.state; places = places_after a h.held h.places } }
block_answers (register start len number) h =
    record {
      answer = base done;
      state = record { held = h.held; places = with_block h.places start (word_of start len number) };
    }
block_answers (lookup start) h = record { answer = handed_out (word_at start h.places); state = h }

-- C15 to C17: what the plain machine goes by
abbrev pub block_paper : Paper HeldBlocks Float BlockCall BlockAnswer
block_paper =
    record {
      clock = block_clock;
      refuses_run = λ n room h. first_of (run_checks h.held.state n room);
      refuses = λ a h. first_of (block_checks a h);
      answers = block_answers;
    }
