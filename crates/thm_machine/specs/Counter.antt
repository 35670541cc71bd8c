-- The counter and the line (C3), and the calls that write the counter or reset it (D3.2).
use Rattle.std.specs.Prelude.{ℕ, Bool, false, ◌&&◌, List, [], ◌∷◌, ◌≡◌, leb, Float}
use Rattle.cut.specs.Calls.{Call, run, other}
use Rattle.thm_machine.specs.Calls.{Held, Other, cpu_read, cpu_peek, cpu_write, chr_read, chr_write, fill, region_peek, region_write, sram}
use Rattle.thm_machine.specs.Calls.{reset, sync_battery, restore_battery, write_image}

-- R8, C3: the counter, and the line
abbrev pub counter_of : Held → ℕ
counter_of h = h.state.chip.regs.irq_counter

abbrev pub line_of : Held → Bool
line_of h = h.state.chip.regs.irq_pending

-- D3.2: what writes or resets the counter: a CPU write to 5000..5FFF, or a reset; one of another kind than 0 and 1 is refused (N3), so it
-- is none
abbrev pub touches : Other → Bool
touches (cpu_read addr) = false
touches (cpu_peek addr) = false
touches (cpu_write addr v) = leb 0x5000 addr && leb addr 0x5FFF
touches (chr_read addr) = false
touches (chr_write addr v) = false
touches (fill src bytes) = false
touches (region_peek src offset) = false
touches (region_write src offset v) = false
touches sram = false
touches (reset kind) = leb kind 1
touches sync_battery = false
touches restore_battery = false
touches (write_image buffer) = false

-- D3.2: no call of the list does
abbrev pub NoneTouches : List (Call Float Other) → Type 0
NoneTouches [] = Unit {0}
NoneTouches (run n lent ∷ calls) = NoneTouches calls
NoneTouches (other a ∷ calls) = (touches a ≡ false) × NoneTouches calls
