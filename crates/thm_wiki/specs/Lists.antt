-- The wiki's machine beside a list of public calls: the steps that each accepted call comes to.
use Rattle.std.specs.Prelude.{ℕ, zero, suc, ◌^◌, ◌<◌, ◌≡◌, Bool, false, List, [], ◌∷◌, leb, Float, length, replicate}
use Rattle.cut.specs.Calls.{Call, run, other}
use Rattle.call_battery.specs.Battery.{battery_bytes}
use Rattle.call_refusals.specs.Refusals.{first_of}
use Rattle.call_run.specs.Run.{run_checks}
use Rattle.thm_machine.specs.Calls.{Held, Other, cpu_read, cpu_peek, cpu_write, chr_read, chr_write, fill, region_peek, region_write, sram, reset}
use Rattle.thm_machine.specs.Calls.{sync_battery, restore_battery, write_image, CallTyped}
use Rattle.thm_machine.specs.Paper.{checks}
use Rattle.thm_machine.specs.Board.{other_gives, run_gives}
use Rattle.thm_wiki.specs.Machine.{Act, write, read, cycle, restore}
use Rattle.thm_wiki.specs.Notes.{Noted, steps}

-- N0: a refused call comes to nothing
abbrev pub when_accepted : ℕ → List Act → List Act
when_accepted zero l = l
when_accepted (suc q) l = []

-- the calls other than runs: a CPU write and read, and a battery restore; no other call touches a register or the chip's RAM, but a reset,
-- which the pages do not define
abbrev pub acts_of : Other → Held → List Act
acts_of (cpu_read addr) h = read addr ∷ []
acts_of (cpu_peek addr) h = []
acts_of (cpu_write addr v) h = write addr v ∷ []
acts_of (chr_read addr) h = []
acts_of (chr_write addr v) h = []
acts_of (fill src bytes) h = []
acts_of (region_peek src offset) h = []
acts_of (region_write src offset v) h = []
acts_of sram h = []
acts_of (reset kind) h = []
acts_of sync_battery h = []
acts_of restore_battery h = restore (battery_bytes h.state h.arena) ∷ []
acts_of (write_image buffer) h = []

-- C4: a run of n is n cycles
unfoldable pub acts : Call Float Other → Held → List Act
acts (run n lent) h = when_accepted (first_of (run_checks h.state n (length lent))) (replicate n cycle)
acts (other a) h = when_accepted (first_of (checks a h)) (acts_of a h)

-- C11: state and arena after a call
abbrev pub after : Call Float Other → Held → Held
after (run n lent) h = (run_gives n lent h).state
after (other a) h = (other_gives a h).state

-- the machine, with its notes, after a list of calls on the board
unfoldable pub beside : List (Call Float Other) → Held → Noted → Noted
beside [] h x = x
beside (c ∷ calls) h x = beside calls (after c h) (steps x (acts c h))

-- N3: a reset of another kind than 0 and 1 is refused, so it is none
abbrev pub resets : Other → Bool
resets (cpu_read addr) = false
resets (cpu_peek addr) = false
resets (cpu_write addr v) = false
resets (chr_read addr) = false
resets (chr_write addr v) = false
resets (fill src bytes) = false
resets (region_peek src offset) = false
resets (region_write src offset v) = false
resets sram = false
resets (reset kind) = leb kind 1
resets sync_battery = false
resets restore_battery = false
resets (write_image buffer) = false

-- C12: what the type of a CPU write's address says, whose last register the wiki has at F800..FFFF
abbrev pub AddressTyped : Other → Type 0
AddressTyped (cpu_read addr) = Unit {0}
AddressTyped (cpu_peek addr) = Unit {0}
AddressTyped (cpu_write addr v) = addr < 2 ^ 16
AddressTyped (chr_read addr) = Unit {0}
AddressTyped (chr_write addr v) = Unit {0}
AddressTyped (fill src bytes) = Unit {0}
AddressTyped (region_peek src offset) = Unit {0}
AddressTyped (region_write src offset v) = Unit {0}
AddressTyped sram = Unit {0}
AddressTyped (reset kind) = Unit {0}
AddressTyped sync_battery = Unit {0}
AddressTyped restore_battery = Unit {0}
AddressTyped (write_image buffer) = Unit {0}

-- C12: arguments of their types, and no reset
abbrev pub Plain : Call Float Other → Type 0
Plain (run n lent) = CallTyped (run n lent)
Plain (other a) = (CallTyped (other a) × AddressTyped a) × (resets a ≡ false)
