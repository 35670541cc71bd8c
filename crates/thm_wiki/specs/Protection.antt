-- L24: what F800 holds after a list of calls, resets too, and whether the flags of work RAM show it.
use Rattle.std.specs.Prelude.{ℕ, zero, suc, ◌+◌, ◌/◌, ◌<◌, ◌≡◌, Bool, true, false, cond, ◌||◌, List, [], ◌∷◌, eqb, leb, Float, get_or}
use Rattle.cut.specs.Calls.{Call, run, other}
use Rattle.memory.specs.Page.{unmapped}
use Rattle.board_state.specs.declared.State.{State}
use Rattle.call_refusals.specs.Refusals.{first_of}
use Rattle.thm_machine.specs.Calls.{Held, Other, cpu_read, cpu_peek, cpu_write, chr_read, chr_write, fill, region_peek, region_write, sram, reset}
use Rattle.thm_machine.specs.Calls.{sync_battery, restore_battery, write_image}
use Rattle.thm_machine.specs.Paper.{checks}
use Rattle.thm_machine.specs.Board.{other_gives, run_gives}
use Rattle.thm_wiki.specs.Registers.{WikiRegs, wiki_unprotected}
use Rattle.thm_wiki.specs.Shown.{ram_entry}

-- the value of F800, and whether the tables were made since it was set
pub record Protect : Type 0 where
  pub value : ℕ
  pub shown : Bool

-- a load stores 0 and makes the tables
abbrev pub at_load : Protect
at_load = record { value = 0; shown = true }

-- an accepted call: a write to F800..FFFF sets the value, and each to 8000..FFFF makes the tables; a hard reset stores 0 and makes none
abbrev pub protect_by : Other → Protect → Protect
protect_by (cpu_read addr) p = p
protect_by (cpu_peek addr) p = p
protect_by (cpu_write addr v) p = record { value = cond (leb 0xF800 addr) v p.value; shown = leb 0x8000 addr || p.shown }
protect_by (chr_read addr) p = p
protect_by (chr_write addr v) p = p
protect_by (fill src bytes) p = p
protect_by (region_peek src offset) p = p
protect_by (region_write src offset v) p = p
protect_by sram p = p
protect_by (reset kind) p = cond (eqb kind 0) p (record { value = 0; shown = false })
protect_by sync_battery p = p
protect_by restore_battery p = p
protect_by (write_image buffer) p = p

-- N0: by its refusal number
abbrev pub protect_after : ℕ → Other → Protect → Protect
protect_after zero a p = protect_by a p
protect_after (suc q) a p = p

-- along a list of calls on the board
unfoldable pub protect_in : List (Call Float Other) → Held → Protect → Protect
protect_in [] h p = p
protect_in (run n lent ∷ calls) h p = protect_in calls (run_gives n lent h).state p
protect_in (other a ∷ calls) h p = protect_in calls (other_gives a h).state (protect_after (first_of (checks a h)) a p)

-- W12: the wiki's registers with a value of F800
abbrev pub with_f800 : ℕ → WikiRegs
with_f800 v = record { windows = []; upper = 0 ∷ 0 ∷ 0 ∷ v ∷ [] }

-- L24: the byte is that value, and where the tables were made since, the flags are the wiki's, part by part
pub record MeetsPage (p : Protect) (s : State) : Type 0 where
  pub byte : s.chip.regs.prg_ram_protect ≡ p.value
  pub flags : p.shown ≡ true → (i : ℕ) → i < 8
      → get_or s.memory.prg_pages (24 + i) unmapped ≡ ram_entry s.memory true (wiki_unprotected (with_f800 p.value) (i / 2)) i
