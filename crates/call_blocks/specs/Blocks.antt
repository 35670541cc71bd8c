-- K5 to K7: the calls that take a directory of blocks beside what they take without one: what each answers, what it leaves in the arena,
-- and which blocks it drops, refused calls too. The answer and the arena are those of the call without a directory. Of registering and
-- looking up, which are directory's, the checks.
use Rattle.std.specs.Prelude.{ℕ, Bool, not, ◌||◌, List, [], ◌∷◌, eqb, length, replicate}
use Rattle.memory.specs.declared.layout.MemoryLayout.{MemoryLayout}
use Rattle.memory.specs.declared.layout.Src.{Src}
use Rattle.memory.specs.Memory.{region_in}
use Rattle.memory_bytes.specs.Bytes.{prg_entry, chr_entry, stored_at, wrapped_at}
use Rattle.board_state.specs.declared.Options.{Options}
use Rattle.board_state.specs.declared.State.{State}
use Rattle.board_state.specs.None.{no_state}
use Rattle.call_refusals.specs.Refusals.{Check, unless_refused, unless_kept}
use Rattle.call_refusals.specs.Refusals.{address_check, arena_checks, cpu_checks, fill_checks, battery_checks, load_checks}
use Rattle.call_load.specs.Cartridge.{Loaded, load_answer, load_arena}
use Rattle.call_cpu.specs.Calls.{WriteAnswer, write_register, refused_write, cpu_write, cpu_write_arena}
use Rattle.call_preview.specs.Preview.{Previewed, answer_of, preview}
use Rattle.call_regions.specs.Regions.{chr_write_arena, fill_arena, region_write_arena}
use Rattle.call_battery.specs.Battery.{sync_arena}
use Rattle.directory.specs.Block.{fits, free, holds}
use Rattle.directory.specs.Fit.{any, fit}
use Rattle.directory.specs.Drop.{dropped}
use Rattle.directory_touched.specs.Touched.{touched}

-- K2, N2: the directory is unfit
abbrev pub directory_check : List ℕ → Check
directory_check d = record { number = 2; holds = not (fit d) }

-- N2: the same of what the call makes of its own
abbrev pub with_directory : List ℕ → List Check → List Check
with_directory d own = directory_check d ∷ own

-- ---- registering and looking up: K3, K4

-- N13: the block leaves the cartridge's addresses or has another length than a block may have
abbrev pub block_check : ℕ → ℕ → Check
block_check start len = record { number = 13; holds = not (fits start len) }

-- N14: no place holds the start, and none is free
abbrev pub full_check : List ℕ → ℕ → Check
full_check d start = record { number = 14; holds = not (any (holds start) d || any free d) }

-- N20: their checks; a registering's first number is directory's `register_refusal` (register-number)
abbrev pub register_checks : List ℕ → ℕ → ℕ → List Check
register_checks d start len = directory_check d ∷ address_check start ∷ block_check start len ∷ full_check d start ∷ []

abbrev pub lookup_checks : List ℕ → ℕ → List Check
lookup_checks d start = directory_check d ∷ address_check start ∷ []

-- ---- CPU write: K5

-- the CPU pages that it touches: their entry changes, or it shows the arena page of the stored byte
unfoldable pub cpu_touched : State → ℕ → ℕ → ℕ
cpu_touched s addr v =
    touched s.memory.prg_pages (write_register s addr v).memory.prg_pages (stored_at (prg_entry s.memory addr) addr)

unfoldable pub cpu_write_answer : List ℕ → State → List ℕ → ℕ → ℕ → WriteAnswer
cpu_write_answer d s arena addr v = unless_refused (with_directory d []) (refused_write s) (cpu_write s arena addr v)

unfoldable pub cpu_write_leaves : List ℕ → State → List ℕ → ℕ → ℕ → List ℕ
cpu_write_leaves d s arena addr v = unless_kept (with_directory d []) arena (cpu_write_arena s arena addr v)

unfoldable pub cpu_write_drops : List ℕ → State → List ℕ → ℕ → ℕ → List ℕ
cpu_write_drops d s arena addr v = unless_kept (with_directory d (cpu_checks s (length arena) addr)) d (dropped (cpu_touched s addr v) d)

-- L18: what such a write would answer
unfoldable pub preview_answer : List ℕ → State → List ℕ → ℕ → ℕ → Previewed
preview_answer d s arena addr v = unless_refused (with_directory d []) (λ q. answer_of (refused_write s q)) (preview s arena addr v)

-- ---- CHR write and region write: K5; no entry changes

unfoldable pub chr_touched : State → ℕ → ℕ
chr_touched s addr = touched s.memory.prg_pages s.memory.prg_pages (stored_at (chr_entry s.memory addr) addr)

unfoldable pub chr_write_leaves : List ℕ → State → List ℕ → ℕ → ℕ → List ℕ
chr_write_leaves d s arena addr v = unless_kept (with_directory d []) arena (chr_write_arena s arena addr v)

unfoldable pub chr_write_drops : List ℕ → State → List ℕ → ℕ → List ℕ
chr_write_drops d s arena addr = unless_kept (with_directory d (arena_checks s (length arena))) d (dropped (chr_touched s addr) d)

unfoldable pub region_touched : State → Src → ℕ → ℕ
region_touched s src offset = touched s.memory.prg_pages s.memory.prg_pages (wrapped_at (region_in s.memory src) offset)

unfoldable pub region_write_leaves : List ℕ → State → List ℕ → Src → ℕ → ℕ → List ℕ
region_write_leaves d s arena src offset v = unless_kept (with_directory d []) arena (region_write_arena s arena src offset v)

unfoldable pub region_write_drops : List ℕ → State → List ℕ → Src → ℕ → List ℕ
region_write_drops d s arena src offset =
    unless_kept (with_directory d (arena_checks s (length arena))) d (dropped (region_touched s src offset) d)

-- ---- fill and battery sync: K6; all blocks go

abbrev pub emptied : List ℕ
emptied = replicate 256 0

unfoldable pub fill_leaves : List ℕ → State → List ℕ → Src → List ℕ → List ℕ
fill_leaves d s arena src bytes = unless_kept (with_directory d []) arena (fill_arena s arena src bytes)

unfoldable pub fill_drops : List ℕ → State → List ℕ → Src → List ℕ → List ℕ
fill_drops d s arena src bytes = unless_kept (with_directory d (fill_checks s (length arena) src (length bytes))) d emptied

unfoldable pub sync_leaves : List ℕ → State → List ℕ → List ℕ
sync_leaves d s arena = unless_kept (with_directory d []) arena (sync_arena s arena)

unfoldable pub sync_drops : List ℕ → State → List ℕ → List ℕ
sync_drops d s arena = unless_kept (with_directory d (battery_checks s (length arena))) d emptied

-- ---- load: K7; it reads no place, so only their number is tested

abbrev pub places_check : List ℕ → Check
places_check d = record { number = 2; holds = not (eqb (length d) 256) }

unfoldable pub load_gives : List ℕ → ℕ → ℕ → ℕ → Bool → MemoryLayout → Options → ℕ → Loaded
load_gives d mapper sub flags known sizes options len =
    unless_refused (places_check d ∷ []) (λ q. record { refusal = q; state = no_state }) (load_answer mapper sub flags known sizes options len)

unfoldable pub load_leaves : List ℕ → ℕ → MemoryLayout → List ℕ → List ℕ
load_leaves d mapper sizes arena = unless_kept (places_check d ∷ []) arena (load_arena mapper sizes arena)

unfoldable pub load_drops : List ℕ → ℕ → MemoryLayout → List ℕ → List ℕ
load_drops d mapper sizes arena = unless_kept (places_check d ∷ load_checks mapper sizes (length arena)) d emptied
