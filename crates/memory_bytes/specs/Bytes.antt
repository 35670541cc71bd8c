-- M8 to M13: the bytes behind the entries and in the regions. The arena is the list of its bytes.
use Rattle.std.specs.Prelude.{ℕ, ◌+◌, ◌/◌, ◌%◌, cond, List, ◌++◌, ◌≡◌, eqb, get_or, set, length, take, drop}
use Rattle.std.specs.Prelude as code
use Rattle.std.proofs.Math.Option.{Option, some, none}
use Rattle.memory.specs.declared.Memory.{Memory}
use Rattle.memory_bytes.specs.declared.bytes.Span.{Span}
use Rattle.memory.specs.declared.layout.Region.{Region}
use Rattle.memory.specs.declared.layout.Src.{Src}
use Rattle.memory.specs.declared.layout.Src.TheVariants.{PrgRam, BatteryExt}
use Rattle.memory.specs.declared.page.Page.{Page}
use Rattle.memory.specs.Layout.{arena_len}
use Rattle.memory.specs.Memory.{region_in}
use Rattle.memory.specs.Range.{Ranged}
use Rattle.memory.specs.Page.{unmapped, offset_of, writable_of}

-- a memory in range, and an arena as long as R4 makes its layout's
pub record Backed (m : Memory) (arena : List ℕ) : Type 0 where
  pub ranged : Ranged m
  pub long : length arena ≡ arena_len m.layout

-- ---- places: the arena byte that an access reads or stores into, where there is one

-- a place as the code has it
abbrev pub place : code.Option ℕ → Option ℕ
place code.None = none
place (code.Some i) = some i

-- R8: the entry of a CPU address
abbrev pub prg_entry : Memory → ℕ → Page
prg_entry m addr = get_or m.prg_pages (addr / 1024) unmapped

-- M8: the entry of a PPU address, which counts by its remainder by 4000
abbrev pub chr_entry : Memory → ℕ → Page
chr_entry m addr = get_or m.chr_pages (addr / 1024 % 16) unmapped

-- M9: a page shows its byte of the arena; the zero page is no exception (R7)
abbrev pub shown_at : Page → ℕ → ℕ
shown_at p addr = offset_of p + addr % 1024

-- M9: only an entry with the flag takes a store
unfoldable pub stored_at : Page → ℕ → Option ℕ
stored_at p addr = cond (writable_of p) (some (shown_at p addr)) none

-- M11: an offset counts by its remainder by the region's length, in ROM as in RAM; a region of no bytes has no place
unfoldable pub wrapped_at : Region → ℕ → Option ℕ
wrapped_at r offset = cond (eqb r.len 0) none (some (r.start + offset % r.len))

-- ---- reading and storing at a place

-- M11: where there is no place, 0 is read
abbrev pub fetch : List ℕ → Option ℕ → ℕ
fetch arena none = 0
fetch arena (some i) = get_or arena i 0

-- M11, M9: and nothing is stored
abbrev pub store : List ℕ → Option ℕ → ℕ → List ℕ
store arena none v = arena
store arena (some i) v = set arena i v

-- M9: `Memory::prg_peek`
abbrev pub prg_peek : List ℕ → Memory → ℕ → ℕ
prg_peek arena m addr = get_or arena (shown_at (prg_entry m addr) addr) 0

-- M9: `Memory::prg_write`
abbrev pub prg_write : List ℕ → Memory → ℕ → ℕ → List ℕ
prg_write arena m addr v = store arena (stored_at (prg_entry m addr) addr) v

-- M8, M9: `Memory::chr_peek`
abbrev pub chr_peek : List ℕ → Memory → ℕ → ℕ
chr_peek arena m addr = get_or arena (shown_at (chr_entry m addr) addr) 0

-- M8, M9: `Memory::chr_write`
abbrev pub chr_write : List ℕ → Memory → ℕ → ℕ → List ℕ
chr_write arena m addr v = store arena (stored_at (chr_entry m addr) addr) v

-- M11: `Memory::region_peek`
abbrev pub region_peek : List ℕ → Memory → Src → ℕ → ℕ
region_peek arena m src offset = fetch arena (wrapped_at (region_in m src) offset)

-- M11: `Memory::region_write`
abbrev pub region_write : List ℕ → Memory → Src → ℕ → ℕ → List ℕ
region_write arena m src offset v = store arena (wrapped_at (region_in m src) offset) v

-- ---- whole regions

-- bytes laid over the arena from a place on
abbrev pub overlay : List ℕ → ℕ → List ℕ → List ℕ
overlay arena at bytes = take at arena ++ bytes ++ drop (at + length bytes) arena

-- M10: the lent bytes are the first of the region
unfoldable pub fill_region : List ℕ → Memory → Src → List ℕ → List ℕ
fill_region arena m src bytes = overlay arena (region_in m src).start bytes

-- M13: `sram`, PRG-RAM and behind it the battery bytes in use
unfoldable pub sram_of : Memory → Span
sram_of m = record { start = (region_in m PrgRam).start; len = (region_in m PrgRam).len + (region_in m BatteryExt).len }
