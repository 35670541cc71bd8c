-- R1, R2, R4: sizes and their limits, page counts, the arena's order and the regions in it.
use Rattle.std.specs.Prelude.{ℕ, ◌+◌, ◌*◌, ◌/◌, ◌≤◌, Bool, true, false, cond, not, ◌&&◌, List, [], ◌∷◌, eqb, leb}
use Rattle.limits.specs.Limits.{prg_rom_limit, prg_ram_limit, battery_limit, chr_limit, ciram_limit}
use Rattle.memory.specs.declared.layout.MemoryLayout.{MemoryLayout}
use Rattle.memory.specs.declared.layout.Layout.{Layout}
use Rattle.memory.specs.declared.layout.Region.{Region}
use Rattle.memory.specs.declared.layout.Src.{Src}
use Rattle.memory.specs.declared.layout.Src.TheVariants.{PrgRom, PrgRam, BatteryExt, Chr, CiRam}

-- ---- limits: R1

-- the test on the bytes, before they are rounded
unfoldable pub within_limits : MemoryLayout → Bool
within_limits s =
    leb s.prg_rom prg_rom_limit
    && leb s.prg_ram prg_ram_limit
    && leb s.battery_ext battery_limit
    && leb s.chr chr_limit
    && leb s.ciram ciram_limit

-- what the test says
pub record WithinLimits (s : MemoryLayout) : Type 0 where
  pub prg_rom : s.prg_rom ≤ prg_rom_limit
  pub prg_ram : s.prg_ram ≤ prg_ram_limit
  pub battery : s.battery_ext ≤ battery_limit
  pub chr : s.chr ≤ chr_limit
  pub ciram : s.ciram ≤ ciram_limit

-- ---- page counts: R2, a started page counts as one

abbrev pub pages_for : ℕ → ℕ
pages_for bytes = (bytes + 1023) / 1024

-- R1: no CIRAM stands for 2,048 bytes
abbrev pub ciram_bytes : ℕ → ℕ
ciram_bytes bytes = cond (eqb bytes 0) 2048 bytes

-- the page counts of the sizes that a host gives
unfoldable pub layout_of : MemoryLayout → Layout
layout_of s =
    record {
      prg_rom = pages_for s.prg_rom;
      prg_ram = pages_for s.prg_ram;
      battery_ext = pages_for s.battery_ext;
      chr = pages_for s.chr;
      chr_writable = s.chr_writable;
      ciram = pages_for (ciram_bytes s.ciram);
    }

-- ---- the arena's order: R4

-- F16: the number of each region
abbrev pub src_num : Src → ℕ
src_num PrgRom = 0
src_num PrgRam = 1
src_num BatteryExt = 2
src_num Chr = 3
src_num CiRam = 4

-- a region, if the test holds, before the rest
abbrev pub only_if : Bool → Src → List Src → List Src
only_if t s rest = cond t (s ∷ rest) rest

-- R4: the parts behind the zero page in their order, by whether CHR is RAM
unfoldable pub arena_order : Bool → List Src
arena_order ram = PrgRom ∷ only_if (not ram) Chr (PrgRam ∷ BatteryExt ∷ only_if ram Chr (CiRam ∷ []))

-- how many pages a region has
abbrev pub pages_in : Layout → Src → ℕ
pages_in l PrgRom = l.prg_rom
pages_in l PrgRam = l.prg_ram
pages_in l BatteryExt = l.battery_ext
pages_in l Chr = l.chr
pages_in l CiRam = l.ciram

-- how many pages stand in a list of regions before region s
unfoldable pub pages_before : Layout → Src → List Src → ℕ
pages_before l s [] = 0
pages_before l s (t ∷ rest) = cond (eqb (src_num s) (src_num t)) 0 (pages_in l t + pages_before l s rest)

-- how many pages a list of regions has
unfoldable pub pages_of_all : Layout → List Src → ℕ
pages_of_all l [] = 0
pages_of_all l (t ∷ rest) = pages_in l t + pages_of_all l rest

-- a region's first page: page 0 is the zero page
unfoldable pub first_page : Layout → Src → ℕ
first_page l s = 1 + pages_before l s (arena_order l.chr_writable)

-- the whole arena, with the zero page; T0 has 52 pages for layout P
unfoldable pub arena_pages : Layout → ℕ
arena_pages l = 1 + pages_of_all l (arena_order l.chr_writable)

unfoldable pub arena_len : Layout → ℕ
arena_len l = 1024 * arena_pages l

-- ---- regions

-- M12: of the battery as many bytes as are used; of every other region all bytes of its pages
abbrev pub region_len : Layout → ℕ → Src → ℕ
region_len l used PrgRom = 1024 * l.prg_rom
region_len l used PrgRam = 1024 * l.prg_ram
region_len l used BatteryExt = used
region_len l used Chr = 1024 * l.chr
region_len l used CiRam = 1024 * l.ciram

-- M4: which regions give the flag (`Memory::is_writable`; the battery region is never mapped)
abbrev pub writable_in : Layout → Src → Bool
writable_in l PrgRom = false
writable_in l PrgRam = true
writable_in l BatteryExt = true
writable_in l Chr = l.chr_writable
writable_in l CiRam = true

-- `Memory::region`, given the used battery length
unfoldable pub region_of : Layout → ℕ → Src → Region
region_of l used s = record { start = 1024 * first_page l s; len = region_len l used s; writable = writable_in l s }
