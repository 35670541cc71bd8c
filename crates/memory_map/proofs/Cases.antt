-- Windows and nametables at the edges of their regions, and entries that get a flag: a table each, and one computed test over all rows.
-- Assumes nothing.
use Prim.Native.Nat.{ℕ, zero, suc, ◌+◌, ◌*◌, ◌/◌}
use mathlib.Core.Path.{◌≡◌, refl}
use mathlib.Core.Bool.{Bool, true, false, ◌&&◌}
use mathlib.Core.List.{List, [], ◌∷◌, ◌++◌, map}
use lib.Dec.{eqb}
use lib.IntN.{ℤ, pos, negsuc}
use lib.ListN.{take, drop, replicate}
use Rattle.limits.specs.Limits.{prg_rom_pages, prg_ram_pages}
use Rattle.memory.specs.declared.layout.MemoryLayout.{MemoryLayout}
use Rattle.memory.specs.declared.layout.Src.{Src}
use Rattle.memory.specs.declared.layout.Src.TheVariants.{PrgRom, PrgRam}
use Rattle.memory.specs.declared.mirroring.Mirroring.{Mirroring}
use Rattle.memory.specs.declared.mirroring.Mirroring.TheVariants.{Vertical, Horizontal, SingleScreenA, SingleScreenB, FourScreen}
use Rattle.memory.specs.declared.page.Page.{Page}
use Rattle.memory.specs.Layout.{layout_of, arena_order, pages_before, first_page, region_of}
use Rattle.memory_map.specs.Mirroring.{nametable_page, mirror_pages, set_mirroring}
use Rattle.memory_map.specs.New.{unmapped_memory, new_memory}
use Rattle.memory.specs.Page.{page_of}
use Rattle.memory_map.specs.Windows.{banks_of, window_base, region_page, with_flag, each_page, show_pages, map_pages, map_prg}

-- ---- what a row says

-- arena page k, without the flag and with it
abbrev rom : ℕ → Page
rom k = page_of (1024 * k) false

abbrev ram : ℕ → Page
ram k = page_of (1024 * k) true

-- n pages from page k on
abbrev from : (ℕ → Page) → ℕ → ℕ → List Page
from f k zero = []
from f k (suc n) = f k ∷ from f (suc k) n

abbrev same : List Page → List Page → Bool
same [] [] = true
same [] (b ∷ m) = false
same (a ∷ l) [] = false
same (a ∷ l) (b ∷ m) = eqb a.0 b.0 && same l m

abbrev every : {A : Type 0} → (A → Bool) → List A → Bool
every f [] = true
every f (a ∷ l) = f a && every f l

-- ---- the carts: layout P (T0) with other sizes

abbrev cart : ℕ → ℕ → ℕ → MemoryLayout
cart prg_rom prg_ram ciram =
    record { prg_rom = prg_rom; prg_ram = prg_ram; battery_ext = 128; chr = 8192; chr_writable = false; ciram = ciram }

-- ---- windows

-- whether the window at an address of a cart has these entries once a bank of a region is mapped there
abbrev prg : MemoryLayout → ℕ → ℤ → Src → List Page → Bool
prg c addr bank src = same (take 8 (drop (addr / 1024) (map_prg (new_memory c) addr 8192 bank src).prg_pages))

-- PRG-ROM of so many pages at banks 1, 2, 3F and −1
record Rom : Type 0 where
  pages : List ℕ
  bank1 : List Page
  bank2 : List Page
  bank_3f : List Page
  last : List Page

abbrev roms : List Rom
roms =
    all (0 ∷ []) (replicate 8 (rom 0))
    ∷ all (1 ∷ []) (replicate 8 (rom 1))
    ∷ all (3 ∷ []) (from rom 1 3 ++ from rom 1 3 ++ from rom 1 2)
    ∷ all (7 ∷ []) (from rom 1 7 ++ from rom 1 1)
    ∷ all (8 ∷ 9 ∷ 12 ∷ 15 ∷ []) (from rom 1 8)
    ∷ record { pages = 16 ∷ 17 ∷ 20 ∷ 23 ∷ []; bank1 = from rom 9 8; bank2 = from rom 1 8; bank_3f = from rom 9 8; last = from rom 9 8 }
    ∷ record { pages = 24 ∷ []; bank1 = from rom 9 8; bank2 = from rom 17 8; bank_3f = from rom 1 8; last = from rom 17 8 }
    ∷ record { pages = prg_rom_pages ∷ []; bank1 = from rom 9 8; bank2 = from rom 17 8; bank_3f = from rom 505 8; last = from rom 505 8 }
    ∷ []
  where
    all : List ℕ → List Page → Rom
    all pages l = record { pages = pages; bank1 = l; bank2 = l; bank_3f = l; last = l }

abbrev rom_right : Rom → Bool
rom_right r =
    every (λ n. at n 0x8000 (pos 1) r.bank1 && at n 0xA000 (pos 2) r.bank2 && at n 0xC000 (pos 0x3F)
    r.bank_3f && at n 0xE000 (negsuc 0) r.last) r.pages
  where
    at : ℕ → ℕ → ℤ → List Page → Bool
    at n addr b = prg (cart (1024 * n) 8192 2048) addr b PrgRom

-- PRG-RAM of so many pages at bank 0 in 6000
record Ram : Type 0 where
  pages : List ℕ
  shows : List Page

abbrev rams : List Ram
rams =
    record { pages = 1 ∷ []; shows = replicate 8 (ram 41) }
    ∷ record { pages = 2 ∷ []; shows = from ram 41 2 ++ from ram 41 2 ++ from ram 41 2 ++ from ram 41 2 }
    ∷ record { pages = 3 ∷ []; shows = from ram 41 3 ++ from ram 41 3 ++ from ram 41 2 }
    ∷ record { pages = 8 ∷ 9 ∷ 16 ∷ prg_ram_pages ∷ []; shows = from ram 41 8 }
    ∷ []

abbrev ram_right : Ram → Bool
ram_right r = every (λ n. prg (cart 32768 (1024 * n) 2048) 0x6000 (pos 0) PrgRam r.shows) r.pages

-- ---- the flag of an entry: M5. Only the number 0 is unmapped; page 1, which PRG-RAM can have, is like any other

record Flag : Type 0 where
  entry : ℕ
  set : ℕ
  cleared : ℕ

abbrev flags : List Flag
flags =
    record { entry = 0; set = 0; cleared = 0 }
    ∷ record { entry = 0x80000000; set = 0x80000000; cleared = 0 }
    ∷ record { entry = 0x400; set = 0x80000400; cleared = 0x400 }
    ∷ record { entry = 0x80000400; set = 0x80000400; cleared = 0x400 }
    ∷ record { entry = 0x80000800; set = 0x80000800; cleared = 0x800 }
    ∷ []

abbrev flag_right : Flag → Bool
flag_right f = eqb (with_flag true (record { 0 = f.entry })).0 f.set && eqb (with_flag false (record { 0 = f.entry })).0 f.cleared

-- ---- nametables: the pages behind CIRAM's first that the four show, at $2000 and again at $3000

record Nametables : Type 0 where
  pages : ℕ
  mirroring : Mirroring
  shows : List ℕ

abbrev nametables : List Nametables
nametables =
    record { pages = 1; mirroring = FourScreen; shows = 0 ∷ 0 ∷ 0 ∷ 0 ∷ [] }
    ∷ record { pages = 2; mirroring = FourScreen; shows = 0 ∷ 1 ∷ 0 ∷ 1 ∷ [] }
    ∷ record { pages = 3; mirroring = FourScreen; shows = 0 ∷ 1 ∷ 2 ∷ 0 ∷ [] }
    ∷ record { pages = 4; mirroring = FourScreen; shows = 0 ∷ 1 ∷ 2 ∷ 3 ∷ [] }
    ∷ record { pages = 1; mirroring = SingleScreenB; shows = 0 ∷ 0 ∷ 0 ∷ 0 ∷ [] }
    ∷ record { pages = 2; mirroring = SingleScreenB; shows = 1 ∷ 1 ∷ 1 ∷ 1 ∷ [] }
    ∷ record { pages = 2; mirroring = SingleScreenA; shows = 0 ∷ 0 ∷ 0 ∷ 0 ∷ [] }
    ∷ record { pages = 2; mirroring = Vertical; shows = 0 ∷ 1 ∷ 0 ∷ 1 ∷ [] }
    ∷ record { pages = 2; mirroring = Horizontal; shows = 0 ∷ 0 ∷ 1 ∷ 1 ∷ [] }
    ∷ []

abbrev nametables_right : Nametables → Bool
nametables_right n =
    same (drop 8 (set_mirroring (unmapped_memory (cart 32768 8192 (1024 * n.pages))) n.mirroring).chr_pages)
    (map (λ k. ram (50 + k)) (n.shows ++ n.shows))

-- ---- the test over all rows

pub right : Bool
right = every rom_right roms && every ram_right rams && every flag_right flags && every nametables_right nametables

pub cases : right ≡ true
unfolding right layout_of arena_order pages_before first_page region_of banks_of window_base region_page each_page show_pages map_pages map_prg
    nametable_page mirror_pages set_mirroring unmapped_memory new_memory
cases = refl
