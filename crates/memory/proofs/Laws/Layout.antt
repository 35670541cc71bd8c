-- R4: every region lies inside the arena, behind the zero page. Sizes within R1's limits give a good layout. Assumes nothing.
use Prim.Native.Nat.{ℕ, ◌+◌, ◌*◌, ◌/◌, ◌≤◌, ◌<◌}
use mathlib.Core.Path.{◌≡◌, ◌∙◌}
use mathlib.Core.Bool.{Bool, true, false}
use borrow.Author.Tests.{leb-true, eq-eqb, ne_eqb}
use native.Mathlib.Decide.{ℕ_discrete}
use native.Mathlib.Omega.{arith}
use Rattle.limits.specs.Limits.{ciram_limit, ciram_pages, arena_most}
use Rattle.limits.proofs.Every.{first_of}
use Rattle.memory.specs.declared.layout.Layout.{Layout}
use Rattle.memory.specs.declared.layout.MemoryLayout.{MemoryLayout}
use Rattle.memory.specs.declared.layout.Region.{Region}
use Rattle.memory.specs.declared.layout.Src.{Src}
use Rattle.memory.specs.declared.layout.Src.TheVariants.{PrgRom, PrgRam, BatteryExt, Chr, CiRam}
use Rattle.memory.specs.Layout.{within_limits, WithinLimits, pages_for, ciram_bytes, layout_of}
use Rattle.memory.specs.Layout.{arena_order, pages_in, pages_before, pages_of_all, first_page, arena_pages, arena_len, region_of}
use Rattle.memory.specs.Range.{GoodLayout}

-- CHR stands in one of two places, so the arena has as many pages either way
pub arena-pages : (l : Layout) → arena_pages l ≡ 1 + l.prg_rom + l.prg_ram + l.battery_ext + l.chr + l.ciram
unfolding arena_pages pages_of_all arena_order
arena-pages l = go l.chr_writable
  where
    go : (ram : Bool) → 1 + pages_of_all l (arena_order ram) ≡ 1 + l.prg_rom + l.prg_ram + l.battery_ext + l.chr + l.ciram
    go true = omega arith
    go false = omega arith

-- where each region begins, by whether CHR is RAM
abbrev pub place : Layout → Bool → Src → ℕ
place l ram PrgRom = 1
place l true PrgRam = 1 + l.prg_rom
place l false PrgRam = 1 + l.prg_rom + l.chr
place l true BatteryExt = 1 + l.prg_rom + l.prg_ram
place l false BatteryExt = 1 + l.prg_rom + l.chr + l.prg_ram
place l true Chr = 1 + l.prg_rom + l.prg_ram + l.battery_ext
place l false Chr = 1 + l.prg_rom
place l ram CiRam = 1 + l.prg_rom + l.prg_ram + l.battery_ext + l.chr

-- the definition's first page is there, and the region's pages end inside the arena
places : (l : Layout) (ram : Bool) (s : Src)
    → (place l ram s ≡ 1 + pages_before l s (arena_order ram))
    × (1 + pages_before l s (arena_order ram) + pages_in l s ≤ 1 + pages_of_all l (arena_order ram))
unfolding pages_before pages_of_all arena_order
places l true PrgRom = (omega arith, omega arith)
places l true PrgRam = (omega arith, omega arith)
places l true BatteryExt = (omega arith, omega arith)
places l true Chr = (omega arith, omega arith)
places l true CiRam = (omega arith, omega arith)
places l false PrgRom = (omega arith, omega arith)
places l false PrgRam = (omega arith, omega arith)
places l false BatteryExt = (omega arith, omega arith)
places l false Chr = (omega arith, omega arith)
places l false CiRam = (omega arith, omega arith)

place-first : (l : Layout) (s : Src) → place l l.chr_writable s ≡ first_page l s
unfolding first_page
place-first l s = (places l l.chr_writable s).0

pub region-ends : (l : Layout) (s : Src) → first_page l s + pages_in l s ≤ arena_pages l
unfolding first_page arena_pages
region-ends l s = (places l l.chr_writable s).1

-- R4: the largest arena, every size at its limit
pub pages-le : (l : Layout) → GoodLayout l → arena_pages l ≤ arena_most / 1024
pages-le l g = omega (arith, arena-pages l)

-- and inside the largest arena
pub first-at : (l : Layout) (ram : Bool) (s t : Src) (n : ℕ) → GoodLayout l → l.chr_writable ≡ ram → s ≡ t → n ≡ place l ram t
    → (n ≡ first_page l s) × (n < 1024)
first-at l ram s t n g w e p =
    let q : n ≡ first_page l s = (rw (← w, ← e) at p) ∙ place-first l s in
    (q, omega (arith, q, region-ends l s, pages-le l g))

-- the regions' bytes lie in the arena
pub region-in : (l : Layout) (used : ℕ) (s : Src) → used ≤ 1024 * l.battery_ext
    → (region_of l used s).start + (region_of l used s).len ≤ arena_len l
unfolding region_of arena_len
region-in l used PrgRom h = omega (arith, region-ends l PrgRom)
region-in l used PrgRam h = omega (arith, region-ends l PrgRam)
region-in l used BatteryExt h = omega (arith, region-ends l BatteryExt)
region-in l used Chr h = omega (arith, region-ends l Chr)
region-in l used CiRam h = omega (arith, region-ends l CiRam)

-- and before the end of the largest arena
pub region-le : (l : Layout) (used : ℕ) (s : Src) → GoodLayout l → used ≤ 1024 * l.battery_ext
    → (region_of l used s).start + (region_of l used s).len ≤ arena_most
unfolding arena_len
region-le l used s g h = omega (arith, region-in l used s h, pages-le l g)

-- the definition's region, so one inside the largest arena
pub bounded : (l : Layout) (used : ℕ) (s : Src) (r : Region) → GoodLayout l → used ≤ 1024 * l.battery_ext → r ≡ region_of l used s
    → (r ≡ region_of l used s) × (r.start + r.len ≤ arena_most)
bounded l used s r g h e = (e, rw e (region-le l used s g h))

-- ---- the limits

-- the test passed: each size is within its limit
within-facts : (s : MemoryLayout) → within_limits s ≡ true → WithinLimits s
unfolding within_limits
within-facts s e =
    let d = first_of _ _ e in
    let c = first_of _ _ d.0 in
    let b = first_of _ _ c.0 in
    let a = first_of _ _ b.0 in
    record {
      prg_rom = leb-true _ _ a.0;
      prg_ram = leb-true _ _ a.1;
      battery = leb-true _ _ b.1;
      chr = leb-true _ _ c.1;
      ciram = leb-true _ _ d.1;
    }

-- rounding keeps the limits, and no CIRAM becomes two pages
ciram-pages : (bytes : ℕ) → bytes ≤ ciram_limit → (1 ≤ pages_for (ciram_bytes bytes)) × (pages_for (ciram_bytes bytes) ≤ ciram_pages)
ciram-pages bytes h = by (ℕ_discrete bytes 0)
  where
    by : Dec (bytes ≡ 0) → (1 ≤ pages_for (ciram_bytes bytes)) × (pages_for (ciram_bytes bytes) ≤ ciram_pages)
    by (yes e) = rw (eq-eqb bytes 0 e) (omega arith, omega arith)
    by (no ne) = rw (ne_eqb bytes 0 ne) (let p : 1 ≤ bytes = omega (arith, ne) in omega arith, omega arith)

-- sizes within the limits give page counts within them
pub layout-good : (s : MemoryLayout) → within_limits s ≡ true → GoodLayout (layout_of s)
unfolding layout_of
layout-good s e =
    let f = within-facts s e in
    let c = ciram-pages s.ciram f.ciram in
    record { prg_rom = omega arith; prg_ram = omega arith; battery = omega arith; chr = omega arith; ciram = c.1; some_ciram = c.0 }

-- M13: the battery region begins where PRG-RAM ends, so that `sram` is one stretch
pub battery-behind : (l : Layout) (used : ℕ) → (region_of l used BatteryExt).start
    ≡ (region_of l used PrgRam).start + (region_of l used PrgRam).len
unfolding region_of first_page pages_before arena_order
battery-behind l used = go l.chr_writable
  where
    go : (ram : Bool) → 1024 * (1 + pages_before l BatteryExt (arena_order ram))
        ≡ 1024 * (1 + pages_before l PrgRam (arena_order ram)) + 1024 * l.prg_ram
    go true = omega arith
    go false = omega arith
