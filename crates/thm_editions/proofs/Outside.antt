-- No entry of either table shows a byte of the battery reserve, after a load and after every mapping in either edition. Assumes nothing.
use Prim.Native.Nat.{ℕ, ◌+◌, ◌*◌, ◌/◌, ◌%◌, ◌≤◌, ◌<◌}
use mathlib.Core.Path.{◌≡◌}
use mathlib.Core.Bool.{Bool, true, false}
use mathlib.Core.Logic.{◌⊎◌, inl, inr}
use native.Mathlib.Omega.{arith}
use native.Mathlib.Decide.{ℕ_discrete}
use native.Mathlib.Nat.{mod-lt}
use borrow.Author.Tests.{eq-eqb, ne_eqb}
use lib.Dec.{eqb}
use lib.IntN.{ℤ, pos}
use lib.ListN.{get_or}
use Rattle.limits.specs.Limits.{arena_most}
use Rattle.limits.proofs.Each.{cond-holds, each-replicate}
use Rattle.memory.specs.declared.Memory.{Memory}
use Rattle.memory.specs.declared.layout.Layout.{Layout}
use Rattle.memory.specs.declared.layout.MemoryLayout.{MemoryLayout}
use Rattle.memory.specs.declared.layout.Src.{Src}
use Rattle.memory.specs.declared.layout.Src.TheVariants.{PrgRom, PrgRam, BatteryExt, Chr, CiRam}
use Rattle.memory.specs.declared.mirroring.Mirroring.{Mirroring}
use Rattle.memory.specs.declared.mirroring.Mirroring.TheVariants.{Horizontal}
use Rattle.memory.specs.declared.page.Page.{Page}
use Rattle.memory.specs.Layout.{within_limits, arena_order, pages_before, first_page, region_len, region_of}
use Rattle.memory.specs.Memory.{region_in}
use Rattle.memory.specs.Page.{unmapped, page_of, offset_of}
use Rattle.memory.specs.Range.{Sized, Ranged}
use Rattle.memory.proofs.Laws.Layout.{region-le, layout-good}
use Rattle.memory.proofs.Laws.Page.{offset-page}
use Rattle.memory_map.specs.Mirroring.{nametable_page, mirror_pages, set_mirroring}
use Rattle.memory_map.specs.New.{unmapped_memory, new_memory}
use Rattle.memory_map.specs.Windows.{rust_with_flag, with_flag, region_page, show_pages, map_pages, unmap_pages, set_writable}
use Rattle.memory_map.specs.Windows.{map_prg, map_chr, unmap_prg, set_prg_writable}
use Rattle.memory_map.proofs.Laws.Memory.{each_holds, ranged-set-writable}
use Rattle.board_chip.specs.declared.namco163.Namco163.{Namco163}
use Rattle.board_banking.specs.Banking.{slot_src}
use Rattle.board_protection.specs.Protection.{remap_banks}
use Rattle.thm_steps.proofs.Banking.{Steps, ranged-steps}
use Rattle.thm_steps.proofs.Protection.{remap-banks-keeps}

-- ---- regions do not meet

-- the pages of the reserve
abbrev pub reserve_at : Layout → ℕ
reserve_at l = 1024 * first_page l BatteryExt

abbrev pub reserve_end : Layout → ℕ
reserve_end l = 1024 * first_page l BatteryExt + 1024 * l.battery_ext

-- a place before them or behind them
abbrev pub Clear : Layout → ℕ → Type 0
Clear l o = (o < reserve_at l) ⊎ (reserve_end l ≤ o)

-- the regions that a table can show
data Shows : Src → Type 0 where
  rom : Shows PrgRom
  ram : Shows PrgRam
  chr : Shows Chr
  ciram : Shows CiRam

slot-shows : (ciram : Bool) → Shows (slot_src ciram)
slot-shows true = ciram
slot-shows false = chr

-- by whether CHR is RAM, which says where it stands
abbrev first_by : Bool → Layout → Src → ℕ
first_by w l s = 1 + pages_before l s (arena_order w)

clear-by : (w : Bool) (l : Layout) (used : ℕ) (s : Src) → Shows s → (o : ℕ) → 1024 * first_by w l s ≤ o
    → o < 1024 * first_by w l s + region_len l used s
    → (o < 1024 * first_by w l BatteryExt) ⊎ (1024 * first_by w l BatteryExt + 1024 * l.battery_ext ≤ o)
unfolding pages_before arena_order
clear-by true l used PrgRom rom o low high = inl (omega arith)
clear-by true l used PrgRam ram o low high = inl (omega arith)
clear-by true l used BatteryExt none o low high = elim none [ ]
clear-by true l used Chr chr o low high = inr (omega arith)
clear-by true l used CiRam ciram o low high = inr (omega arith)
clear-by false l used PrgRom rom o low high = inl (omega arith)
clear-by false l used PrgRam ram o low high = inl (omega arith)
clear-by false l used BatteryExt none o low high = elim none [ ]
clear-by false l used Chr chr o low high = inl (omega arith)
clear-by false l used CiRam ciram o low high = inr (omega arith)

-- a byte of such a region
region-clear : (l : Layout) (used : ℕ) (s : Src) → Shows s → (o : ℕ) → 1024 * first_page l s ≤ o
    → o < 1024 * first_page l s + region_len l used s → Clear l o
unfolding first_page
region-clear l used s k o low high = clear-by l.chr_writable l used s k o low high

-- the zero page
zero_clear : (l : Layout) → Clear l 0
unfolding first_page
zero_clear l = inl (omega arith)

-- ---- entries

abbrev pub Outside : Layout → Page → Type 0
Outside l p = Clear l (offset_of p)

pub record TablesOutside (m : Memory) : Type 0 where
  pub prg : (i : ℕ) → Outside m.layout (get_or m.prg_pages i unmapped)
  pub chr : (i : ℕ) → Outside m.layout (get_or m.chr_pages i unmapped)

page-outside : (l : Layout) (o : ℕ) (w : Bool) → o < arena_most → Clear l o → Outside l (page_of o w)
page-outside l o w high c = rw (offset-page o w (omega arith)) c

flag-outside : (l : Layout) (w : Bool) (p : Page) → Outside l p → Outside l (with_flag w p)
flag-outside l w p c =
    cond-holds (Outside l) (eqb p.0 0) p (rust_with_flag w p) c (rw (offset-page (offset_of p) w (omega arith)) c)

module _ (m : Memory) (z : Sized m) where
  region-outside : (s : Src) → Shows s → (o : ℕ) → Outside m.layout (region_page (region_in m s) o)
  unfolding region_page region_of
  region-outside s k o = by (ℕ_discrete (region_in m s).len 0)
    where
      by : Dec ((region_in m s).len ≡ 0) → Outside m.layout (region_page (region_in m s) o)
      by (yes e) = rw (eq-eqb (region_in m s).len 0 e) (zero_clear m.layout)
      by (no ne) =
          let some : 0 < (region_in m s).len = omega (arith, ne) in
          let inside = region-le m.layout m.battery_ext_len s z.layout z.used in
          let at = (region_in m s).start + o % (region_in m s).len in
          rw (ne_eqb (region_in m s).len 0 ne)
          (page-outside m.layout at (region_in m s).writable (omega (arith, inside, mod-lt o some))
          (region-clear m.layout m.battery_ext_len s k at (omega arith) (omega (arith, mod-lt o some))))

  nametable-outside : (bank : ℕ) → Outside m.layout (nametable_page (region_in m CiRam) bank)
  unfolding nametable_page region_of
  nametable-outside bank =
      let r = region_in m CiRam in
      let inside = region-le m.layout m.battery_ext_len CiRam z.layout z.used in
      let pages : 0 < r.len / 1024 = omega (arith, z.layout.some_ciram) in
      let at = r.start + 1024 * (bank % (r.len / 1024)) in
      page-outside m.layout at true (omega (arith, inside, mod-lt bank pages))
      (region-clear m.layout m.battery_ext_len CiRam ciram at (omega arith) (omega (arith, mod-lt bank pages)))

  -- ---- the memory's steps

  show-outside : (addr s : ℕ) (b : ℤ) (src : Src) → Shows src → TablesOutside m → TablesOutside (map_prg m addr s b src)
  unfolding map_prg map_pages show_pages
  show-outside addr s b src k q =
      record {
        prg = each_holds (Outside m.layout) 64 _ (λ i p h. region-outside src k _) (addr / 1024) (s / 1024) _ q.prg;
        chr = q.chr;
      }

  slot-outside : (addr s : ℕ) (b : ℤ) (src : Src) → Shows src → TablesOutside m → TablesOutside (map_chr m addr s b src)
  unfolding map_chr map_pages show_pages
  slot-outside addr s b src k q =
      record {
        prg = q.prg;
        chr = each_holds (Outside m.layout) 16 _ (λ i p h. region-outside src k _) (addr / 1024) (s / 1024) _ q.chr;
      }

  mirror-outside : (k : Mirroring) → TablesOutside m → TablesOutside (set_mirroring m k)
  unfolding set_mirroring mirror_pages
  mirror-outside k q =
      record { prg = q.prg; chr = each_holds (Outside m.layout) 16 _ (λ i p h. nametable-outside _) 8 8 _ q.chr }

unmap-outside : (m : Memory) (addr s : ℕ) → TablesOutside m → TablesOutside (unmap_prg m addr s)
unfolding unmap_prg unmap_pages
unmap-outside m addr s q =
    record {
      prg = each_holds (Outside m.layout) 64 _ (λ i p h. zero_clear m.layout) (addr / 1024) (s / 1024) _ q.prg;
      chr = q.chr;
    }

writable-outside : (m : Memory) (addr s : ℕ) (w : Bool) → TablesOutside m → TablesOutside (set_prg_writable m addr s w)
unfolding set_prg_writable set_writable
writable-outside m addr s w q =
    record {
      prg = each_holds (Outside m.layout) 64 _ (λ i p h. flag-outside m.layout w p h) (addr / 1024) (s / 1024) _ q.prg;
      chr = q.chr;
    }

-- ---- the mapping in either edition, and the new memory

abbrev Both : Memory → Type 0
Both m = Ranged m × TablesOutside m

both-steps : Steps Both
both-steps =
    record {
      slot = λ m addr bank ciram q.
          (ranged-steps.slot m addr bank ciram q.0, slot-outside m q.0.sized addr _ _ _ (slot-shows ciram) q.1);
      mirroring = λ m k q. (ranged-steps.mirroring m k q.0, mirror-outside m q.0.sized k q.1);
      rom = λ m addr b lo hi q. (ranged-steps.rom m addr b lo hi q.0, show-outside m q.0.sized addr _ b _ rom q.1);
      ram = λ m w q. (
        ranged-steps.ram m w q.0,
        writable-outside _ 0x6000 _ w (show-outside m q.0.sized 0x6000 _ (pos 0) PrgRam ram q.1),
      );
      no_ram = λ m q. (ranged-steps.no_ram m q.0, unmap-outside m 0x6000 _ q.1);
    }

pub remap-banks-outside : (protects : Bool) (n : Namco163) (m : Memory) → Ranged m → TablesOutside m
    → TablesOutside (remap_banks protects n m)
remap-banks-outside protects n m r q =
    (remap-banks-keeps Both both-steps
    (λ m addr w lo hi q. (ranged-set-writable m q.0 addr 2048 w, writable-outside m addr 2048 w q.1)) protects n m (r, q)).1

pub new-outside : (s : MemoryLayout) → within_limits s ≡ true → TablesOutside (new_memory s)
unfolding new_memory unmapped_memory
new-outside s e =
    mirror-outside (unmapped_memory s) (record { layout = layout-good s e; used = omega arith }) Horizontal
    (record {
      prg = each-replicate (Outside _) 64 unmapped unmapped (zero_clear _) (zero_clear _);
      chr = each-replicate (Outside _) 16 unmapped unmapped (zero_clear _) (zero_clear _);
    })
