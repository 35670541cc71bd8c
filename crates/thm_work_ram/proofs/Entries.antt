-- M16: every region lies behind the zero page, so each entry that mapping makes is unmapped or shows a page behind it.
use Prim.Native.Nat.{ℕ, ◌+◌, ◌*◌, ◌/◌, ◌%◌, ◌≤◌, ◌<◌}
use mathlib.Core.Path.{◌≡◌, refl}
use mathlib.Core.Bool.{Bool, true}
use mathlib.Core.Logic.{inl, inr}
use native.Mathlib.Decide.{ℕ_discrete}
use native.Mathlib.Nat.{mod-lt}
use native.Mathlib.Omega.{arith}
use borrow.Author.Tests.{eq-eqb, ne_eqb}
use lib.Dec.{eqb}
use lib.IntN.{ℤ, pos}
use Rattle.limits.specs.Limits.{arena_most}
use Rattle.limits.proofs.Each.{cond-holds, each-replicate}
use Rattle.memory.specs.declared.Memory.{Memory}
use Rattle.memory.specs.declared.layout.Layout.{Layout}
use Rattle.memory.specs.declared.layout.MemoryLayout.{MemoryLayout}
use Rattle.memory.specs.declared.layout.Src.{Src}
use Rattle.memory.specs.declared.layout.Src.TheVariants.{CiRam, PrgRam}
use Rattle.memory.specs.declared.mirroring.Mirroring.{Mirroring}
use Rattle.memory.specs.declared.mirroring.Mirroring.TheVariants.{Horizontal}
use Rattle.memory.specs.declared.page.Page.{Page}
use Rattle.memory.specs.Layout.{within_limits, first_page, region_of}
use Rattle.memory.specs.Memory.{region_in}
use Rattle.memory.specs.Page.{unmapped, page_of, offset_of}
use Rattle.memory.specs.Range.{Sized, Ranged}
use Rattle.memory.proofs.Laws.Layout.{region-le, layout-good}
use Rattle.memory.proofs.Laws.Page.{offset-page}
use Rattle.memory_map.specs.Mirroring.{nametable_page, mirror_pages, set_mirroring}
use Rattle.memory_map.specs.New.{unmapped_memory, new_memory}
use Rattle.memory_map.specs.Windows.{region_page, rust_with_flag, with_flag, show_pages, map_pages, unmap_pages, set_writable}
use Rattle.memory_map.specs.Windows.{map_prg, map_chr, unmap_prg, set_prg_writable}
use Rattle.memory_map.proofs.Laws.Memory.{each_holds, ranged-set-writable}
use Rattle.board_chip.specs.declared.namco163.Namco163.{Namco163}
use Rattle.board_protection.specs.Protection.{remap_banks}
use Rattle.thm_steps.proofs.Banking.{Steps, ranged-steps}
use Rattle.thm_steps.proofs.Protection.{remap-banks-keeps}
use Rattle.thm_work_ram.specs.ZeroPage.{Apart, TablesApart}

-- ---- entries

pub behind : (l : Layout) (used : ℕ) (s : Src) → 1024 ≤ (region_of l used s).start
unfolding region_of first_page
behind l used s = omega arith

-- an entry made of an offset behind the zero page
page-apart : (o : ℕ) (w : Bool) → 1024 ≤ o → o < arena_most → Apart (page_of o w)
page-apart o w low high = inr (rw (offset-page o w (omega arith)) low)

flag-apart : (w : Bool) (p : Page) → Apart p → Apart (with_flag w p)
flag-apart w p (inl e) = rw e (inl refl)
flag-apart w p (inr h) =
    cond-holds Apart (eqb p.0 0) p (rust_with_flag w p) (inr h) (inr (rw (offset-page (offset_of p) w (omega arith)) h))

module _ (m : Memory) (z : Sized m) where
  region-apart : (s : Src) (o : ℕ) → Apart (region_page (region_in m s) o)
  unfolding region_page
  region-apart s o = by (ℕ_discrete (region_in m s).len 0)
    where
      by : Dec ((region_in m s).len ≡ 0) → Apart (region_page (region_in m s) o)
      by (yes e) = rw (eq-eqb (region_in m s).len 0 e) (inl refl)
      by (no ne) =
          let some : 0 < (region_in m s).len = omega (arith, ne) in
          let inside = region-le m.layout m.battery_ext_len s z.layout z.used in
          rw (ne_eqb (region_in m s).len 0 ne)
          (page-apart ((region_in m s).start + o % (region_in m s).len) (region_in m s).writable
          (omega (arith, behind m.layout m.battery_ext_len s)) (omega (arith, inside, mod-lt o some)))

  nametable-apart : (bank : ℕ) → Apart (nametable_page (region_in m CiRam) bank)
  unfolding nametable_page region_of
  nametable-apart bank =
      let ciram = region_in m CiRam in
      let inside = region-le m.layout m.battery_ext_len CiRam z.layout z.used in
      let pages : 0 < ciram.len / 1024 = omega (arith, z.layout.some_ciram) in
      page-apart (ciram.start + 1024 * (bank % (ciram.len / 1024))) true (omega (arith, behind m.layout m.battery_ext_len CiRam))
      (omega (arith, inside, mod-lt bank pages))

  -- ---- the memory's steps

  show-apart : (addr s : ℕ) (b : ℤ) (src : Src) → TablesApart m → TablesApart (map_prg m addr s b src)
  unfolding map_prg map_pages show_pages
  show-apart addr s b src q =
      record { prg = each_holds Apart 64 _ (λ i p h. region-apart src _) (addr / 1024) (s / 1024) _ q.prg; chr = q.chr }

  slot_apart : (addr s : ℕ) (b : ℤ) (src : Src) → TablesApart m → TablesApart (map_chr m addr s b src)
  unfolding map_chr map_pages show_pages
  slot_apart addr s b src q =
      record { prg = q.prg; chr = each_holds Apart 16 _ (λ i p h. region-apart src _) (addr / 1024) (s / 1024) _ q.chr }

  mirror-apart : (k : Mirroring) → TablesApart m → TablesApart (set_mirroring m k)
  unfolding set_mirroring mirror_pages
  mirror-apart k q = record { prg = q.prg; chr = each_holds Apart 16 _ (λ i p h. nametable-apart _) 8 8 _ q.chr }

unmap-apart : (m : Memory) (addr s : ℕ) → TablesApart m → TablesApart (unmap_prg m addr s)
unfolding unmap_prg unmap_pages
unmap-apart m addr s q =
    record { prg = each_holds Apart 64 _ (λ i p h. inl refl) (addr / 1024) (s / 1024) _ q.prg; chr = q.chr }

writable_apart : (m : Memory) (addr s : ℕ) (w : Bool) → TablesApart m → TablesApart (set_prg_writable m addr s w)
unfolding set_prg_writable set_writable
writable_apart m addr s w q =
    record { prg = each_holds Apart 64 _ (λ i p h. flag-apart w p h) (addr / 1024) (s / 1024) _ q.prg; chr = q.chr }

-- ---- the mapping in either edition, and the new memory

abbrev Both : Memory → Type 0
Both m = Ranged m × TablesApart m

both-steps : Steps Both
both-steps =
    record {
      slot = λ m addr bank ciram q. (ranged-steps.slot m addr bank ciram q.0, slot_apart m q.0.sized addr _ _ _ q.1);
      mirroring = λ m k q. (ranged-steps.mirroring m k q.0, mirror-apart m q.0.sized k q.1);
      rom = λ m addr b lo hi q. (ranged-steps.rom m addr b lo hi q.0, show-apart m q.0.sized addr _ b _ q.1);
      ram = λ m w q.
          (ranged-steps.ram m w q.0, writable_apart _ 0x6000 _ w (show-apart m q.0.sized 0x6000 _ (pos 0) PrgRam q.1));
      no_ram = λ m q. (ranged-steps.no_ram m q.0, unmap-apart m 0x6000 _ q.1);
    }

pub remap-banks-apart : (protects : Bool) (n : Namco163) (m : Memory) → Ranged m → TablesApart m → TablesApart (remap_banks protects n m)
remap-banks-apart protects n m r q =
    (remap-banks-keeps Both both-steps
    (λ m addr w lo hi q. (ranged-set-writable m q.0 addr 2048 w, writable_apart m addr 2048 w q.1)) protects n m (r, q)).1

pub new_apart : (s : MemoryLayout) → within_limits s ≡ true → TablesApart (new_memory s)
unfolding new_memory unmapped_memory
new_apart s e =
    mirror-apart (unmapped_memory s) (record { layout = layout-good s e; used = omega arith }) Horizontal
    (record {
      prg = each-replicate Apart 64 unmapped unmapped (inl refl) (inl refl);
      chr = each-replicate Apart 16 unmapped unmapped (inl refl) (inl refl);
    })
