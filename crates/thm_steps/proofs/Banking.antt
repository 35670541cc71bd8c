-- L13: mapping by the registers keeps a memory in range (R9), for every chip; it keeps the layout, the used length and PRG entries 0..23,
-- so that bits 0..23 of a write's PRG mask are never set (L15). Assumes nothing.
use Prim.Native.Nat.{ℕ, zero, suc, ◌+◌, ◌*◌, ◌/◌, ◌%◌, ◌^◌, ◌≤◌, ◌<◌}
use mathlib.Core.Path.{◌≡◌, refl, ◌∙◌}
use mathlib.Core.Bool.{Bool, true, false}
use mathlib.Core.List.{List, [], ◌∷◌}
use native.Mathlib.Nat.{pow-suc, zero-mod}
use native.Mathlib.Omega.{arith}
use borrow.Author.Tests.{eq-eqb}
use lib.Arith.{mod-mul}
use lib.Dec.{ltb}
use lib.IntN.{ℤ, pos}
use lib.ListN.{get_or}
use lib.Pow.{pow_pos}
use Rattle.limits.proofs.Each.{cond-holds}
use Rattle.memory.specs.declared.Memory.{Memory}
use Rattle.memory.specs.declared.layout.Layout.{Layout}
use Rattle.memory.specs.declared.layout.Src.{Src}
use Rattle.memory.specs.declared.layout.Src.TheVariants.{PrgRom, PrgRam}
use Rattle.memory.specs.declared.mirroring.Mirroring.{Mirroring}
use Rattle.memory.specs.declared.page.Page.{Page}
use Rattle.memory.specs.Changes.{changed}
use Rattle.memory.specs.Layout.{region_len, pages_in}
use Rattle.memory.specs.Range.{Ranged, MemoryTyped}
use Rattle.memory_map.specs.Mirroring.{set_mirroring}
use Rattle.memory.specs.Page.{unmapped}
use Rattle.memory_map.specs.Windows.{map_pages, show_pages, unmap_pages, set_writable, map_prg, map_chr, unmap_prg, set_prg_writable}
use Rattle.memory_map.proofs.Laws.Memory.{each-other, ranged-map-prg, ranged-map-chr, ranged-unmap-prg, ranged-set-writable}
use Rattle.memory_map.proofs.Laws.Memory.{ranged-mirroring, typed-map-prg, typed-map-chr, typed-unmap-prg, typed-set-writable}
use Rattle.memory_map.proofs.Laws.Memory.{typed-mirroring}
use Rattle.board_chip.specs.declared.namco163.Namco163.{Namco163}
use Rattle.board_chip.specs.Namco163.{prg_window, chr_window, is163}
use Rattle.board_chip.specs.Detection.{prg_ram_readable}
use Rattle.board_banking.specs.Banking.{slot_src, map_slot, map_slots, map_chr_table, map_rom, map_work_ram, update_banks}

-- ---- what each step of the mapping keeps, the mapping keeps

pub record Steps (P : Memory → Type 0) : Type 0 where
  pub slot : (m : Memory) (addr bank : ℕ) (ciram : Bool) → P m → P (map_chr m addr chr_window (pos bank) (slot_src ciram))
  pub mirroring : (m : Memory) (k : Mirroring) → P m → P (set_mirroring m k)
  pub rom : (m : Memory) (addr : ℕ) (b : ℤ) → 0x6000 ≤ addr → addr ≤ 0xE000 → P m → P (map_prg m addr prg_window b PrgRom)
  pub ram : (m : Memory) (w : Bool) → P m → P (set_prg_writable (map_prg m 0x6000 prg_window (pos 0) PrgRam) 0x6000 prg_window w)
  pub no_ram : (m : Memory) → P m → P (unmap_prg m 0x6000 prg_window)

module _ (P : Memory → Type 0) (s : Steps P) where
  by-slot : (m : Memory) (slot bank : ℕ) (ciram : Bool) → P m → P (map_slot m slot bank ciram)
  unfolding map_slot
  by-slot m slot bank ciram q =
      let low = s.slot m (slot * chr_window) bank ciram q in
      cond-holds P (ltb slot 8) _ _ low (s.slot _ (slot * chr_window + 0x1000) bank ciram low)

  by_slots : (n : Namco163) (k : ℕ) (m : Memory) → P m → P (map_slots n k m)
  unfolding map_slots
  by_slots n zero m q = q
  by_slots n (suc k) m q = by-slot (map_slots n k m) k _ _ (by_slots n k m q)

  by-table : (n : Namco163) (m : Memory) → P m → P (map_chr_table n m)
  unfolding map_chr_table
  by-table n m q =
      cond-holds P (is163 n.board) _ _ (by_slots n 12 m q) (s.mirroring (map_slots n 8 m) n.mirroring (by_slots n 8 m q))

  -- both tables but for the window of work RAM
  pub before-work-ram : (n : Namco163) (m : Memory) → P m → P (map_rom n (map_chr_table n m))
  unfolding map_rom
  before-work-ram n m q =
      s.rom _ 0xE000 _ (omega arith) (omega arith)
      (s.rom _ 0xC000 _ (omega arith) (omega arith)
      (s.rom _ 0xA000 _ (omega arith) (omega arith)
      (s.rom _ 0x8000 _ (omega arith) (omega arith) (by-table n m q))))

  pub update-banks-keeps : (n : Namco163) (m : Memory) → P m → P (update_banks n m)
  unfolding update_banks map_work_ram
  update-banks-keeps n m q =
      let before = before-work-ram n m q in cond-holds P (prg_ram_readable n.board) _ _ (s.ram _ _ before) (s.no_ram _ before)

-- ---- a memory in range stays in range

-- CHR and CIRAM are as long as their pages
slot-pages : (l : Layout) (used : ℕ) (ciram : Bool) → region_len l used (slot_src ciram) ≡ 1024 * pages_in l (slot_src ciram)
slot-pages l used true = refl
slot-pages l used false = refl

pub ranged-steps : Steps Ranged
ranged-steps =
    record {
      slot = λ m addr bank ciram q. ranged-map-chr m q addr chr_window (pos bank) (slot_src ciram) refl (slot-pages m.layout m.battery_ext_len ciram);
      mirroring = λ m k q. ranged-mirroring m q k;
      rom = λ m addr b lo hi q. ranged-map-prg m q addr prg_window b PrgRom refl refl;
      ram = λ m w q. ranged-set-writable _ (ranged-map-prg m q 0x6000 prg_window (pos 0) PrgRam refl refl) 0x6000 prg_window w;
      no_ram = λ m q. ranged-unmap-prg m q 0x6000 prg_window;
    }

pub update-banks-ranged : (n : Namco163) (m : Memory) → Ranged m → Ranged (update_banks n m)
update-banks-ranged = update-banks-keeps Ranged ranged-steps

-- ---- what mapping leaves alone

pub record Kept (m k : Memory) : Type 0 where
  pub layout : k.layout ≡ m.layout
  pub used : k.battery_ext_len ≡ m.battery_ext_len
  pub low : (i : ℕ) → i < 24 → get_or k.prg_pages i unmapped ≡ get_or m.prg_pages i unmapped
  pub typed : MemoryTyped m → MemoryTyped k

pub kept_self : (m : Memory) → Kept m m
kept_self m = record { layout = refl; used = refl; low = λ i h. refl; typed = λ q. q }

pub kept-both : {m k l : Memory} → Kept m k → Kept k l → Kept m l
kept-both p q =
    record {
      layout = q.layout ∙ p.layout;
      used = q.used ∙ p.used;
      low = λ i h. q.low i h ∙ p.low i h;
      typed = λ t. q.typed (p.typed t);
    }

kept-chr : (m : Memory) (addr s : ℕ) (b : ℤ) (src : Src) → Kept m (map_chr m addr s b src)
unfolding map_chr
kept-chr m addr s b src = record { layout = refl; used = refl; low = λ i h. refl; typed = λ q. typed-map-chr m q addr s b src }

kept-mirroring : (m : Memory) (k : Mirroring) → Kept m (set_mirroring m k)
unfolding set_mirroring
kept-mirroring m k = record { layout = refl; used = refl; low = λ i h. refl; typed = λ q. typed-mirroring m q k }

-- an 8 KiB window at 6000 or above, at entry 24 or above
module _ (m : Memory) (addr : ℕ) (lo : 0x6000 ≤ addr) (hi : addr ≤ 0xE000) where
  kept-prg : (b : ℤ) (src : Src) → Kept m (map_prg m addr prg_window b src)
  unfolding map_prg map_pages show_pages
  kept-prg b src =
      record {
        layout = refl;
        used = refl;
        low = λ i h. each-other 64 _ (addr / 1024) 8 m.prg_pages i (λ j k e. absurd (omega arith));
        typed = λ q. typed-map-prg m q addr prg_window b src;
      }

  kept-unmap : Kept m (unmap_prg m addr prg_window)
  unfolding unmap_prg unmap_pages
  kept-unmap =
      record {
        layout = refl;
        used = refl;
        low = λ i h. each-other 64 _ (addr / 1024) 8 m.prg_pages i (λ j k e. absurd (omega arith));
        typed = λ q. typed-unmap-prg m q addr prg_window;
      }

  kept-writable : (w : Bool) → Kept m (set_prg_writable m addr prg_window w)
  unfolding set_prg_writable set_writable
  kept-writable w =
      record {
        layout = refl;
        used = refl;
        low = λ i h. each-other 64 _ (addr / 1024) 8 m.prg_pages i (λ j k e. absurd (omega arith));
        typed = λ q. typed-set-writable m q addr prg_window w;
      }

pub kept-steps : (m : Memory) → Steps (Kept m)
kept-steps m =
    record {
      slot = λ k addr bank ciram q. kept-both q (kept-chr k addr chr_window (pos bank) (slot_src ciram));
      mirroring = λ k mirroring q. kept-both q (kept-mirroring k mirroring);
      rom = λ k addr b lo hi q. kept-both q (kept-prg k addr lo hi b PrgRom);
      ram = λ k w q.
          kept-both
          (kept-both q (kept-prg k 0x6000 (omega arith) (omega arith) (pos 0) PrgRam))
          (kept-writable _ 0x6000 (omega arith) (omega arith) w);
      no_ram = λ k q. kept-both q (kept-unmap k 0x6000 (omega arith) (omega arith));
    }

pub update-banks-kept : (n : Namco163) (m : Memory) → Kept m (update_banks n m)
update-banks-kept n m = update-banks-keeps (Kept m) (kept-steps m) n m (kept_self m)

-- ---- the mask of two tables whose first k entries agree is a multiple of 2 ^ k

double : (x k : ℕ) → x % 2 ^ k ≡ 0 → x * 2 % 2 ^ suc k ≡ 0
double x k h =
    let low : x * 2 % 2 ≡ 0 = omega arith in
    let high : x * 2 / 2 ≡ x = omega arith in
    rw pow-suc (mod-mul (x * 2) {m = 2 ^ k} {c = 2} (pow_pos k) (omega arith) ∙ rw (low, high, h))

pub mask-multiple : (k : ℕ) (old new : List Page) → ((i : ℕ) → i < k → get_or new i unmapped ≡ get_or old i unmapped)
    → changed old new % 2 ^ k ≡ 0
unfolding changed
mask-multiple zero old new h = omega arith
mask-multiple (suc k) [] new h = zero-mod (2 ^ suc k)
mask-multiple (suc k) (a ∷ old) [] h = zero-mod (2 ^ suc k)
mask-multiple (suc k) (a ∷ old) (b ∷ new) h =
    let first : b ≡ a = h 0 (omega arith) in
    let e : changed old new * 2 + 0 ≡ changed old new * 2 = omega arith in
    rw (first, eq-eqb a.0 a.0 refl, e) (double (changed old new) k (mask-multiple k old new (λ i l. h (suc i) (omega arith))))
