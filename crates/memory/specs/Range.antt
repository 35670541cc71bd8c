-- R9 of a memory: each part as the test that N2 makes and, beside it, as the facts that the test gives.
use Rattle.std.specs.Prelude.{ℕ, ◌*◌, ◌%◌, ◌^◌, ◌≤◌, ◌<◌, Bool, false, not, ◌&&◌, ◌||◌, List, ◌⊎◌, ◌≡◌, eqb, leb, ltb, length, get_or}
use Rattle.limits.specs.Every.{every}
use Rattle.limits.specs.Limits.{prg_rom_pages, prg_ram_pages, battery_pages, chr_pages, ciram_pages, used_most, prg_entries, chr_entries}
use Rattle.memory.specs.declared.Memory.{Memory}
use Rattle.memory.specs.declared.layout.Layout.{Layout}
use Rattle.memory.specs.declared.page.Page.{Page}
use Rattle.memory.specs.Layout.{arena_pages, arena_len}
use Rattle.memory.specs.Page.{has_bit, unmapped, offset_of}

-- ---- the page counts: R9

unfoldable pub layout_ok : Layout → Bool
layout_ok l =
    leb l.prg_rom prg_rom_pages
    && (leb l.prg_ram prg_ram_pages
    && (leb l.battery_ext battery_pages
    && (leb l.chr chr_pages
    && (leb l.ciram ciram_pages
    && leb 1 l.ciram))))

pub record GoodLayout (l : Layout) : Type 0 where
  pub prg_rom : l.prg_rom ≤ prg_rom_pages
  pub prg_ram : l.prg_ram ≤ prg_ram_pages
  pub battery : l.battery_ext ≤ battery_pages
  pub chr : l.chr ≤ chr_pages
  pub ciram : l.ciram ≤ ciram_pages
  pub some_ciram : 1 ≤ l.ciram

-- ---- the used reserve: R9, 0, or 128 where the reserve has a page

unfoldable pub used_ok : ℕ → Layout → Bool
used_ok used l = eqb used 0 || (eqb used used_most && leb 1 l.battery_ext)

abbrev pub UsedIn : ℕ → Layout → Type 0
UsedIn used l = (used ≡ 0) ⊎ ((used ≡ used_most) × (1 ≤ l.battery_ext))

-- ---- entries: R9

-- of an arena of n bytes
unfoldable pub entry_ok : ℕ → Page → Bool
entry_ok n p =
    eqb (offset_of p % 1024) 0
    && (ltb (offset_of p) n
    && not (has_bit 30 p.0))

-- of an arena of n pages
pub record EntryIn (n : ℕ) (p : Page) : Type 0 where
  pub page_start : offset_of p % 1024 ≡ 0
  pub inside : offset_of p < 1024 * n
  pub clear : has_bit 30 p.0 ≡ false

-- entry i of a table
abbrev pub entry_test : ℕ → List Page → ℕ → Bool
entry_test n t i = entry_ok n (get_or t i unmapped)

-- the first k entries of a table
abbrev pub TableIn : ℕ → ℕ → List Page → Type 0
TableIn n k t = (i : ℕ) → i < k → EntryIn n (get_or t i unmapped)

-- ---- the memory: R9

unfoldable pub memory_ok : Memory → Bool
memory_ok m =
    layout_ok m.layout
    && (used_ok m.battery_ext_len m.layout
    && (every prg_entries (entry_test (arena_len m.layout) m.prg_pages)
    && every chr_entries (entry_test (arena_len m.layout) m.chr_pages)))

-- of the sizes, what mapping needs: page counts in range, and no more of the reserve used than there is
pub record Sized (m : Memory) : Type 0 where
  pub layout : GoodLayout m.layout
  pub used : m.battery_ext_len ≤ 1024 * m.layout.battery_ext

-- with the entries, what an access needs
pub record Ranged (m : Memory) : Type 0 where
  pub sized : Sized m
  pub prg : TableIn (arena_pages m.layout) prg_entries m.prg_pages
  pub chr : TableIn (arena_pages m.layout) chr_entries m.chr_pages

-- all that the test gives
pub record MemoryInRange (m : Memory) : Type 0 where
  pub ranged : Ranged m
  pub used : UsedIn m.battery_ext_len m.layout

-- ---- what the types say, of every memory: R8

pub record MemoryTyped (m : Memory) : Type 0 where
  pub prg : length m.prg_pages ≡ prg_entries
  pub chr : length m.chr_pages ≡ chr_entries
  pub prg_words : (i : ℕ) → (get_or m.prg_pages i unmapped).0 < 2 ^ 32
  pub chr_words : (i : ℕ) → (get_or m.chr_pages i unmapped).0 < 2 ^ 32

-- a list of bytes
abbrev pub Bytes : List ℕ → Type 0
Bytes l = (i : ℕ) → get_or l i 0 < 256
