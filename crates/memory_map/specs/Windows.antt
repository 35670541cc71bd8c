-- M1, M2, M5: the mapping of a window, and the flag of its entries.
use Rattle.std.specs.Prelude.{ℕ, zero, suc, ◌+◌, ◌-◌, ◌*◌, ◌/◌, ◌%◌, ◌^◌, max, ◌≤◌, ◌<◌, ◌≡◌, Bool, cond, List, eqb, ℤ, pos, negsuc, set, get_or}
use Rattle.memory.specs.declared.Memory.{Memory}
use Rattle.memory.specs.declared.layout.Region.{Region}
use Rattle.memory.specs.declared.layout.Src.{Src}
use Rattle.memory.specs.declared.page.Page.{Page}
use Rattle.memory.specs.Memory.{region_in, with_prg_pages, with_chr_pages}
use Rattle.memory.specs.Page.{unmapped, page_of, offset_of}

-- ---- banks: M1

-- how many whole windows fit
abbrev pub whole_banks : ℕ → ℕ → ℕ
whole_banks len s = len / s

-- at least one
unfoldable pub banks_of : ℕ → ℕ → ℕ
banks_of len s = max 1 (whole_banks len s)

-- M1: the remainder of b by n is never negative: −1 gives n − 1 (`negsuc k` is −1 − k; the Rust's `rem_euclid`)
abbrev pub modulo : ℤ → ℕ → ℕ
modulo (pos k) n = k % n
modulo (negsuc k) n = n - 1 - k % n

-- where bank b begins in a region of len bytes
unfoldable pub window_base : ℕ → ℕ → ℤ → ℕ
window_base len s b = modulo b (banks_of len s) * s

-- ---- pages: M1, and M2 for an empty region

-- the page at offset o of a region
unfoldable pub region_page : Region → ℕ → Page
region_page r o = cond (eqb r.len 0) unmapped (page_of (r.start + o % r.len) r.writable)

-- a region that a page's offset reaches, and a base in it
pub record Shown (r : Region) (base : ℕ) : Type 0 where
  pub reached : r.start + r.len < 2 ^ 30
  pub within : base ≤ r.len

-- M5 in the Rust: the flag as told, the offset as it was; an unmapped entry is no exception
abbrev pub rust_with_flag : Bool → Page → Page
rust_with_flag w p = page_of (offset_of p) w

-- M5: an unmapped entry stays so; every other one as in the Rust
abbrev pub with_flag : Bool → Page → Page
with_flag w p = cond (eqb p.0 0) p (rust_with_flag w p)

-- ---- tables

-- n entries of a table of k entries, from a slot on and round its end: entry i of them becomes f i of what it was
unfoldable pub each_page : ℕ → (ℕ → Page → Page) → ℕ → ℕ → List Page → List Page
each_page k f slot zero l = l
each_page k f slot (suc n) l =
    let before = each_page k f slot n l in
    let at = (slot + n) % k in
    set before at (f n (get_or before at unmapped))

-- a step's answers are those of f, at each of n entries
abbrev pub StepIs : (ℕ → Page → Page → Type 0) → (ℕ → Page → Page) → ℕ → Type 0
StepIs answers f n = (i : ℕ) (old new : Page) → i < n → answers i old new → new ≡ f i old

-- a window is one page to the whole CPU space long; the code asks no more of a size than that it is above 0
pub record WindowSize (s : ℕ) : Type 0 where
  pub some : 1024 ≤ s
  pub small : s ≤ 65536

-- M1: the pages of a region from a base on, in the s / 1,024 entries of a window of s bytes
unfoldable pub show_pages : ℕ → Region → ℕ → ℕ → ℕ → List Page → List Page
show_pages k r base s slot = each_page k (λ i old. region_page r (base + 1024 * i)) slot (s / 1024)

-- M1: `map_pages`, bank b of a region in a window of s bytes
unfoldable pub map_pages : ℕ → Region → ℕ → ℤ → ℕ → List Page → List Page
map_pages k r s b = show_pages k r (window_base r.len s b) s

-- R7: the window shows the zero page: its entries are unmapped
unfoldable pub unmap_pages : ℕ → ℕ → ℕ → List Page → List Page
unmap_pages k s slot = each_page k (λ i old. unmapped) slot (s / 1024)

-- M5: the window's entries take the flag w
unfoldable pub set_writable : ℕ → ℕ → Bool → ℕ → List Page → List Page
set_writable k s w slot = each_page k (λ i old. with_flag w old) slot (s / 1024)

-- ---- the memory's steps: M3; a table's slot is its address in pages

-- `Memory::map_prg`
unfoldable pub map_prg : Memory → ℕ → ℕ → ℤ → Src → Memory
map_prg m addr s b src = with_prg_pages m (map_pages 64 (region_in m src) s b (addr / 1024) m.prg_pages)

-- `Memory::map_chr`
unfoldable pub map_chr : Memory → ℕ → ℕ → ℤ → Src → Memory
map_chr m addr s b src = with_chr_pages m (map_pages 16 (region_in m src) s b (addr / 1024) m.chr_pages)

-- `Memory::unmap_prg`
unfoldable pub unmap_prg : Memory → ℕ → ℕ → Memory
unmap_prg m addr s = with_prg_pages m (unmap_pages 64 s (addr / 1024) m.prg_pages)

-- `Memory::set_prg_writable`
unfoldable pub set_prg_writable : Memory → ℕ → ℕ → Bool → Memory
set_prg_writable m addr s w = with_prg_pages m (set_writable 64 s w (addr / 1024) m.prg_pages)

-- the same by the Rust's rule
unfoldable pub rust_set_prg_writable : Memory → ℕ → ℕ → Bool → Memory
rust_set_prg_writable m addr s w = with_prg_pages m (each_page 64 (λ i old. rust_with_flag w old) (addr / 1024) (s / 1024) m.prg_pages)
