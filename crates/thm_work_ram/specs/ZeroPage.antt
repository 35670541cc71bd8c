-- R7, M16: the zero page, and the entries that show it.
use Rattle.std.specs.Prelude.{ℕ, ◌+◌, ◌≤◌, ◌<◌, ◌≡◌, List, ◌⊎◌, get_or}
use Rattle.memory.specs.declared.Memory.{Memory}
use Rattle.memory.specs.declared.page.Page.{Page}
use Rattle.memory.specs.Page.{unmapped, offset_of}

-- every byte of the zero page is 0
abbrev pub ZeroPage : List ℕ → Type 0
ZeroPage arena = (i : ℕ) → i < 1024 → get_or arena i 0 ≡ 0

-- an entry is unmapped, or it shows a page behind the zero page
abbrev pub Apart : Page → Type 0
Apart p = (p ≡ unmapped) ⊎ (1024 ≤ offset_of p)

-- each entry of both tables is so
pub record TablesApart (m : Memory) : Type 0 where
  pub prg : (i : ℕ) → Apart (get_or m.prg_pages i unmapped)
  pub chr : (i : ℕ) → Apart (get_or m.chr_pages i unmapped)

-- M15: the window at 6000 is unmapped
abbrev pub NoWorkRam : Memory → Type 0
NoWorkRam m = (i : ℕ) → i < 8 → get_or m.prg_pages (24 + i) unmapped ≡ unmapped
