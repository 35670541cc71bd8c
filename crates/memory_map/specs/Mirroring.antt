-- M7: `set_mirroring`.
use Rattle.std.specs.Prelude.{ℕ, ◌+◌, ◌*◌, ◌/◌, ◌%◌, true, List, [], ◌∷◌, get_or}
use Rattle.memory.specs.declared.Memory.{Memory}
use Rattle.memory.specs.declared.layout.Region.{Region}
use Rattle.memory.specs.declared.layout.Src.TheVariants.{CiRam}
use Rattle.memory.specs.declared.mirroring.Mirroring.{Mirroring}
use Rattle.memory.specs.declared.mirroring.Mirroring.TheVariants.{Vertical, Horizontal, SingleScreenA, SingleScreenB, FourScreen}
use Rattle.memory.specs.declared.page.Page.{Page}
use Rattle.memory.specs.Memory.{region_in, with_chr_pages}
use Rattle.memory.specs.Page.{page_of}
use Rattle.memory_map.specs.Windows.{each_page}

-- M7: the CIRAM pages of the four nametables
abbrev pub ciram_banks : Mirroring → List ℕ
ciram_banks Vertical = 0 ∷ 1 ∷ 0 ∷ 1 ∷ []
ciram_banks Horizontal = 0 ∷ 0 ∷ 1 ∷ 1 ∷ []
ciram_banks SingleScreenA = 0 ∷ 0 ∷ 0 ∷ 0 ∷ []
ciram_banks SingleScreenB = 1 ∷ 1 ∷ 1 ∷ 1 ∷ []
ciram_banks FourScreen = 0 ∷ 1 ∷ 2 ∷ 3 ∷ []

-- M7: the page number counts by its remainder, and the entry has the flag
unfoldable pub nametable_page : Region → ℕ → Page
nametable_page ciram bank = page_of (ciram.start + 1024 * (bank % (ciram.len / 1024))) true

-- M7: the four pages in entries 8 to 11, and again in 12 to 15
unfoldable pub mirror_pages : List ℕ → Region → List Page → List Page
mirror_pages banks ciram = each_page 16 (λ i old. nametable_page ciram (get_or banks (i % 4) 0)) 8 8

-- M7: `Memory::set_mirroring`
unfoldable pub set_mirroring : Memory → Mirroring → Memory
set_mirroring m k = with_chr_pages m (mirror_pages (ciram_banks k) (region_in m CiRam) m.chr_pages)
