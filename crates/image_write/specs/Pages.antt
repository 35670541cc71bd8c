-- H1: the page tables as they are written, eight entries at a time: eight entries of 11 bits are 11 bytes.
use Rattle.std.specs.Prelude.{ℕ, ◌*◌, ◌^◌, ◌<◌, List, get_or}
use Rattle.memory.specs.declared.page.Page.{Page}
use Rattle.memory.specs.Page.{offset_of, unmapped}

-- H1: a page number has 10 bits, and the offset of every such page is below this
abbrev pub offset_limit : ℕ
offset_limit = 2 ^ 10 * 1024

-- the page numbers of a table's n entries have 10 bits
abbrev pub PagesFit : ℕ → List Page → Type 0
PagesFit n pages = (i : ℕ) → i < n → offset_of (get_or pages i unmapped) < offset_limit
