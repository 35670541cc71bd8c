-- K5: which CPU pages a call touched, by the two page tables and the byte that it stored: bit k of one number is CPU page k.
use Rattle.std.specs.Prelude.{ℕ, ◌+◌, ◌*◌, ◌/◌, Bool, false, cond, not, ◌||◌, List, [], ◌∷◌, eqb, get_or}
use Rattle.std.proofs.Math.Option.{Option, some, none}
use Rattle.std.specs.Int.Bits.{bit_or}
use Rattle.memory.specs.declared.page.Page.{Page}
use Rattle.memory.specs.Changes.{same, changed}
use Rattle.memory.specs.Page.{unmapped, offset_of}

-- an entry shows the arena page of a byte, the whole page
abbrev pub shows_byte : Page → ℕ → Bool
shows_byte p i = eqb (offset_of p / 1024) (i / 1024)

-- the same of the byte that a call stored, where it stored one
abbrev pub shows : Page → Option ℕ → Bool
shows p none = false
shows p (some i) = shows_byte p i

-- CPU page k is touched: its entry changed, or a byte was stored into the arena page that it shows
abbrev pub touched_at : List Page → List Page → Option ℕ → ℕ → Bool
touched_at old new at k = not (same (get_or old k unmapped) (get_or new k unmapped)) || shows (get_or old k unmapped) at

-- the pages that show a byte's arena page, as the loop makes it
unfoldable pub shown_mask : List Page → ℕ → ℕ
shown_mask [] i = 0
shown_mask (p ∷ ps) i = shown_mask ps i * 2 + cond (shows_byte p i) 1 0

abbrev pub shown_by : List Page → Option ℕ → ℕ
shown_by pages none = 0
shown_by pages (some i) = shown_mask pages i

-- the two masks together
unfoldable pub touched : List Page → List Page → Option ℕ → ℕ
touched old new at = bit_or (changed old new) (shown_by old at)
