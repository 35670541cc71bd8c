-- K5: which blocks go: those over a CPU page that was touched.
use Rattle.std.specs.Prelude.{ℕ, zero, suc, ◌+◌, ◌-◌, ◌*◌, ◌/◌, ◌^◌, Bool, false, cond, not, ◌&&◌, ◌||◌, List, [], ◌∷◌, ◌++◌}
use Rattle.memory.specs.Page.{has_bit}
use Rattle.directory.specs.Block.{start_of, len_of, free, under}

unfoldable pub some_below : ℕ → (ℕ → Bool) → Bool
some_below zero p = false
some_below (suc n) p = p n || some_below n p

-- a block goes where a CPU page under it is touched: has_bit k of `touched` is CPU page k
unfoldable pub goes : ℕ → ℕ → ℕ → Bool
goes touched start len = some_below 64 (λ k. under start len k && has_bit k touched)

-- a place whose block goes, and what is held of it
unfoldable pub gone : ℕ → ℕ → Bool
gone touched w = not (free w) && goes touched (start_of w) (len_of w)

unfoldable pub kept : ℕ → ℕ → ℕ
kept touched w = cond (gone touched w) 0 w

-- the places of the blocks that go are taken out and stand free behind the others, which keep their order
unfoldable pub dropped : ℕ → List ℕ → List ℕ
dropped touched [] = []
dropped touched (w ∷ d) = cond (gone touched w) (dropped touched d ++ (0 ∷ [])) (w ∷ dropped touched d)

-- the pages under a block as one number
abbrev pub first_page : ℕ → ℕ
first_page start = start / 1024

abbrev pub page_count : ℕ → ℕ → ℕ
page_count start len = (start + len - 1) / 1024 - start / 1024 + 1

unfoldable pub pages_under : ℕ → ℕ → ℕ
pages_under start len = (2 ^ page_count start len - 1) * 2 ^ first_page start
