-- K2: directories that are fit by their order: starts ascend, and free places are behind them. Registering and dropping keep
-- this order (`registered-ordered`, `dropped-ordered`).
use Rattle.std.specs.Prelude.{ℕ, Bool, true, cond, ◌&&◌, List, [], ◌∷◌, nat_lt}
use Rattle.directory.specs.Block.{start_of, len_of, fits, free}

unfoldable pub all_free : List ℕ → Bool
all_free [] = true
all_free (w ∷ d) = free w && all_free d

-- a place holds a block that can be registered, with a start above s
unfoldable pub rises : ℕ → ℕ → Bool
rises s w = nat_lt s (start_of w) && fits (start_of w) (len_of w)

unfoldable pub ordered : ℕ → List ℕ → Bool
ordered s [] = true
ordered s (w ∷ d) = cond (free w) (all_free d) (rises s w && ordered (start_of w) d)
