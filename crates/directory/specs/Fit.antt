-- K2, N2: when a directory is fit.
use Rattle.std.specs.Prelude.{◌≡◌, ℕ, suc, ◌<◌, Bool, true, false, cond, not, ◌&&◌, ◌||◌, List, [], ◌∷◌, length, ◌==◌, ◌≢◌, slice_index}
use Rattle.directory.specs.Block.{start_of, len_of, fits, free, holds}

-- some place passes a test
unfoldable pub any : (ℕ → Bool) → List ℕ → Bool
any p [] = false
any p (w ∷ d) = p w || any p d

-- the first place that passes, or the length where none does
unfoldable pub first : (ℕ → Bool) → List ℕ → ℕ
first p [] = 0
first p (w ∷ d) = cond (p w) 0 (suc (first p d))

-- every held place could be registered, and no later place holds its start
unfoldable pub sound : List ℕ → Bool
sound [] = true
sound (w ∷ d) = cond (free w) (sound d) (fits (start_of w) (len_of w) && (not (any (holds (start_of w)) d) && sound d))

unfoldable pub fit : List ℕ → Bool
fit d = length d == 256 && sound d

-- the same by places: what `fit` is proved to say, both ways
pub record Fit (d : List ℕ) : Type 0 where
  pub places : length d ≡ 256
  pub registrable : (i : ℕ) → i < 256 → (slice_index d i ≢ 0) → fits (start_of (slice_index d i)) (len_of (slice_index d i)) ≡ true
  pub once : (i j : ℕ) → i < 256 → j < 256 → (slice_index d i ≢ 0) → (slice_index d j ≢ 0)
      → start_of (slice_index d i) ≡ start_of (slice_index d j) → i ≡ j
