-- S7, S8, S15: from channel outputs to `out` and to a sample. All arithmetic is that of f32 (F11).
use Rattle.std.specs.Prelude.{◌≡◌, ℕ, ◌+◌, ◌-◌, Bool, cond, List, [], ◌∷◌, map, drop, ℤ, pos, ◌+ℤ◌, from_bits, slice_index_or, to_bits, unsigned_abs, Float}
use Rattle.std.specs.Float.{binary32}
use Rattle.std.specs.Float.Ieee.{add, sub, div, mul, round}
use Rattle.limits.specs.Limits.{minus_zero}
use Rattle.sound.specs.Levels.{whole, whole_z, is_neg}
use Rattle.sound.specs.Range.{level_low, level_high, WholeIn}

-- one f32 addition for each element, from the left, on top of t
unfoldable pub sum_from : Float → List Float → Float
sum_from t [] = t
sum_from t (x ∷ xs) = sum_from (add binary32 t x) xs

-- R11: channel outputs as a list of their whole numbers
pub record Wholes (signed : Bool) (outs : List Float) : Type 0 where
  pub numbers : List ℤ
  pub within : (i : ℕ) → WholeIn (level_low signed) (level_high signed) (slice_index_or numbers i (pos 0))
  pub are : outs ≡ map whole_z numbers

-- the sum of whole numbers, which the f32 sum of their floats is to be
unfoldable pub total : List ℤ → ℤ
total [] = pos 0
total (z ∷ zs) = z +ℤ total zs

-- the sum of their sizes
unfoldable pub sizes : List ℤ → ℕ
sizes [] = 0
sizes (z ∷ zs) = unsigned_abs z + sizes zs

-- S7: the f32 sum of the outputs of channels 7 − c up to 7
unfoldable pub sum_of : List Float → ℕ → Float
unfolding sum_from
sum_of outs c = sum_from (from_bits binary32 0) (drop (7 - c) outs)

-- S7: one division by c + 1
abbrev pub mean_of : Float → ℕ → Float
mean_of x c = div binary32 x (whole (c + 1))

-- S13: `out` of an f32 sum by the choice, the sum itself (S15) or the mean (S7)
abbrev pub mixed_of : Float → ℕ → Bool → Float
mixed_of x c plain = cond plain x (mean_of x c)

-- S7, S15: `out` after an update (the Rust's `update_output`, which has the mean alone)
unfoldable pub mix_of : List Float → ℕ → Bool → Float
unfolding sum_of
mix_of outs c plain = mixed_of (sum_of outs c) c plain

-- what `out` is for an exact sum t: the float of t, or one rounding of the exact quotient
abbrev pub exact_out : ℤ → ℕ → Bool → Float
exact_out t c plain = cond plain (whole_z t) (round binary32 (is_neg t) (unsigned_abs t) (c + 1))

-- S16: the bits are not those of negative zero
abbrev pub NoMinusZero : Float → Type 0
NoMinusZero x = to_bits binary32 x ≡ minus_zero → ⊥

-- S8: a sample (the Rust's `output`)
unfoldable pub output_of : Float → Float
output_of x = mul binary32 (from_bits binary32 0x38D1B717) x

-- The run's own way to a sum: where the channel that changes is one of 7 − c up to 7, its old output goes and its new one comes.
-- `sum-again` of proofs/mix/Laws.antt says that this is the sum of the new outputs.
abbrev pub resum_of : Float → Float → Float → Bool → Float
resum_of x old new used = cond used (add binary32 (sub binary32 x old) new) x
