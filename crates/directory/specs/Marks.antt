-- K2: a bit for each start: how the test of a directory finds a start that is held twice.
use Rattle.std.specs.Prelude.{ℕ, ◌/◌, ◌%◌, ◌^◌, Bool, List, bit_or, slice_index, slice_set}
use Rattle.memory.specs.Page.{has_bit}

unfoldable pub marked : List ℕ → ℕ → Bool
marked seen s = has_bit (s % 64) (slice_index seen (s / 64))

unfoldable pub mark : List ℕ → ℕ → List ℕ
mark seen s = slice_set seen (s / 64) (bit_or (slice_index seen (s / 64)) (2 ^ (s % 64)))
