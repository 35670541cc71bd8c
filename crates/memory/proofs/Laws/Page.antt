-- An entry gives back the offset that it was made of. Assumes nothing.
use Prim.Native.Nat.{ℕ, ◌+◌, ◌/◌, ◌%◌, ◌^◌, ◌<◌}
use mathlib.Core.Path.{◌≡◌}
use mathlib.Core.Bool.{Bool, true, false}
use native.Mathlib.Omega.{arith}
use Rattle.memory.specs.Page.{has_bit, page_of, offset_of}

-- the offset that an entry was made of comes back
pub offset-page : (o : ℕ) (w : Bool) → o < 2 ^ 30 → offset_of (page_of o w) ≡ o
offset-page o true h = omega arith
offset-page o false h = omega arith

-- bit 30 of an entry that was made is clear
pub bit-page : (o : ℕ) (w : Bool) → has_bit 30 (page_of o w).0 ≡ false
bit-page o true = let e : (2 ^ 31 + o % 2 ^ 30) / 2 ^ 30 % 2 ≡ 0 = omega arith in rw e
bit-page o false = let e : (0 + o % 2 ^ 30) / 2 ^ 30 % 2 ≡ 0 = omega arith in rw e
