-- `bits::words::low` meets its contract.
use mathlib.Core.Path.{ap}
use Prim.Native.Nat.{ℕ, ◌%◌}
use lib.Pow.{pow_pos}
use Rattle.bits.proofs.words.Laws.{one_shl}
use Rattle.bits.proofs.words.low.Goals as goal

pub nonzero_rem-result : goal.nonzero_rem-result
nonzero_rem-result c = rw (one_shl c.args.k c.requires) (pow_pos c.args.k)

pub returns : goal.returns
returns c = ap (λ (m : ℕ). c.args.x % m) (one_shl c.args.k c.requires)
