-- The definition's maximum.
use native.Mathlib.Omega.{arith}
use Rattle.memory_map.specs.Windows.{banks_of}
use Rattle.memory_map.proofs.windows.banks.Goals as goal

pub returns : goal.returns
unfolding banks_of
returns c = (rw c.max.ensures (omega arith), omega arith)
