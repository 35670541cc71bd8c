-- The sum of the pages in either order.
use Rattle.memory.proofs.Laws.Layout.{arena-pages}
use Rattle.memory.specs.Layout.{arena_len}
use native.Mathlib.Omega.{arith}
use Rattle.memory.proofs.layout.Layout.arena_len.Goals as goal

pub returns : goal.returns
unfolding arena_len
returns c = (omega (arith, arena-pages c.args.self), omega arith)
