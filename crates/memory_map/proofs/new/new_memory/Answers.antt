-- The sizes are within the limits, so their layout is good.
use native.Mathlib.Omega.{arith}
use Rattle.memory.proofs.Laws.Layout.{layout-good}
use Rattle.memory_map.specs.New.{new_memory, unmapped_memory}
use Rattle.memory_map.proofs.new.new_memory.Goals as goal

pub set_mirroring-requires : goal.set_mirroring-requires
set_mirroring-requires c = record { layout = rw c.new.ensures (layout-good c.args.sizes c.requires); used = omega arith }

pub returns : goal.returns
unfolding new_memory unmapped_memory
returns c = (rw (c.set_mirroring.ensures.0, c.new.ensures), c.set_mirroring.ensures.1)
