-- `memory_at_load` meets its contract.
use borrow.Author.Tests.{eq-eqb, ne_eqb}
use Rattle.call_load.specs.Cartridge.{memory_at_load}
use Rattle.call_load.proofs.memory_at_load.Goals as goal
use Rattle.call_load.proofs.memory_at_load.Goals.{then-mapper-eq19, else-mapper-eq19}

pub returns : goal.returns
unfolding memory_at_load
returns c =
    rw c.new_memory.ensures.0 (elim c.if-mapper-eq19.branch [
      | then-mapper-eq19 w ↦ rw (w.battery_ext_len-is, eq-eqb _ _ w.if-mapper-eq19.true)
      | else-mapper-eq19 w ↦ rw (w.battery_ext_len-is, ne_eqb _ _ w.if-mapper-eq19.false)
    ])
