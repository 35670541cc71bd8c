-- `fresh_state` meets its contract.
use Rattle.call_load.specs.Cartridge.{fresh_state}
use Rattle.call_load.proofs.Laws.{sized-load}
use Rattle.call_load.proofs.fresh_state.Goals as goal

pub remap_banks-requires : goal.remap_banks-requires
remap_banks-requires c = rw c.memory_at_load-fresh.ensures (sized-load _ _ c.requires.1)

pub returns : goal.returns
unfolding fresh_state
returns c = rw (c.remap_banks.ensures, c.memory_at_load-fresh.ensures, c.chosen-chip.ensures, c.load-board.ensures)
