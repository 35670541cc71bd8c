-- Window by window.
use Rattle.board_banking.specs.Banking.{map_rom}
use Rattle.board_banking.proofs.map_rom.Goals as goal

pub returns : goal.returns
unfolding map_rom
returns c = (
  rw (c.map_prg.ensures.0, c.map_bank-3.ensures.0, c.map_bank-2.ensures.0, c.map_bank.ensures.0),
  c.map_prg.ensures.1,
)
