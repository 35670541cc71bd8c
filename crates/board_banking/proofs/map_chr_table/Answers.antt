-- By the board.
use Rattle.board_banking.specs.Banking.{map_chr_table}
use Rattle.board_banking.proofs.map_chr_table.Goals as goal

pub returns-then-is_163 : goal.returns-then-is_163
unfolding map_chr_table
returns-then-is_163 c = (rw (← c.is_163.ensures, c.if-is_163.true, c.map_slots.ensures.0), c.map_slots.ensures.1)

pub returns : goal.returns
unfolding map_chr_table
returns c = (
  rw (← c.is_163.ensures, c.if-is_163.false, c.set_mirroring.ensures.0, c.map_slots-2.ensures.0),
  c.set_mirroring.ensures.1,
)
