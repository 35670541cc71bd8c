-- By the board.
use Rattle.board_banking.specs.Banking.{map_work_ram}
use Rattle.board_banking.proofs.map_work_ram.Goals as goal

pub returns-then-prg_ram_readable : goal.returns-then-prg_ram_readable
unfolding map_work_ram
returns-then-prg_ram_readable c = rw (
  ← c.prg_ram_readable.ensures,
  c.if-prg_ram_readable.true,
  c.set_prg_writable.ensures.0,
  c.map_prg.ensures.0,
  c.prg_ram_writable-writable.ensures,
)

pub returns : goal.returns
unfolding map_work_ram
returns c = rw (← c.prg_ram_readable.ensures, c.if-prg_ram_readable.false, c.unmap_prg.ensures.0)
