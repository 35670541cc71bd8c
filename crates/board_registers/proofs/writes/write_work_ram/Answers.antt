-- `write_work_ram` meets its contract: the step to Unknown is always refused (L10).
use mathlib.Core.Path.{sym}
use Rattle.board_registers.proofs.Kept.{never-unknown}
use Rattle.board_registers.proofs.writes.write_work_ram.Goals as goal

pub returns : goal.returns
returns c = sym (never-unknown c.args.chip)
