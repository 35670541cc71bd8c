-- By the edition and the board.
use Rattle.board_protection.specs.Protection.{remap_banks}
use Rattle.board_protection.proofs.remap_banks.Goals as goal

pub returns-then-not-protects-is_163 : goal.returns-then-not-protects-is_163
unfolding remap_banks
returns-then-not-protects-is_163 c = rw (← c.is_163.ensures, c.if-not-protects-is_163.true, c.update_banks.ensures)

pub returns : goal.returns
unfolding remap_banks
returns c = rw (← c.is_163.ensures, c.if-not-protects-is_163.false, c.protect_parts.ensures, c.update_banks.ensures)
