-- One window, and for a nametable its second.
use native.Mathlib.Omega.{arith}
use mir.Syntax.{w32}
use mir.Facts.{to_z_pos}
use borrow.Author.Tests.{lt-ltb, le-ltb}
use Rattle.board_banking.specs.Banking.{slot_pages}
use Rattle.board_banking.proofs.slot_pages.Goals as goal

pub returns-then-slot-lt8 : goal.returns-then-slot-lt8
unfolding slot_pages
returns-then-slot-lt8 c = rw (
  lt-ltb _ _ c.if-slot-lt8.true,
  c.map_pages.ensures,
  c.from.ensures,
  to_z_pos w32 {n = c.args.bank} (omega arith),
)

pub returns : goal.returns
unfolding slot_pages
returns c = rw (
  le-ltb _ _ c.if-slot-lt8.false,
  c.map_pages-2.ensures,
  c.from-2.ensures,
  c.map_pages.ensures,
  c.from.ensures,
  to_z_pos w32 {n = c.args.bank} (omega arith),
)
