-- `samples_made` meets its contract: the floor.
use Rattle.board_state.proofs.Range.{counter-small}
use Rattle.call_run.proofs.run.Laws.{made-floor}
use Rattle.call_run.proofs.run.samples_made.Goals as goal

pub returns-then-not-is_163 : goal.returns-then-not-is_163
returns-then-not-is_163 c = rw (
  made-floor c.args.n c.args.s.state (counter-small _ c.args.s.in_range),
  ← c.is_163.ensures,
  c.if-not-is_163.true,
)

pub returns-then-chip : goal.returns-then-chip
returns-then-chip c = rw (
  made-floor c.args.n c.args.s.state (counter-small _ c.args.s.in_range),
  ← c.is_163.ensures,
  c.if-not-is_163.false,
  c.if-chip.true,
)

pub returns : goal.returns
returns c = rw (
  made-floor c.args.n c.args.s.state (counter-small _ c.args.s.in_range),
  ← c.is_163.ensures,
  c.if-not-is_163.false,
  c.if-chip.false,
)
