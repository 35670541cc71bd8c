-- `check_run` meets its contract, check by check.
use native.Mathlib.Omega.{arith}
use borrow.Author.Tests.{lt-ltb, le-ltb}
use Rattle.call_refusals.specs.Refusals.{first_of}
use Rattle.call_run.specs.Run.{run_limit}
use Rattle.call_run.proofs.run.check_run.Goals as goal

pub returns-then-n-gt-RUN_LIMIT : goal.returns-then-n-gt-RUN_LIMIT
unfolding first_of
returns-then-n-gt-RUN_LIMIT c = rw (c.args.s.in_range, lt-ltb run_limit c.args.n (omega arith))

pub returns-then-room-samples_made : goal.returns-then-room-samples_made
unfolding first_of
returns-then-room-samples_made c = rw (
  c.args.s.in_range,
  le-ltb run_limit c.args.n (omega arith),
  ← c.samples_made.ensures,
  lt-ltb _ _ c.if-room-samples_made.true,
)

pub returns : goal.returns
unfolding first_of
returns c = rw (
  c.args.s.in_range,
  le-ltb run_limit c.args.n (omega arith),
  ← c.samples_made.ensures,
  le-ltb _ _ c.if-room-samples_made.false,
)
