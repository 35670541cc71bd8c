-- `run_known` meets its contract: refused, and accepted.
use mathlib.Core.Path.{sym}
use native.Mathlib.Omega.{arith}
use lib.ListN.{length}
use Rattle.refusals.proofs.Numbers.{numbered, errs}
use Rattle.call_run.specs.Run.{run_gave}
use Rattle.call_run.proofs.run.Laws.{run-good, refused-run}
use Rattle.call_run.proofs.run.run_known.Goals as goal

pub returns-in_err-check_run : goal.returns-in_err-check_run
returns-in_err-check_run c =
    let a = c.args in
    let g = refused-run a.s.state a.n a.samples.now _ c.in_err-check_run.ensures (numbered _) in
    (rw (errs _ _ c.from_residual.ensures.1, g), rw g)

pub overflow_cast-n : goal.overflow_cast-n
overflow_cast-n c =
    let g = run-good c.args.s.state c.args.n (length c.args.samples.now) (sym c.in_ok-check_run.ensures) in omega (arith, g.short)

pub returns : goal.returns
unfolding run_gave
returns c = (
  rw (c.run_counted.ensures.ran_value.0, ← c.in_ok-check_run.ensures),
  c.run_counted.ensures.ran_value.1,
)
