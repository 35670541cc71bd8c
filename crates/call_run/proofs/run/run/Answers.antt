-- `run` meets its contract: refused by the state's check, or on with a state in range.
use mathlib.Core.Path.{◌≡◌}
use lib.ListN.{length}
use Rattle.refusals.specs.Refusal.{number_of}
use Rattle.refusals.proofs.Numbers.{numbered, errs}
use Rattle.call_refusals.specs.Refusals.{first_of}
use Rattle.call_refusals.proofs.Laws.{unknown}
use Rattle.call_run.specs.Run.{run_checks}
use Rattle.call_run.proofs.run.Laws.{refused-run}
use Rattle.call_run.proofs.run.run.Goals as goal

-- the state's check comes first
pub returns-in_err-new : goal.returns-in_err-new
returns-in_err-new c =
    let a = c.args in
    let by_state : number_of _ ≡ first_of (run_checks a.s a.n (length a.samples.now)) = unknown _ _ _ c.in_err-new.ensures in
    let g = refused-run a.s a.n a.samples.now _ by_state (numbered _) in
    (rw (errs _ _ c.from_residual.ensures.1, g), rw g)
