-- `preview_known` meets its contract: refused, and accepted.
use Rattle.refusals.proofs.Numbers.{errs, refuses}
use Rattle.board_state.proofs.Range.{memory-good}
use Rattle.call_cpu.specs.Calls.{cpu_write}
use Rattle.call_preview.specs.Preview.{preview}
use Rattle.call_preview.proofs.preview_known.Goals as goal

pub returns-in_err-check_cpu_known : goal.returns-in_err-check_cpu_known
unfolding preview cpu_write
returns-in_err-check_cpu_known c = rw (errs _ _ c.from_residual.ensures.1, ← c.in_err-check_cpu_known.ensures, refuses _)

pub write_register-after-requires : goal.write_register-after-requires
write_register-after-requires c = (memory-good _ c.args.s.in_range).ranged.sized

pub returns : goal.returns
unfolding preview cpu_write
returns c = rw (← c.in_ok-check_cpu_known.ensures, c.changes_between.ensures, c.write_register-after.ensures)
