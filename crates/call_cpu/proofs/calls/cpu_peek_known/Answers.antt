-- `cpu_peek_known` meets its contract: refused, and accepted.
use mathlib.Core.Path.{sym}
use Rattle.refusals.proofs.Numbers.{errs, refuses}
use Rattle.call_refusals.proofs.Laws.{cpu-good, backed}
use Rattle.call_cpu.specs.Calls.{cpu_peek}
use Rattle.call_cpu.proofs.calls.cpu_peek_known.Goals as goal

pub returns-in_err-check_cpu_known : goal.returns-in_err-check_cpu_known
unfolding cpu_peek
returns-in_err-check_cpu_known c = rw (errs _ _ c.from_residual.ensures.1, ← c.in_err-check_cpu_known.ensures, refuses _)

-- none of the checks holds
pub cpu_byte-requires : goal.cpu_byte-requires
cpu_byte-requires c = backed _ _ (cpu-good _ _ _ (sym c.in_ok-check_cpu_known.ensures)).0

pub returns : goal.returns
unfolding cpu_peek
returns c = rw (← c.in_ok-check_cpu_known.ensures, c.cpu_byte.ensures)
