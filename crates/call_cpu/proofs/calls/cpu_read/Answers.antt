-- `cpu_read` meets its contract: refused by the state's check, or on with a state in range.
use Rattle.refusals.proofs.Numbers.{errs}
use Rattle.call_refusals.specs.Refusals.{first_of}
use Rattle.call_cpu.specs.Calls.{cpu_read}
use Rattle.call_cpu.proofs.calls.cpu_read.Goals as goal

pub returns-in_err-new : goal.returns-in_err-new
unfolding first_of cpu_read
returns-in_err-new c = rw (errs _ _ c.from_residual.ensures.1, c.in_err-new.ensures.0, c.in_err-new.ensures.1)
