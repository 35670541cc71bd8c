-- `cpu_read_known` meets its contract by a peek's: refused, and accepted.
use Rattle.refusals.proofs.Numbers.{errs}
use Rattle.call_cpu.proofs.Laws.{read-refused, read-accepted}
use Rattle.call_cpu.proofs.calls.cpu_read_known.Goals as goal

pub returns-in_err-cpu_peek_known : goal.returns-in_err-cpu_peek_known
returns-in_err-cpu_peek_known c =
    rw (errs _ _ c.from_residual.ensures.1)
    (read-refused c.args.s.state c.args.arena.now c.args.addr _ c.in_err-cpu_peek_known.ensures)

pub returns : goal.returns
returns c =
    rw c.after_read.ensures (read-accepted c.args.s.state c.args.arena.now c.args.addr _ c.in_ok-cpu_peek_known.ensures)
