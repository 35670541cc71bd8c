-- `cpu_write_known` meets its contract: refused, and accepted. The store comes before the registers.
use mathlib.Core.Path.{sym}
use Rattle.refusals.proofs.Numbers.{errs, refuses}
use Rattle.board_state.proofs.Range.{memory-good}
use Rattle.call_refusals.proofs.Laws.{cpu-good, backed}
use Rattle.call_cpu.specs.Calls.{cpu_write, cpu_write_arena}
use Rattle.call_cpu.proofs.calls.cpu_write_known.Goals as goal

pub returns-in_err-check_cpu_known : goal.returns-in_err-check_cpu_known
unfolding cpu_write cpu_write_arena
returns-in_err-check_cpu_known c = (
  rw (errs _ _ c.from_residual.ensures.1, ← c.in_err-check_cpu_known.ensures, refuses _),
  rw (← c.in_err-check_cpu_known.ensures, refuses _),
)

-- none of the checks holds
pub prg_write-requires : goal.prg_write-requires
prg_write-requires c = backed _ _ (cpu-good _ _ _ (sym c.in_ok-check_cpu_known.ensures)).0

pub write_register-state-requires : goal.write_register-state-requires
write_register-state-requires c = (memory-good _ c.args.s.in_range).ranged.sized

pub returns : goal.returns
unfolding cpu_write cpu_write_arena
returns c = (
  rw (← c.in_ok-check_cpu_known.ensures, c.changes_between-changed.ensures, c.write_register-state.ensures),
  rw (← c.in_ok-check_cpu_known.ensures) c.prg_write.ensures,
)
