-- `cpu_write` meets its contract: by the test of the state, which refuses with the directory's number.
use mathlib.Core.Path.{sym}
use Rattle.refusals.proofs.Numbers.{errs}
use Rattle.call_blocks.proofs.Laws.{unranged}
use Rattle.call_blocks.proofs.writes.cpu_write.Goals as goal

pub returns-in_err-new : goal.returns-in_err-new
returns-in_err-new c =
    let u = unranged c.args.d.now c.args.s c.args.arena.now c.args.addr c.args.val c.in_err-new.ensures.1 in
    record {
      value = rw (errs _ _ c.from_residual.ensures.1, c.in_err-new.ensures.0) (sym u.0);
      arena_after = sym u.1.0;
      d_after = sym u.1.1;
    }
