-- `run_counter` meets its contract: the counter stays, goes up, or ends.
use Prim.Native.Nat.{◌-◌}
use mathlib.Core.Path.{◌≡◌, sym, ◌∙◌}
use mathlib.Core.Bool.{false}
use mathlib.Core.Logic.{⊎_elim}
use native.Mathlib.Omega.{arith}
use Rattle.cut.specs.Counter.{moves}
use Rattle.call_run.proofs.clock.Laws.{low-stops, top-stops, stopped, goes-up, ends}
use Rattle.call_run.proofs.clock.run_counter.Goals as goal

pub returns-then-left-eq0 : goal.returns-then-left-eq0
returns-then-left-eq0 c =
    let m : moves c.args.regs.irq_counter ≡ false =
    ⊎_elim (λ h. low-stops _ h) (λ h. top-stops _ (omega (arith, c.from-left.ensures, h))) c.if-left-eq0.either in
    let g = stopped c.args.n c.args.regs m in (sym g.regs, sym g.rise)

pub returns-then-n-left : goal.returns-then-n-left
returns-then-n-left c =
    let f = c.if-left-eq0.false in
    let g = goes-up c.args.n c.args.regs (omega arith) (omega arith) in (sym g.regs, sym g.rise)

pub returns-else-n-left : goal.returns-else-n-left
returns-else-n-left c =
    let f = c.if-left-eq0.false in
    let g = ends c.args.n (0xFFFE - c.args.regs.irq_counter) c.args.regs (omega arith) (omega arith) (omega arith) in
    (sym g.regs, sym (g.rise ∙ omega (arith, c.from-left.ensures, f.1)))
