-- `check_battery` meets its contract: the arena's checks, and one more.
use mathlib.Core.Path.{◌∙◌}
use borrow.Author.Tests.{eq-eqb, ne_eqb}
use Rattle.refusals.proofs.Numbers.{passed}
use Rattle.call_refusals.proofs.Laws.{arena-refuses, last-refuses, last-passes}
use Rattle.call_refusals.proofs.check_battery.Goals as goal

pub returns-in_err-check_arena : goal.returns-in_err-check_arena
returns-in_err-check_arena c = passed _ _ c.from_residual.ensures.1 ∙ arena-refuses _ _ _ _ c.in_err-check_arena.ensures

pub returns-then-s-eq0 : goal.returns-then-s-eq0
returns-then-s-eq0 c = last-refuses _ _ _ c.in_ok-check_arena.ensures (eq-eqb _ _ c.if-s-eq0.true)

pub returns : goal.returns
returns c = last-passes _ _ _ c.in_ok-check_arena.ensures (ne_eqb _ _ c.if-s-eq0.false)
