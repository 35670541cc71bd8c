-- `check_cpu_known` meets its contract: the arena's checks, and one more.
use mathlib.Core.Path.{◌∙◌}
use borrow.Author.Tests.{lt-ltb, le-ltb}
use Rattle.refusals.proofs.Numbers.{passed}
use Rattle.call_refusals.proofs.Laws.{arena-refuses, last-refuses, last-passes}
use Rattle.call_refusals.proofs.check_cpu_known.Goals as goal

pub returns-in_err-check_arena_known : goal.returns-in_err-check_arena_known
returns-in_err-check_arena_known c = passed _ _ c.from_residual.ensures.1 ∙ arena-refuses _ _ _ _ c.in_err-check_arena_known.ensures

pub returns-then-addr-lt18432 : goal.returns-then-addr-lt18432
returns-then-addr-lt18432 c = last-refuses _ _ _ c.in_ok-check_arena_known.ensures (lt-ltb _ _ c.if-addr-lt18432.true)

pub returns : goal.returns
returns c = last-passes _ _ _ c.in_ok-check_arena_known.ensures (le-ltb _ _ c.if-addr-lt18432.false)
