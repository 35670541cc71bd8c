-- `check_fill` meets its contract: the arena's checks, and one more.
use mathlib.Core.Path.{sym, ◌∙◌}
use borrow.Author.Tests.{lt-ltb, le-ltb}
use Rattle.board_state.proofs.Range.{memory-good}
use Rattle.refusals.proofs.Numbers.{passed}
use Rattle.call_refusals.proofs.Laws.{arena-good, arena-refuses, last-refuses, last-passes}
use Rattle.call_refusals.proofs.check_fill.Goals as goal

pub returns-in_err-check_arena : goal.returns-in_err-check_arena
returns-in_err-check_arena c = passed _ _ c.from_residual.ensures.1 ∙ arena-refuses _ _ _ _ c.in_err-check_arena.ensures

pub region-requires : goal.region-requires
region-requires c =
    (memory-good _ (arena-good _ _ (sym c.in_ok-check_arena.ensures)).good).ranged.sized

pub returns-then-region-n : goal.returns-then-region-n
returns-then-region-n c =
    last-refuses _ _ _ c.in_ok-check_arena.ensures (rw (← c.region.ensures.0) (lt-ltb _ _ c.if-region-n.true))

pub returns : goal.returns
returns c = last-passes _ _ _ c.in_ok-check_arena.ensures (rw (← c.region.ensures.0) (le-ltb _ _ c.if-region-n.false))
