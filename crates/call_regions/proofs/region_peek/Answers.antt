-- `region_peek` meets its contract: refused, and accepted.
use mathlib.Core.Path.{sym}
use Rattle.refusals.proofs.Numbers.{errs, refuses}
use Rattle.call_refusals.proofs.Laws.{arena-good, backed}
use Rattle.call_regions.specs.Regions.{region_read}
use Rattle.call_regions.proofs.region_peek.Goals as goal

pub returns-in_err-check_arena : goal.returns-in_err-check_arena
unfolding region_read
returns-in_err-check_arena c = rw (errs _ _ c.from_residual.ensures.1, ← c.in_err-check_arena.ensures, refuses _)

pub region_peek-requires : goal.region_peek-requires
region_peek-requires c = backed _ _ (arena-good _ _ (sym c.in_ok-check_arena.ensures))

pub returns : goal.returns
unfolding region_read
returns c = rw (← c.in_ok-check_arena.ensures, c.region_peek.ensures)
