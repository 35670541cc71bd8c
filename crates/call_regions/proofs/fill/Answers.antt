-- `fill` meets its contract: refused, and accepted.
use mathlib.Core.Path.{sym, ◌∙◌}
use Rattle.refusals.proofs.Numbers.{passed, refuses}
use Rattle.call_refusals.proofs.Laws.{fill-good, backed}
use Rattle.call_regions.specs.Regions.{fill_arena}
use Rattle.call_regions.proofs.fill.Goals as goal

pub returns-in_err-check_fill : goal.returns-in_err-check_fill
unfolding fill_arena
returns-in_err-check_fill c = (
  passed _ _ c.from_residual.ensures.1 ∙ c.in_err-check_fill.ensures,
  rw (← c.in_err-check_fill.ensures, refuses _),
)

pub fill-requires : goal.fill-requires
fill-requires c = let g = fill-good _ _ _ _ (sym c.in_ok-check_fill.ensures) in (backed _ _ g.0, g.1)

pub returns : goal.returns
unfolding fill_arena
returns c = (c.in_ok-check_fill.ensures, rw (← c.in_ok-check_fill.ensures) c.fill.ensures)
