-- `region_write` meets its contract: refused, and accepted.
use mathlib.Core.Path.{sym, ◌∙◌}
use Rattle.refusals.proofs.Numbers.{passed, refuses}
use Rattle.call_refusals.proofs.Laws.{arena-good, backed}
use Rattle.call_regions.specs.Regions.{region_write_arena}
use Rattle.call_regions.proofs.region_write.Goals as goal

pub returns-in_err-check_arena : goal.returns-in_err-check_arena
unfolding region_write_arena
returns-in_err-check_arena c = (
  passed _ _ c.from_residual.ensures.1 ∙ c.in_err-check_arena.ensures,
  rw (← c.in_err-check_arena.ensures, refuses _),
)

pub region_write-requires : goal.region_write-requires
region_write-requires c = backed _ _ (arena-good _ _ (sym c.in_ok-check_arena.ensures))

pub returns : goal.returns
unfolding region_write_arena
returns c = (c.in_ok-check_arena.ensures, rw (← c.in_ok-check_arena.ensures) c.region_write.ensures)
