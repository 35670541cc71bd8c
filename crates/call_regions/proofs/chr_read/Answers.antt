-- `chr_read` meets its contract: refused, and accepted.
use mathlib.Core.Path.{sym}
use Rattle.refusals.proofs.Numbers.{errs, refuses}
use Rattle.call_refusals.proofs.Laws.{arena-good, backed}
use Rattle.call_regions.specs.Regions.{chr_read}
use Rattle.call_regions.proofs.chr_read.Goals as goal

pub returns-in_err-check_arena : goal.returns-in_err-check_arena
unfolding chr_read
returns-in_err-check_arena c = rw (errs _ _ c.from_residual.ensures.1, ← c.in_err-check_arena.ensures, refuses _)

pub chr_peek-requires : goal.chr_peek-requires
chr_peek-requires c = backed _ _ (arena-good _ _ (sym c.in_ok-check_arena.ensures))

pub returns : goal.returns
unfolding chr_read
returns c = rw (← c.in_ok-check_arena.ensures, c.chr_peek.ensures)
