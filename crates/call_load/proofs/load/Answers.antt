-- `load` meets its contract: refused, and accepted.
use mathlib.Core.Path.{sym}
use Rattle.refusals.proofs.Numbers.{errs, refuses}
use Rattle.call_load.specs.Cartridge.{load_answer, load_arena}
use Rattle.call_load.proofs.Laws.{load-good}
use Rattle.call_load.proofs.load.Goals as goal

pub returns-in_err-check_load : goal.returns-in_err-check_load
unfolding load_answer load_arena
returns-in_err-check_load c = (
  rw (errs _ _ c.from_residual.ensures.1, ← c.in_err-check_load.ensures, refuses _),
  rw (← c.in_err-check_load.ensures, refuses _),
)

-- none of the checks holds
pub fresh_state-requires : goal.fresh_state-requires
fresh_state-requires c = let good = load-good _ _ _ (sym c.in_ok-check_load.ensures) in (good.small, good.fits)

pub returns : goal.returns
unfolding load_answer load_arena
returns c = (
  rw (← c.in_ok-check_load.ensures, c.fresh_state.ensures),
  rw (← c.in_ok-check_load.ensures) (c.fill.ensures.after (λ y e. e)),
)
