-- `restore_battery` meets its contract: refused, and accepted.
use mathlib.Core.Path.{sym}
use Rattle.refusals.proofs.Numbers.{errs, refuses}
use Rattle.board_state.proofs.Range.{memory-good}
use Rattle.call_refusals.proofs.Laws.{battery-good}
use Rattle.call_battery.specs.Battery.{restore_state}
use Rattle.call_battery.proofs.restore_battery.Goals as goal

pub returns-in_err-check_battery : goal.returns-in_err-check_battery
unfolding restore_state
returns-in_err-check_battery c = rw (errs _ _ c.from_residual.ensures.1, ← c.in_err-check_battery.ensures, refuses _)

pub battery_start-requires : goal.battery_start-requires
battery_start-requires c = (memory-good _ (battery-good _ _ (sym c.in_ok-check_battery.ensures)).arena.good).ranged.sized

pub get_battery-s-requires : goal.get_battery-s-requires
get_battery-s-requires c = rw c.battery_start.ensures (battery-good _ _ (sym c.in_ok-check_battery.ensures)).inside

pub returns : goal.returns
unfolding restore_state
returns c = rw (← c.in_ok-check_battery.ensures, c.get_battery-s.ensures, c.battery_start.ensures)
