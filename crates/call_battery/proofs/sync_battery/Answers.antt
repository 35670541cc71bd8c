-- `sync_battery` meets its contract: refused, and accepted.
use mathlib.Core.Path.{sym, ◌∙◌}
use Rattle.refusals.proofs.Numbers.{passed, refuses}
use Rattle.board_state.proofs.Range.{memory-good}
use Rattle.call_refusals.proofs.Laws.{battery-good}
use Rattle.call_battery.specs.Battery.{sync_arena}
use Rattle.call_battery.proofs.sync_battery.Goals as goal

pub returns-in_err-check_battery : goal.returns-in_err-check_battery
unfolding sync_arena
returns-in_err-check_battery c = (
  passed _ _ c.from_residual.ensures.1 ∙ c.in_err-check_battery.ensures,
  rw (← c.in_err-check_battery.ensures, refuses _),
)

pub battery_start-requires : goal.battery_start-requires
battery_start-requires c = (memory-good _ (battery-good _ _ (sym c.in_ok-check_battery.ensures)).arena.good).ranged.sized

pub put_battery-requires : goal.put_battery-requires
put_battery-requires c = rw c.battery_start.ensures (battery-good _ _ (sym c.in_ok-check_battery.ensures)).inside

pub returns : goal.returns
unfolding sync_arena
returns c = (
  c.in_ok-check_battery.ensures,
  rw (← c.in_ok-check_battery.ensures, ← c.battery_start.ensures) c.put_battery.ensures,
)
