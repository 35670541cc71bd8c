-- `sync_battery` meets its contract: the directory unfit, the call refused, and accepted.
use mathlib.Core.Path.{refl}
use Rattle.call_blocks.specs.Blocks.{sync_leaves, sync_drops}
use Rattle.call_blocks.proofs.Laws.{handed-unfit, handed-refused, told-accepted, all-gone}
use Rattle.call_blocks.proofs.calls.sync_battery.Goals as goal

pub returns-in_err-check_directory : goal.returns-in_err-check_directory
unfolding sync_leaves sync_drops
returns-in_err-check_directory c =
    let told = handed-unfit c.args.d.now _ c.args.arena.now _ _ _ _ c.from_residual.ensures.1 c.in_err-check_directory.ensures in
    record { value = told.0; arena_after = told.1.0; d_after = told.1.1 }

pub returns-in_err-sync_battery : goal.returns-in_err-sync_battery
unfolding sync_leaves sync_drops
returns-in_err-sync_battery c =
    let fit = c.in_ok-check_directory.ensures in
    let told = handed-refused c.args.d.now _ c.args.arena.now _ _ _ _ c.from_residual-in_err-sync_battery.ensures.1 fit c.in_err-sync_battery.ensures in
    record { value = told.0; arena_after = told.1.0; d_after = told.1.1 }

pub returns : goal.returns
unfolding sync_leaves sync_drops
returns c =
    let gone = all-gone _ c.in_ok-check_directory.ensures (c.fill.ensures.after (λ y e. e)) in
    let told = told-accepted c.args.d.now _ c.args.arena.now _ _ c.in_ok-check_directory.ensures c.in_ok-sync_battery.ensures refl gone in
    record { value = told.0; arena_after = told.1.0; d_after = told.1.1 }
