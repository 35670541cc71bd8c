-- `fill` meets its contract: the directory unfit, the call refused, and accepted.
use mathlib.Core.Path.{refl}
use Rattle.call_blocks.specs.Blocks.{fill_leaves, fill_drops}
use Rattle.call_blocks.proofs.Laws.{handed-unfit, handed-refused, told-accepted, all-gone}
use Rattle.call_blocks.proofs.calls.fill.Goals as goal

pub returns-in_err-check_directory : goal.returns-in_err-check_directory
unfolding fill_leaves fill_drops
returns-in_err-check_directory c =
    let told = handed-unfit c.args.d.now _ c.args.arena.now _ _ _ _ c.from_residual.ensures.1 c.in_err-check_directory.ensures in
    record { value = told.0; arena_after = told.1.0; d_after = told.1.1 }

pub returns-in_err-fill : goal.returns-in_err-fill
unfolding fill_leaves fill_drops
returns-in_err-fill c =
    let fit = c.in_ok-check_directory.ensures in
    let told = handed-refused c.args.d.now _ c.args.arena.now _ _ _ _ c.from_residual-in_err-fill.ensures.1 fit c.in_err-fill.ensures in
    record { value = told.0; arena_after = told.1.0; d_after = told.1.1 }

pub returns : goal.returns
unfolding fill_leaves fill_drops
returns c =
    let gone = all-gone _ c.in_ok-check_directory.ensures (c.fill-2.ensures.after (λ y e. e)) in
    let told = told-accepted c.args.d.now _ c.args.arena.now _ _ c.in_ok-check_directory.ensures c.in_ok-fill.ensures refl gone in
    record { value = told.0; arena_after = told.1.0; d_after = told.1.1 }
