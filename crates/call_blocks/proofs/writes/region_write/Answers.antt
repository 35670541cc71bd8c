-- `region_write` meets its contract: the directory unfit, the call refused, and accepted.
use mathlib.Core.Path.{refl, sym}
use Rattle.board_state.proofs.Range.{memory-good}
use Rattle.call_refusals.proofs.Laws.{arena-good}
use Rattle.call_blocks.specs.Blocks.{region_touched, region_write_leaves, region_write_drops}
use Rattle.call_blocks.proofs.Laws.{handed-unfit, handed-refused, told-accepted, stored-gone}
use Rattle.call_blocks.proofs.writes.region_write.Goals as goal

pub returns-in_err-check_directory : goal.returns-in_err-check_directory
unfolding region_write_leaves region_write_drops
returns-in_err-check_directory c =
    let told = handed-unfit c.args.d.now _ c.args.arena.now _ _ _ _ c.from_residual.ensures.1 c.in_err-check_directory.ensures in
    record { value = told.0; arena_after = told.1.0; d_after = told.1.1 }

pub returns-in_err-region_write : goal.returns-in_err-region_write
unfolding region_write_leaves region_write_drops
returns-in_err-region_write c =
    let fit = c.in_ok-check_directory.ensures in
    let told = handed-refused c.args.d.now _ c.args.arena.now _ _ _ _ c.from_residual-in_err-region_write.ensures.1 fit c.in_err-region_write.ensures in
    record { value = told.0; arena_after = told.1.0; d_after = told.1.1 }

pub stored_region-requires : goal.stored_region-requires
stored_region-requires c =
    (memory-good c.args.s (arena-good c.args.s _ (sym c.in_ok-region_write.ensures.0)).good).ranged.sized

pub returns : goal.returns
unfolding region_write_leaves region_write_drops region_touched
returns c =
    let gone = stored-gone c.args.s.memory.prg_pages _ c.args.d.now c.stored_region.ensures c.drop_touched.ensures in
    let told = told-accepted c.args.d.now _ c.args.arena.now _ _ c.in_ok-check_directory.ensures c.in_ok-region_write.ensures refl gone in
    record { value = told.0; arena_after = told.1.0; d_after = told.1.1 }
