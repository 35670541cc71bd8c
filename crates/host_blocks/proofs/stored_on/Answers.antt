-- `stored_on` meets its contract: the directory unfit, and fit. No entry changes, so that the pages touched are those that show the byte.
use mathlib.Core.Path.{sym, ◌∙◌}
use mathlib.Core.List.{[]}
use Rattle.refusals.proofs.Numbers.{errs}
use Rattle.board_state.proofs.Range.{memory-good}
use Rattle.call_refusals.specs.Refusals.{first_of}
use Rattle.call_blocks.proofs.Laws.{unfit-number, fit-number, given-unfit, given-fit, stored-gone}
use Rattle.host_blocks.specs.HostBlocks.{stored_touched, stored_drops}
use Rattle.host_blocks.proofs.stored_on.Goals as goal

pub returns-in_err-check_directory : goal.returns-in_err-check_directory
unfolding stored_drops
returns-in_err-check_directory c =
    let d = c.args.d.now in
    let unfit = c.in_err-check_directory.ensures in
    record {
      value = rw (errs _ _ c.from_residual.ensures.1, unfit.0) (sym (unfit-number d [] unfit.1));
      d_after = sym (given-unfit d [] (λ q. d) _ unfit.1);
    }

pub stored_byte-requires : goal.stored_byte-requires
stored_byte-requires c = (memory-good _ c.args.s.in_range).ranged.sized

pub returns : goal.returns
unfolding first_of stored_touched stored_drops
returns c =
    let d = c.args.d.now in
    let fits = c.in_ok-check_directory.ensures in
    let gone = stored-gone c.args.s.state.memory.prg_pages _ d c.stored_byte.ensures c.drop_touched.ensures in
    record { value = sym (fit-number d [] fits); d_after = gone ∙ sym (given-fit d (λ q. d) _ fits) }
