-- `preview` meets its contract: the directory unfit, and else the preview without one.
use mathlib.Core.Path.{sym, ◌∙◌}
use Rattle.refusals.proofs.Numbers.{errs}
use Rattle.call_cpu.specs.Calls.{refused_write}
use Rattle.call_preview.specs.Preview.{answer_of}
use Rattle.call_blocks.specs.Blocks.{preview_answer}
use Rattle.call_blocks.proofs.Laws.{given-unfit, given-fit}
use Rattle.call_blocks.proofs.writes.preview.Goals as goal

pub returns-in_err-check_directory : goal.returns-in_err-check_directory
unfolding preview_answer
returns-in_err-check_directory c =
    rw (errs _ _ c.from_residual.ensures.1, c.in_err-check_directory.ensures.0)
    (sym (given-unfit c.args.d.now _ (λ q. answer_of (refused_write c.args.s q)) _ c.in_err-check_directory.ensures.1))

pub returns : goal.returns
unfolding preview_answer
returns c =
    c.preview.ensures
    ∙ sym (given-fit c.args.d.now (λ q. answer_of (refused_write c.args.s q)) _ c.in_ok-check_directory.ensures)
