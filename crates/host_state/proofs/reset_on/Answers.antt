-- `reset_on` meets its contract: refused, and accepted.
use mathlib.Core.Path.{refl, ◌∙◌}
use borrow.Author.Rules.{rules}
use borrow.Author.Tests.{not-false}
use lib.ListN.{length}
use Rattle.refusals.proofs.Numbers.{numbered, errs}
use Rattle.board_state.proofs.Range.{known}
use Rattle.board_state.specs.State.{in_range}
use Rattle.call_refusals.specs.Refusals.{reset_checks}
use Rattle.call_refusals.proofs.Laws.{accepted-none}
use Rattle.host_state.proofs.Laws.{reset-called, word_of, image-of, known-reset, room-reset}
use Rattle.host_state.proofs.reset_on.Goals as goal

pub returns-in_err-after : goal.returns-in_err-after
returns-in_err-after c =
    let call = reset-called c.args.s c.args.image.now c.args.kind _ c.in_err-after.ensures in
    let e = call.refused (numbered _) in
    record { value = rw (errs _ _ c.from_residual.ensures.1) (word_of e); image_after = image-of e }

pub put_image-requires : goal.put_image-requires
put_image-requires c =
    let call = reset-called c.args.s c.args.image.now c.args.kind _ c.in_ok-after.ensures in
    let passed = accepted-none (reset_checks c.args.s c.args.kind) (search rules) (call.none refl) in
    let k = known c.args.s _ c.well_formed.0 (not-false (in_range c.args.s) passed.0) in (
      room-reset c.args.s c.args.kind _ (length c.args.image.now) c.in_ok-after.ensures c.requires,
      known-reset c.args.s c.args.kind _ c.in_ok-after.ensures k,
    )

pub returns : goal.returns
returns c =
    let call = reset-called c.args.s c.args.image.now c.args.kind _ c.in_ok-after.ensures in
    let e = call.accepted refl in
    record { value = word_of e; image_after = c.put_image.ensures ∙ image-of e }
