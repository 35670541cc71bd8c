-- `write_on` meets its contract: refused, and accepted. The PRG mask has no bit below 24, so it and the CHR mask do not meet.
use Prim.Native.Nat.{◌%◌, ◌^◌}
use mathlib.Core.Path.{refl, ap, ◌∙◌}
use borrow.Author.Rules.{rules}
use lib.ListN.{length}
use Rattle.refusals.proofs.Numbers.{numbered, errs}
use Rattle.call_refusals.proofs.Laws.{known-state}
use Rattle.call_cpu.specs.Calls.{WriteAnswer}
use Rattle.thm_range.proofs.Calls.{cpu-write-mask}
use Rattle.host_state.proofs.Laws.{write-called, write_kept, word_of, image-of, lent_of, known-write, room-write}
use Rattle.host_state.proofs.write_on.Goals as goal

pub returns-in_err-written : goal.returns-in_err-written
returns-in_err-written c =
    let a = c.args in
    let written = c.in_err-written.ensures in
    let call = write-called a.s.state a.image.now a.arena.now a.addr a.val _ written.0 in
    let e = call.refused (numbered _) in
    let kept = write_kept a.s.state a.arena.now a.addr a.val (call.some (numbered _)) in
    record {
      value = rw (errs _ _ c.from_residual.ensures.1) (word_of e);
      image_after = image-of e;
      arena_after = written.1 ∙ kept ∙ lent_of e;
    }

pub put_image-requires : goal.put_image-requires
put_image-requires c =
    let a = c.args in
    let written = c.in_ok-written.ensures.0 in
    let call = write-called a.s.state a.image.now a.arena.now a.addr a.val _ written in (
      room-write a.s.state a.arena.now a.addr a.val _ (length a.image.now) written c.requires,
      known-write a.s.state a.arena.now a.addr a.val _ written (search rules) (search rules)
          (call.none refl) (known-state a.s _ c.well_formed.0),
    )

pub changes_word-requires : goal.changes_word-requires
changes_word-requires c =
    ap (λ (x : WriteAnswer). x.changed.prg.mask % 2 ^ 24) c.in_ok-written.ensures.0
    ∙ cpu-write-mask c.args.s.state c.args.arena.now c.args.addr c.args.val

pub returns : goal.returns
returns c =
    let a = c.args in
    let written = c.in_ok-written.ensures in
    let call = write-called a.s.state a.image.now a.arena.now a.addr a.val _ written.0 in
    let e = call.accepted refl in
    record {
      value = c.changes_word.ensures ∙ word_of e;
      image_after = c.put_image.ensures ∙ image-of e;
      arena_after = written.1 ∙ lent_of e;
    }
