-- `write_blocks_on` meets its contract: refused, and accepted. The PRG mask has no bit below 24, so it and the CHR mask do not meet.
use Prim.Native.Nat.{◌%◌, ◌^◌}
use mathlib.Core.Path.{refl, ap, ◌∙◌}
use native.Mathlib.Omega.{arith}
use borrow.Author.Rules.{rules}
use lib.ListN.{length}
use Rattle.refusals.proofs.Numbers.{numbered, errs}
use Rattle.call_refusals.proofs.Laws.{known-state}
use Rattle.call_cpu.specs.Calls.{WriteAnswer}
use Rattle.thm_range.proofs.Calls.{cpu-write-mask}
use Rattle.host_state.proofs.Laws.{word_of, image-of, lent_of, known-write, room-write}
use Rattle.host_blocks.proofs.Laws.{own-write, own-none, arena-kept, blocks-called, left}
use Rattle.host_blocks.proofs.write_blocks_on.Goals as goal

pub returns-in_err-written : goal.returns-in_err-written
returns-in_err-written c =
    let a = c.args in
    let written = c.in_err-written.ensures in
    let e = (blocks-called a.d.now a.s.state a.image.now a.arena.now a.addr a.val _ written.value).refused (numbered _) in
    let kept = arena-kept a.d.now a.s.state a.image.now a.arena.now a.addr a.val _ written.value (numbered _) in
    record {
      value = rw (errs _ _ c.from_residual.ensures.1) (word_of e);
      image_after = image-of e;
      arena_after = written.arena_after ∙ kept ∙ lent_of e;
      d_after = written.d_after;
    }

pub put_image-requires : goal.put_image-requires
put_image-requires c =
    let a = c.args in
    let s = a.s.state in
    let written = c.in_ok-written.ensures.value in
    let own = own-write a.d.now s a.image.now a.arena.now a.addr a.val _ written refl in
    let none = own-none a.d.now s a.image.now a.arena.now a.addr a.val _ written refl in (
      room-write s a.arena.now a.addr a.val _ (length a.image.now) own c.requires,
      known-write s a.arena.now a.addr a.val _ own (search rules) (λ i. grind arith) none
          (known-state a.s _ c.well_formed.1.0),
    )

pub changes_word-requires : goal.changes_word-requires
changes_word-requires c =
    let a = c.args in
    let written = c.in_ok-written.ensures.value in
    let own = own-write a.d.now a.s.state a.image.now a.arena.now a.addr a.val _ written refl in
    ap (λ (x : WriteAnswer). x.changed.prg.mask % 2 ^ 24) own ∙ cpu-write-mask a.s.state a.arena.now a.addr a.val

pub returns : goal.returns
returns c =
    let a = c.args in
    let written = c.in_ok-written.ensures in
    let e = left a.d.now a.s.state a.image.now a.arena.now a.addr a.val _ written.value refl in
    record {
      value = c.changes_word.ensures ∙ word_of e;
      image_after = c.put_image.ensures ∙ image-of e;
      arena_after = written.arena_after ∙ lent_of e;
      d_after = written.d_after;
    }
