-- The pass over the rest decides.
use Rattle.std.proofs.Common.{sym, refl, ◌∙◌, arith, rules}
use Rattle.directory.proofs.Laws.Marks.{passed_none, passed-free, passed-held, passed-unfit, passed-twice, passed-all}
use Rattle.directory.proofs.fitness.sound.Goals as goal
use Rattle.directory.proofs.fitness.sound.Goals.{then-w-ne0+else-not-fits+else-note, else-w-ne0}

pub loop-w-init : goal.loop-w-init
loop-w-init c = passed_none c.args.d.now

pub returns-then-not-fits : goal.returns-then-not-fits
returns-then-not-fits c = sym (passed-unfit c.loop-w.invariant (omega arith) _ refl c.if-w-ne0.true (search rules))

pub returns-then-note : goal.returns-then-note
returns-then-note c =
    sym (passed-twice c.loop-w.invariant (omega arith) _ refl c.if-w-ne0.true (search rules)
    (sym (rw c.from-block.ensures at c.note.ensures.value) ∙ c.if-note.true))

pub loop-w-preserved : goal.loop-w-preserved
loop-w-preserved c =
    elim c.if-w-ne0.branch [
      | then-w-ne0+else-not-fits+else-note w ↦
          rw (w.seen-is, w.note.ensures.seen_after, w.from-block.ensures)
          (passed-held c.loop-w.invariant (omega arith) _ refl w.if-w-ne0.true (search rules)
          (sym (rw w.from-block.ensures at w.note.ensures.value) ∙ w.if-note.false))
      | else-w-ne0 w ↦ rw w.seen-is (passed-free c.loop-w.invariant (omega arith) w.if-w-ne0.false)
    ]

pub returns : goal.returns
returns c = sym (passed-all c.loop-w.invariant (omega arith))
