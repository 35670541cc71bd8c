-- The rest decides.
use Rattle.std.proofs.Common.{◌≡◌, ◌++◌, sym, ap, ◌∙◌}
use Rattle.std.proofs.lemmas.List.{take-append-drop}
use Rattle.directory.specs.Calls.{word_at}
use Rattle.directory.proofs.Laws.Eights.{word_past}
use Rattle.directory.proofs.places.near.Goals as goal

pub loop-eight-preserved : goal.loop-eight-preserved
loop-eight-preserved c =
    let e : c.loop-eight.rest.now ≡ c.in-Some.eight.now ++ c.in-Some.after.now =
    rw (c.in-Some.ensures.cases.0, c.in-Some.ensures.cases.1) (sym (take-append-drop 8 c.loop-eight.rest.now)) in
    sym (word_past c.args.start c.in-Some.eight.now c.in-Some.after.now (sym c.start_among.ensures ∙ c.if-start_among.false))
    ∙ sym (ap (word_at c.args.start) e) ∙ c.loop-eight.invariant
