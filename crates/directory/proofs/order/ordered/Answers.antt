-- The rest decides.
use Rattle.std.proofs.Common.{◌≡◌, true, false, ◌∷◌, length, ◌∙◌, arith, rules}
use Rattle.directory.specs.Ordered.{rises}
use Rattle.directory.proofs.Laws.Ordered.{rises-says, ordered_end, ordered_next, ordered_stop}
use Rattle.directory.proofs.order.ordered.Goals as goal

pub returns-then-not-rises : goal.returns-then-not-rises
returns-then-not-rises c =
    let e : c.loop-w.rest.now ≡ c.in-Some.w.now ∷ c.in-Some.tail.now = search rules in
    let r : rises c.loop-w.s c.in-Some.w.now ≡ false = search rules in
    c.all_free.ensures ∙ ordered_stop c.loop-w.s c.loop-w.invariant.1 e r

pub loop-w-preserved : goal.loop-w-preserved
loop-w-preserved c =
    let e : c.loop-w.rest.now ≡ c.in-Some.w.now ∷ c.in-Some.tail.now = search rules in
    let r : rises c.loop-w.s c.in-Some.w.now ≡ true = search rules in
    rw c.from-s.ensures
    (omega (arith, c.loop-w.invariant.0, (rises-says _ _ r).above), ordered_next c.loop-w.s c.loop-w.invariant.1 e r)

pub returns : goal.returns
returns c = let h : length c.loop-w.rest.now ≡ 0 = search rules in ordered_end c.loop-w.s c.loop-w.rest.now c.loop-w.invariant.1 h
