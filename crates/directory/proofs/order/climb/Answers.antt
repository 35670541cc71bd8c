-- One place more, and all of them.
use Rattle.std.proofs.Common.{◌≡◌, length, take, rules, arith}
use Rattle.std.proofs.lemmas.List.{take_more, take_all}
use Rattle.directory.specs.Eights.{Climbs}
use Rattle.directory.proofs.Laws.Eights.{some_if, rising-next, rising-all}
use Rattle.directory.proofs.order.climb.Goals as goal

pub loop-w-preserved : goal.loop-w-preserved
loop-w-preserved c =
    let l : length c.args.eight.now ≡ 8 = search rules in
    rw (take_more c.args.eight.now c.loop-w.w-index 0 (omega arith), c.from.ensures, c.from-block.ensures)
    (omega arith, rising-next c.loop-w.invariant.1 c.requires _ _ (λ h. record { some = omega arith; most = omega arith }))

pub overflow_sub-from : goal.overflow_sub-from
overflow_sub-from c = rw c.from-2.ensures (omega (arith, c.loop-w.invariant.0))

pub returns : goal.returns
returns c =
    let l : length c.args.eight.now ≡ 8 = search rules in
    let e : take c.loop-w.w-index c.args.eight.now ≡ c.args.eight.now = take_all c.loop-w.w-index c.args.eight.now (omega arith) in
    rw (c.then_some.ensures, c.from-2.ensures)
    (some_if (λ b. Climbs c.args.s c.args.eight.now b) _ c.loop-w.last (λ y. rising-all (rw e at c.loop-w.invariant.1) y))
