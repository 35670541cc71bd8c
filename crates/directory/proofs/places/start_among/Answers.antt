-- One place more, and all of them.
use Rattle.std.proofs.Common.{◌≡◌, refl, sym, ap, ◌∙◌, eqb, length, take, rules, arith}
use Rattle.std.proofs.lemmas.List.{take_more, take_all}
use Rattle.directory.specs.Block.{start_of}
use Rattle.directory.specs.Fit.{any}
use Rattle.directory.proofs.Laws.Eights.{any_more}
use Rattle.directory.proofs.places.start_among.Goals as goal

pub loop-w-init : goal.loop-w-init
unfolding any
loop-w-init c = refl

pub loop-w-preserved : goal.loop-w-preserved
loop-w-preserved c =
    let l : length c.args.eight.now ≡ 8 = search rules in
    rw (take_more c.args.eight.now c.loop-w.w-index 0 (omega arith), c.from.ensures, c.loop-w.invariant)
    (sym (any_more (λ w. eqb (start_of w) c.args.start) (take c.loop-w.w-index c.args.eight.now) _))

pub returns : goal.returns
returns c =
    let l : length c.args.eight.now ≡ 8 = search rules in
    c.loop-w.invariant
    ∙ ap (any (λ w. eqb (start_of w) c.args.start)) (take_all c.loop-w.w-index c.args.eight.now (omega arith))
