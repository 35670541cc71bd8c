-- The rest decides.
use Rattle.std.proofs.Common.{◌≡◌, ◌∷◌, length, sym, ◌∙◌, rules}
use Rattle.directory.specs.Drop.{gone}
use Rattle.directory.proofs.Laws.Places.{any_end, any_here, any_next}
use Rattle.directory.proofs.Laws.Sound.{sound-cons}
use Rattle.directory.proofs.drops.some_goes.Goals as goal

pub returns-then-gone : goal.returns-then-gone
returns-then-gone c =
    let e : c.loop-w.rest.now ≡ c.in-Some.w.now ∷ c.in-Some.tail.now = search rules in
    any_here (gone c.args.touched) c.args.d.now c.loop-w.invariant.1 e (sym c.gone.ensures ∙ c.if-gone.true)

pub loop-w-preserved : goal.loop-w-preserved
loop-w-preserved c =
    let e : c.loop-w.rest.now ≡ c.in-Some.w.now ∷ c.in-Some.tail.now = search rules in (
      (sound-cons c.in-Some.w.now c.in-Some.tail.now (rw e at c.loop-w.invariant.0)).tail,
      any_next (gone c.args.touched) c.args.d.now c.loop-w.invariant.1 e (sym c.gone.ensures ∙ c.if-gone.false),
    )

pub returns : goal.returns
returns c =
    let h : length c.loop-w.rest.now ≡ 0 = search rules in
    any_end (gone c.args.touched) c.args.d.now c.loop-w.rest.now c.loop-w.invariant.1 h
