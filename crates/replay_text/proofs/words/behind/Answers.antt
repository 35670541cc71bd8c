-- One space after the other.
use Rattle.std.proofs.Common.{◌≡◌, ◌-◌, ◌+◌, suc, sym, ◌∙◌, arith}
use Rattle.std.proofs.lemmas.Grind.{common_steps}
use Rattle.replay_text.proofs.Laws.Words.{behind-none, behind-one, behind-end}
use Rattle.replay_text.proofs.words.behind.Goals as goal

pub loop-preserved : goal.loop-preserved
loop-preserved c =
    let e : c.args.n - c.loop.counter ≡ suc (c.args.n - (c.loop.counter + 1)) = omega arith in
    rw c.after_space-rest.ensures (sym (behind-one (c.args.n - (c.loop.counter + 1)) c.loop.rest.now) ∙ rw e at c.loop.invariant)

pub returns-then-is_empty : goal.returns-then-is_empty
returns-then-is_empty c =
    grind (arith, common_steps, behind-end (c.args.n - c.loop.counter) c.loop.rest.now, c.loop.invariant)

pub returns : goal.returns
returns c =
    let e : c.args.n - c.loop.counter ≡ 0 = omega arith in
    sym (behind-none c.loop.rest.now) ∙ rw e at c.loop.invariant
