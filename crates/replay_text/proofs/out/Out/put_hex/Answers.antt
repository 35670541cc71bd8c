-- The digits of the bytes so far are put.
use Rattle.std.proofs.Common.{arith}
use Rattle.std.proofs.lemmas.Grind.{common_steps}
use Rattle.replay_text.specs.Out.{put_all}
use Rattle.replay_text.proofs.Laws.Out.{put-more}
use Rattle.replay_text.proofs.out.Out.put_hex.Goals as goal

pub loop-b-init : goal.loop-b-init
unfolding put_all
loop-b-init c = grind (arith, common_steps)

pub loop-b-preserved : goal.loop-b-preserved
unfolding put_all
loop-b-preserved c =
    rw (c.put_hex8.ensures)
    (put-more c.args.self.now c.loop-b.self c.args.bytes.now c.loop-b.b-index c.loop-b-test.true c.loop-b.invariant)
