-- As many as there is room for.
use Rattle.std.proofs.Common.{arith}
use Rattle.std.proofs.lemmas.Grind.{common_steps}
use Rattle.replay_text.proofs.Laws.Out.{put_take}
use Rattle.replay_text.proofs.out.Out.put_all.Goals as goal

pub returns-then-bytes-room : goal.returns-then-bytes-room
returns-then-bytes-room c = grind (arith, common_steps, put_take c.args.self.now c.args.bytes.now)

pub returns-else-bytes-room : goal.returns-else-bytes-room
returns-else-bytes-room c = grind (arith, common_steps, put_take c.args.self.now c.args.bytes.now)
