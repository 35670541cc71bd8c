-- The high half's digits stand before the low half's.
use Rattle.std.proofs.Common.{sym}
use Rattle.replay_text.proofs.Laws.Out.{put-append}
use Rattle.replay_text.proofs.out.Out.put_hex32.Goals as goal

pub returns : goal.returns
returns c = rw (c.put_hex16-2.ensures, c.put_hex16.ensures) (sym (put-append c.args.self.now _ _))
