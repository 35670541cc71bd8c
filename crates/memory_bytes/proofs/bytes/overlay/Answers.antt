-- The part that was lent comes back as the copied bytes.
use Rattle.memory_bytes.proofs.Laws.Bytes.{overlay-back}
use Rattle.memory_bytes.proofs.bytes.overlay.Goals as goal

pub returns : goal.returns
returns c = rw c.copy_from_slice.ensures.after (overlay-back c.args.arena.now c.args.bytes.now c.args.at)
