-- By the flag.
use Rattle.memory_bytes.specs.Bytes.{stored_at}
use Rattle.memory_bytes.proofs.bytes.stored_at.Goals as goal

pub returns-then-not-is_writable : goal.returns-then-not-is_writable
unfolding stored_at
returns-then-not-is_writable c = rw (← c.is_writable.ensures, c.if-not-is_writable.true)

pub returns : goal.returns
unfolding stored_at
returns c = rw (← c.is_writable.ensures, c.if-not-is_writable.false, c.shown_at.ensures.0)
