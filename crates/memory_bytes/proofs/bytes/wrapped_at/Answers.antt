-- By the test whether the region is empty.
use borrow.Author.Tests.{eq-eqb, ne_eqb}
use Rattle.memory_bytes.specs.Bytes.{wrapped_at}
use Rattle.memory_bytes.proofs.bytes.wrapped_at.Goals as goal

pub returns-then-region-eq0 : goal.returns-then-region-eq0
unfolding wrapped_at
returns-then-region-eq0 c = rw (eq-eqb _ _ c.if-region-eq0.true)

pub returns : goal.returns
unfolding wrapped_at
returns c = rw (ne_eqb _ _ c.if-region-eq0.false)
