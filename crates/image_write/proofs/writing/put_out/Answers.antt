-- `put_out` meets its contract: the bits of a number fit.
use Rattle.bits.specs.Fields.{total}
use Rattle.image_write.specs.Sections.{out_at, phases_at}
use Rattle.image_write.proofs.Parts.{wrote-to}
use native.Mathlib.Omega.{arith}
use borrow.Author.Rules.{rules}
use lib.Ieee.{binary32}
use lib.Ieee.Bits.{to_bits-lt}
use Rattle.image_write.proofs.writing.put_out.Goals as goal

pub returns : goal.returns
unfolding total
returns c = wrote-to _ _ out_at phases_at _ _ _ (omega arith) (rw (c.at_byte.ensures, c.from.ensures) at c.put.ensures)

pub put-requires-clause-width_bound : goal.put-requires-clause-width_bound
unfolding total
put-requires-clause-width_bound c = (
  omega arith,
  rw c.from.ensures (to_bits-lt binary32 c.args.x (search rules)),
  rw c.at_byte.ensures (omega arith),
)
