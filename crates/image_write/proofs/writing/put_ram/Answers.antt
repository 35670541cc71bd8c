-- `put_ram` meets its contract.
use Rattle.bits.specs.Fields.{total}
use Rattle.image_write.specs.Sections.{ram_at, port_at}
use Rattle.image_write.proofs.Parts.{wrote-to}
use native.Mathlib.Omega.{arith}
use Rattle.image_write.proofs.writing.put_ram.Goals as goal

pub returns : goal.returns
unfolding total
returns c = wrote-to _ _ ram_at port_at _ _ _ (omega arith) (rw (c.at_byte.ensures, c.told-ram) at c.put_bytes.ensures)
