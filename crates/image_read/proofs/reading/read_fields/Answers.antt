-- `read_fields` meets its contract.
use Rattle.image_read.proofs.reading.read_fields.Goals as goal

pub returns : goal.returns
returns c = rw (c.chip_of.ensures, c.read_sound.ensures, c.read_memory.ensures)
