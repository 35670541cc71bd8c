-- M12: the length of the battery region is the number of its used bytes.
use Rattle.memory_bytes.specs.Bytes.{sram_of}
use Rattle.memory.specs.Layout.{region_of}
use Rattle.memory_bytes.proofs.bytes.sram.Goals as goal

pub returns : goal.returns
unfolding sram_of region_of
returns c = rw c.region-ram.ensures.0
