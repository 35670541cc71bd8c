-- After i turns, i of the reads are made.
use Rattle.std.proofs.Common.{length}
use Rattle.sound_port.proofs.block.Laws.{Midway}
use Rattle.sound_port.proofs.lent.Port.read_block.Given as goal

abbrev pub invariant-loop-byte : goal.invariant-loop-byte
invariant-loop-byte l = Midway (length l.initial.out) l.initial.self l.byte-index l.out l.self
