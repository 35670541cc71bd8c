-- `bits::words::load` meets its contract: byte after byte.
use Rattle.std.proofs.Common.{◌+◌, ◌*◌, ◌^◌, ◌<◌, ◌≡◌, take}
use Rattle.bits.specs.Words.{word_of}
use Rattle.bits.proofs.words.load.Given as goal

abbrev pub invariant-loop-b : goal.invariant-loop-b
invariant-loop-b l =
    (l.acc ≡ l.initial.acc * 2 ^ (l.b-index * 8) + word_of (take l.b-index l.b-items)) × (l.acc < (l.initial.acc + 1) * 2 ^ (l.b-index * 8))
