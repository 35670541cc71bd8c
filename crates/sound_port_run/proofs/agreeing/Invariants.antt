-- What is counted and what is still to be counted make the whole count.
use Rattle.std.proofs.Common.{◌+◌, ◌≡◌, ◌≤◌, ◌<◌, drop}
use Rattle.sound_port_run.specs.Agree.{agree}
use Rattle.sound_port_run.proofs.agreeing.Given as goal

abbrev pub invariant-loop-byte : goal.invariant-loop-byte
invariant-loop-byte l =
    (l.same ≤ l.byte-index) × (l.audio.addr < 128) × (l.same + agree (drop l.byte-index l.bytes) l.audio ≡ agree l.bytes l.initial.audio)
