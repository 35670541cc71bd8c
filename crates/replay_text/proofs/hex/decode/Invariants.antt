-- The bytes put so far, and those of the pairs that are left, are the bytes of all (`Passed`).
use Rattle.std.proofs.Common.{◌≡◌, length}
use Rattle.replay_text.proofs.Laws.Hex.{Passed}
use Rattle.replay_text.proofs.hex.decode.Given as goal

abbrev pub invariant-loop-i : goal.invariant-loop-i
invariant-loop-i l = (length l.bytes ≡ length l.initial.bytes) × Passed l.digits l.initial.bytes l.i l.bytes
