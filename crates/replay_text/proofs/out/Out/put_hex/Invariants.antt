-- The digits of the bytes so far are put.
use Rattle.std.proofs.Common.{◌≡◌, take}
use Rattle.replay_text.specs.Hex.{hex_of}
use Rattle.replay_text.specs.Out.{put_all}
use Rattle.replay_text.proofs.out.Out.put_hex.Given as goal

abbrev pub invariant-loop-b : goal.invariant-loop-b
invariant-loop-b l = l.self ≡ put_all l.initial.self (hex_of (take l.b-index l.bytes))
