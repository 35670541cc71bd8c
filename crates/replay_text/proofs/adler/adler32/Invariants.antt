-- The sums so far, and those of the bytes that are left, are the sums of all.
use Rattle.std.proofs.Common.{◌<◌, ◌≡◌, drop}
use Rattle.replay_text.specs.Adler.{sums_from, adler}
use Rattle.replay_text.proofs.adler.adler32.Given as goal

abbrev pub invariant-loop-b : goal.invariant-loop-b
invariant-loop-b l = (l.low < 65521) × (l.high < 65521) × (sums_from l.low l.high (drop l.b-index l.bytes) ≡ adler l.bytes)
