-- The value so far, and the digits that are left, give the number of all.
use Rattle.std.proofs.Common.{◌≡◌, drop}
use Rattle.replay_text.specs.Number.{digits_after}
use Rattle.replay_text.proofs.number.in_base.Given as goal

abbrev pub invariant-loop-b : goal.invariant-loop-b
invariant-loop-b l = digits_after l.base l.value (drop l.b-index l.digits) ≡ digits_after l.base 0 l.digits
