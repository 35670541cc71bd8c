-- What stands behind the spaces that are left stands behind all of them.
use Rattle.std.proofs.Common.{◌≡◌, ◌-◌}
use Rattle.replay_text.specs.Words.{behind}
use Rattle.replay_text.proofs.words.behind.Given as goal

abbrev pub invariant-loop : goal.invariant-loop
invariant-loop l = behind (l.n - l.counter) l.rest ≡ behind l.n l.line
