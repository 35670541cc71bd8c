-- `ok` says whether all entries before this one pass.
use mathlib.Core.Path.{◌≡◌}
use Rattle.limits.specs.Every.{every}
use Rattle.memory.specs.Range.{entry_test}
use Rattle.memory.proofs.range.table_ok.Given as goal

abbrev pub invariant-loop-p : goal.invariant-loop-p
invariant-loop-p g l = l.ok ≡ every l.p-index (entry_test l.bytes l.pages)
