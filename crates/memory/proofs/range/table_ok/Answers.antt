-- `ok` says whether all entries before this one pass.
use mathlib.Core.Path.{refl}
use Rattle.limits.specs.Every.{every}
use Rattle.limits.proofs.Every.{every-next}
use Rattle.memory.proofs.range.table_ok.Goals as goal

pub loop-p-init : goal.loop-p-init
unfolding every
loop-p-init g c = refl

pub loop-p-preserved : goal.loop-p-preserved
loop-p-preserved g c = every-next _ _ _ _ c.loop-p.invariant c.entry_ok-ok.ensures
