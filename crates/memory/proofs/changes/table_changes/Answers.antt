-- The machine's counts of the mask are those of the entries.
use Rattle.memory.proofs.Laws.Changes.{ones-changed, lowest-changed-of}
use Rattle.memory.proofs.changes.table_changes.Goals as goal

pub returns : goal.returns
returns g c = simp (
  c.changed_mask-mask.ensures,
  c.min.ensures,
  ones-changed,
  lowest-changed-of g.row.N c.args.old.now c.args.new.now c.told-old c.requires,
)
