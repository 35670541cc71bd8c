-- The mask of 16 entries has 16 bits.
use Rattle.std.proofs.Common.{rules, ◌≡◌, length}
use Rattle.memory.proofs.Laws.Changes.{changed-lt}
use Rattle.memory.specs.Changes.{chr_changes}
use Rattle.memory.proofs.changes.chr_changes.Goals as goal

pub overflow_cast-result : goal.overflow_cast-result
overflow_cast-result c =
    let e : length c.args.old.now ≡ 16 = search rules in
    record { fits = rw c.table_changes-mask.ensures (rw e at (changed-lt c.args.old.now c.args.new.now)) }

pub returns : goal.returns
unfolding chr_changes
returns c = search rules
