-- Where no block goes the directory is as it was.
use Rattle.std.proofs.Common.{sym, ◌∙◌}
use Rattle.directory.proofs.Laws.Dropped.{dropped-none, dropped-untouched}
use Rattle.directory.proofs.Laws.Sound.{fit-sound}
use Rattle.directory.proofs.drop_touched.Goals as goal
use Rattle.directory.proofs.drop_touched.Goals.{else-touched-ne0-via-then-touched-ne0+else-some_goes, else-touched-ne0-via-else-touched-ne0}

pub some_goes-requires : goal.some_goes-requires
some_goes-requires c = fit-sound c.args.d.now c.requires

pub returns-else-touched-ne0 : goal.returns-else-touched-ne0
returns-else-touched-ne0 c =
    let s = fit-sound c.args.d.now c.requires in
    elim c.else-touched-ne0.branch [
      | else-touched-ne0-via-then-touched-ne0+else-some_goes w ↦
          sym (dropped-none c.args.touched c.args.d.now (sym w.some_goes.ensures ∙ w.if-some_goes.false))
      | else-touched-ne0-via-else-touched-ne0 w ↦ sym (dropped-untouched c.args.touched c.args.d.now s w.if-touched-ne0.false)
    ]
