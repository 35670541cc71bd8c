-- An ordered directory of 256 places is fit; of another the bits decide.
use Rattle.std.proofs.Common.{sym, ◌∙◌, eq-eqb, ne_eqb}
use Rattle.directory.specs.Fit.{fit}
use Rattle.directory.proofs.Laws.Ordered.{ordered-fit}
use Rattle.directory.proofs.fitness.fit.Goals as goal

pub returns-then-ordered : goal.returns-then-ordered
returns-then-ordered c =
    c.if-ordered.true ∙ sym (ordered-fit 0x5FFF c.args.d.now c.if-d-eq256.true (sym c.ordered.ensures ∙ c.if-ordered.true))

pub returns-else-ordered : goal.returns-else-ordered
unfolding fit
returns-else-ordered c = rw (eq-eqb _ _ c.if-d-eq256.true, c.sound.ensures)

pub returns-else-d-eq256 : goal.returns-else-d-eq256
unfolding fit
returns-else-d-eq256 c = rw (ne_eqb _ _ c.if-d-eq256.false)
