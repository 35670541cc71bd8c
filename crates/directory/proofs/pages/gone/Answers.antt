-- A held block goes where its pages and the touched ones have a bit in common.
use Rattle.std.proofs.Common.{sym, eq-eqb, ne_eqb, rules}
use Rattle.directory.specs.Block.{start_of, len_of}
use Rattle.directory.specs.Drop.{gone}
use Rattle.directory.proofs.Laws.Pages.{goes-bits}
use Rattle.directory.proofs.pages.gone.Goals as goal

pub returns-then-w-ne0 : goal.returns-then-w-ne0
unfolding gone
returns-then-w-ne0 c =
    rw (ne_eqb _ _ c.if-w-ne0.true)
    (sym (goes-bits c.args.touched (start_of c.args.w) (len_of c.args.w) c.pages_under.result (search rules) (rw c.from.ensures at c.pages_under.ensures.bits)))

pub returns-else-w-ne0 : goal.returns-else-w-ne0
unfolding gone
returns-else-w-ne0 c = rw (eq-eqb _ _ c.if-w-ne0.false)
