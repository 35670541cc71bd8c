-- By the ones of the mask.
use Rattle.std.proofs.Common.{◌+◌, ◌-◌, ◌/◌, arith}
use Rattle.directory.specs.Block.{under}
use Rattle.directory.specs.Drop.{page_count, pages_under}
use Rattle.directory.proofs.Laws.Bits.{ones_between, ones_code}
use Rattle.directory.proofs.Laws.Pages.{fits-says}
use Rattle.directory.proofs.pages.pages_under.Goals as goal

pub returns-clause-bits : goal.returns-clause-bits
unfolding under
returns-clause-bits c k h = rw (c.saturating_sub.ensures, c.saturating_sub-last.ensures, c.from.ensures, c.from-start.ensures)
    (ones_between (c.args.block.start / 1024) ((c.args.block.start + c.args.block.len - 1) / 1024) k (omega arith) h)

pub returns-clause-number : goal.returns-clause-number
unfolding pages_under
returns-clause-number c fit =
    let f = fits-says c.args.block.start c.args.block.len fit in
    rw (c.saturating_sub.ensures, c.saturating_sub-last.ensures, c.from.ensures, c.from-start.ensures)
    (ones_code (c.args.block.start / 1024) (page_count c.args.block.start c.args.block.len)
    ((c.args.block.start + c.args.block.len - 1) / 1024) (omega (arith, f)) (omega (arith, f)))
