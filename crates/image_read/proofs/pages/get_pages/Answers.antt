-- `get_pages` meets its contract: eight entries after eight.
use Rattle.std.proofs.Common.{◌≡◌, ◌*◌, ◌/◌, length, arith}
use Rattle.image_read.proofs.pages.Laws.{pages-none, pages-more, pages-done}
use Rattle.image_read.proofs.pages.get_pages.Goals as goal

pub loop-k-init : goal.loop-k-init
loop-k-init c = pages-none (omega arith)

pub loop-k-preserved : goal.loop-k-preserved
loop-k-preserved c =
    rw c.copy_from_slice.ensures.after
    (pages-more c.eight_words.result c.eight_of-g.result c.loop-k.invariant c.loop-k-test.true c.eight_words.ensures c.eight_of-g.ensures)

pub returns : goal.returns
returns c =
    let e : length c.args.pages.now / 8 * 8 ≡ length c.args.pages.now = omega (arith, c.requires.0) in
    rw e at (pages-done c.loop-k.invariant c.loop-k-test.false c.requires.1)
