-- `put_pages` meets its contract: eight entries after eight.
use Rattle.std.proofs.Common.{◌≡◌, ◌*◌, ◌/◌, ◌%◌, List, length}
use Rattle.memory.specs.declared.page.Page.{Page}
use Rattle.image_write.proofs.pages.Laws.{pages-none, length-eight, next-fit, pages-more, pages-all}
use native.Mathlib.Omega.{arith}
use Rattle.image_write.proofs.pages.put_pages.Goals as goal

-- eights hold all entries
whole : (pages : List Page) → length pages % 8 ≡ 0 → length pages / 8 * 8 ≡ length pages
whole pages h = omega arith

pub loop-k-init : goal.loop-k-init
loop-k-init c = pages-none (omega arith)

pub put_eight-requires : goal.put_eight-requires
put_eight-requires c = (
  omega (arith, c.loop-k.invariant.same),
  length-eight c.args.pages.now c.loop-k.k (omega arith),
  next-fit c.loop-k.invariant c.loop-k-test.true (rw (whole c.args.pages.now c.requires.0) c.requires.2),
)

pub loop-k-preserved : goal.loop-k-preserved
loop-k-preserved c = pages-more _ c.loop-k.invariant c.loop-k-test.true c.put_eight.ensures

pub returns : goal.returns
returns c = rw (whole c.args.pages.now c.requires.0) at (pages-all c.loop-k.invariant (omega arith))
