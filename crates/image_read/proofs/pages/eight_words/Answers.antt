-- `eight_words` meets its contract: 11 bytes as words of 4, 4 and 3.
use Rattle.image_read.proofs.pages.Laws.{eight-read}
use native.Mathlib.Omega.{arith}
use Rattle.image_read.proofs.pages.eight_words.Goals as goal

pub returns : goal.returns
returns c = eight-read c.args.img.now c.args.at c.load-a.result c.load-b.result c.load-c.result (omega arith)
    (omega (arith, c.load-a.ensures.value)) (omega (arith, c.load-a.ensures.upper_bound))
    (omega (arith, c.load-b.ensures.value)) (omega (arith, c.load-b.ensures.upper_bound))
    (omega (arith, c.load-c.ensures.value)) (omega (arith, c.load-c.ensures.upper_bound))
