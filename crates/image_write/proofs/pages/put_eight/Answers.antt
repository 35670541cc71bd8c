-- `put_eight` meets its contract: four entries in 44 bits, then four.
use Rattle.bits.specs.Fields.{total}
use Rattle.bits.proofs.Lists.{listed-is}
use Rattle.memory.specs.Page.{unmapped}
use Rattle.image_write.proofs.pages.Laws.{wrote-eight}
use native.Mathlib.Omega.{arith}
use Rattle.image_write.proofs.pages.put_eight.Goals as goal

pub put-requires-2-clause-width_bound : goal.put-requires-2-clause-width_bound
unfolding total
put-requires-2-clause-width_bound c =
    let p = rw c.at_byte-c.ensures at c.put.ensures in
    (omega arith, c.quad_word-2.ensures.1, omega (arith, p.pos, p.len))

pub returns : goal.returns
returns c =
    rw (← listed-is unmapped 8 c.args.g.now c.requires.1)
    (wrote-eight c.args.img.now c.put.new.img c.put-2.new.img c.args.at c.put.new.self c.put-2.new.self _ _ _ _ _ _ _ _ _ _
    c.quad_word.ensures.0 c.quad_word-2.ensures.0 (rw c.at_byte-c.ensures at c.put.ensures) c.put-2.ensures)
