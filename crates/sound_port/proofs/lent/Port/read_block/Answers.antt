-- After i turns, i of the reads are made.
use Rattle.std.proofs.Common.{refl, arith}
use Rattle.sound_port.proofs.block.Laws.{midway-0, midway-more, midway_end}
use Rattle.sound_port.proofs.lent.Port.read_block.Goals as goal

pub loop-byte-init : goal.loop-byte-init
loop-byte-init c = midway-0 _ _ c.args.out.now refl

pub loop-byte-preserved : goal.loop-byte-preserved
loop-byte-preserved c =
    rw (c.read.ensures.0, c.read.ensures.1)
    (midway-more _ _ c.loop-byte.byte-index c.loop-byte.out c.loop-byte.self c.loop-byte-test.true c.loop-byte.invariant)

pub returns : goal.returns
returns c =
    let e = midway_end _ _ c.loop-byte.byte-index c.loop-byte.out c.loop-byte.self (omega arith) c.loop-byte.invariant in
    record { out_after = e.0; port_after = e.1 }
