-- After i places: the blocks that stay, free places, and the rest.
use Rattle.std.proofs.Common.{◌≡◌, slice_index, true, false, arith, rules}
use Rattle.directory.specs.Drop.{gone}
use Rattle.directory.proofs.Laws.Drop.{packed_none, packed-gone, packed-stays, packed_all}
use Rattle.directory.proofs.drops.take_out.Goals as goal
use Rattle.directory.proofs.drops.take_out.Goals.{then-not-gone, else-not-gone}

pub loop-i-init : goal.loop-i-init
loop-i-init c = packed_none c.args.touched c.args.d.now

pub loop-i-preserved : goal.loop-i-preserved
loop-i-preserved c =
    elim c.if-not-gone.branch [
      | then-not-gone w ↦
          let g : gone c.args.touched (slice_index c.loop-i.d c.loop-i.i) ≡ false = search rules in
          rw (w.d-is, w.j-is) (packed-stays c.loop-i.invariant (omega arith) g)
      | else-not-gone w ↦
          let g : gone c.args.touched (slice_index c.loop-i.d c.loop-i.i) ≡ true = search rules in
          rw (w.d-is, w.j-is) (packed-gone c.loop-i.invariant (omega arith) g)
    ]

pub returns : goal.returns
returns c = packed_all c.loop-i.invariant (omega arith)
