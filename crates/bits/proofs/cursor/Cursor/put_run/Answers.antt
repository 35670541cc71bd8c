-- `bits::cursor::Cursor::put_run` meets its contract: field after field.
use Rattle.std.proofs.Common.{◌≡◌, length, arith, refl}
use lib.Seq.{take-length}
use Rattle.bits.proofs.Fields.{fit-below, total-replicate, room}
use Rattle.bits.proofs.cursor.Laws.{wrote_none, wrote-suc}
use Rattle.bits.proofs.cursor.Cursor.put_run.Goals as goal

pub loop-x-init : goal.loop-x-init
loop-x-init c = (refl, wrote_none c.args.img.now c.args.self.now c.requires.held)

pub put-requires : goal.put-requires
put-requires c = let n = length c.args.xs.now in record {
  held = c.loop-x.invariant.1.held;
  width_bound = (
    omega arith,
    rw c.from.ensures (fit-below n c.args.width c.args.xs.now c.requires.width_bound.1 c.loop-x.x-index),
    omega (
      arith,
      c.loop-x.invariant.1.pos,
      total-replicate c.loop-x.x-index c.args.width,
      room c.loop-x.x-index n c.args.width (omega arith),
    ),
  );
}

pub loop-x-preserved : goal.loop-x-preserved
loop-x-preserved c = (
  omega arith,
  wrote-suc c.args.img.now c.loop-x.img c.put.new.img c.args.self.now c.loop-x.self c.put.new.self
      c.args.width c.args.xs.now c.loop-x.x-index (omega arith) c.loop-x.invariant.1 (rw c.from.ensures at c.put.ensures),
)

pub returns : goal.returns
returns c =
    let e : c.loop-x.x-index ≡ length c.args.xs.now = omega arith in
    rw (e, take-length c.args.xs.now) at c.loop-x.invariant.1
