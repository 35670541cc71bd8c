-- `bits::cursor::Cursor::get_run` meets its contract: field after field.
use Rattle.std.proofs.Common.{◌≡◌, length, arith, refl, ◌∙◌}
use native.Mathlib.Nat.{lt_of_lt_of_le}
use lib.Pow.{pow_mono}
use lib.ListN.{length-set}
use lib.Seq.{take-length}
use Rattle.bits.proofs.Fields.{total-replicate, room}
use Rattle.bits.proofs.cursor.Laws.{read_none, read-suc}
use Rattle.bits.proofs.cursor.Cursor.get_run.Goals as goal

pub loop-x-init : goal.loop-x-init
loop-x-init c = (refl, read_none c.args.img.now c.args.self.now c.requires.behind)

pub get-requires : goal.get-requires
get-requires c = record {
  behind = c.loop-x.invariant.1.behind;
  width_bound = (
    omega arith,
    omega (
      arith,
      c.loop-x.invariant.1.pos,
      total-replicate c.loop-x.x-index c.args.width,
      room c.loop-x.x-index (length c.args.xs.now) c.args.width (omega arith),
    ),
  );
}

pub overflow_cast-x : goal.overflow_cast-x
overflow_cast-x c = record { fits = lt_of_lt_of_le c.get.ensures.fit.0 (pow_mono {i = c.args.width} {j = 32} (omega arith)) }

pub loop-x-preserved : goal.loop-x-preserved
loop-x-preserved c = (
  length-set c.loop-x.xs c.loop-x.x-index c.get.result ∙ c.loop-x.invariant.0,
  read-suc c.args.img.now c.args.self.now c.loop-x.self c.get.new.self c.args.width c.loop-x.xs c.loop-x.x-index c.get.result
      (omega arith) c.loop-x.invariant.1 c.get.ensures,
)

pub returns : goal.returns
returns c =
    let e : c.loop-x.x-index ≡ length c.loop-x.xs = omega arith in
    let f : length c.loop-x.xs ≡ length c.args.xs.now = c.loop-x.invariant.0 in
    rw f at (rw (e, take-length c.loop-x.xs) at c.loop-x.invariant.1)
