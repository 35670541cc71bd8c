-- `bits::words::load` meets its contract: byte after byte.
use Rattle.std.proofs.Common.{ℕ, List, [], ◌+◌, ◌-◌, ◌<◌, ◌≡◌, length, take, drop, arith}
use Rattle.std.proofs.lemmas.List.{take_all}
use Rattle.bits.proofs.words.Laws.{load-zero, load-suc, load-small, load_fits, part_lt, length-part}
use Rattle.bits.proofs.words.load.Goals as goal

pub loop-b-init : goal.loop-b-init
loop-b-init c = (load-zero c.args.acc [], omega arith)

pub overflow_mul-acc : goal.overflow_mul-acc
overflow_mul-acc c =
    let e = length-part c.args.img.now c.args.at c.args.k (omega arith) in
    omega (arith, load_fits c.args.acc c.loop-b.b-index c.loop-b.acc (omega arith) (omega arith) c.loop-b.invariant.1)

pub overflow_add-acc : goal.overflow_add-acc
overflow_add-acc c =
    let e = length-part c.args.img.now c.args.at c.args.k (omega arith) in
    omega (
      arith,
      part_lt c.args.img.now c.args.at c.args.k c.loop-b.b-index (λ i. (c.type_inv.img i).fits) (omega arith),
      load_fits c.args.acc c.loop-b.b-index c.loop-b.acc (omega arith) (omega arith) c.loop-b.invariant.1,
    )

pub loop-b-preserved : goal.loop-b-preserved
loop-b-preserved c =
    let e = length-part c.args.img.now c.args.at c.args.k (omega arith) in
    let b : c.from.result < 256 = rw c.from.ensures
    (part_lt c.args.img.now c.args.at c.args.k c.loop-b.b-index (λ i. (c.type_inv.img i).fits) (omega arith)) in (
      rw c.from.ensures (load-suc c.args.acc c.loop-b.acc _ c.loop-b.b-index c.loop-b-test.true c.loop-b.invariant.0),
      load-small c.args.acc c.loop-b.acc _ c.loop-b.b-index c.loop-b.invariant.1 b,
    )

pub returns : goal.returns
returns c =
    let xs : List ℕ = take (c.args.at + c.args.k - c.args.at) (drop c.args.at c.args.img.now) in
    let e : length xs ≡ c.args.k = length-part c.args.img.now c.args.at c.args.k (omega arith) in
    let i : c.loop-b.b-index ≡ c.args.k = omega arith in
    let n : c.args.at + c.args.k - c.args.at ≡ c.args.k = omega arith in
    record {
      value = rw n at (rw (i, take_all c.args.k xs (omega arith)) at c.loop-b.invariant.0);
      upper_bound = rw i at c.loop-b.invariant.1;
    }
