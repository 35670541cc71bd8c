-- `bits::cursor::Cursor::put` meets its contract.
use mathlib.Core.Path.{◌≡◌, ap, ◌∙◌}
use Prim.Native.Nat.{ℕ, ◌+◌, ◌*◌, ◌/◌, ◌%◌, ◌^◌}
use native.Mathlib.Nat.{mod-lt, le_refl}
use lib.ListN.{length, drop}
use lib.Seq.{drop-paste, length-paste}
use native.Mathlib.Omega.{arith}
use lib.Pow.{pow_pos}
use Rattle.bits.specs.Cursor.{bits_written}
use Rattle.bits.specs.Fields.{total}
use Rattle.bits.specs.Words.{bytes_of}
use Rattle.bits.proofs.Fields.{after_one}
use Rattle.bits.proofs.words.Laws.{length-bytes}
use Rattle.bits.proofs.cursor.Laws.{acc-exact, acc_lt, put-bits, fits63}
use Rattle.bits.proofs.cursor.Cursor.put.Goals as goal

pub overflow_add-acc : goal.overflow_add-acc
overflow_add-acc c = record {
  fits =
      rw (acc-exact c.args.self.now.acc c.args.self.now.n c.args.width c.requires.held.few (omega arith) c.requires.held.small)
      (fits63 _ (c.args.self.now.n + c.args.width)
      (acc_lt c.args.self.now.acc c.args.self.now.n c.args.width c.args.v c.requires.held.small c.requires.width_bound.1)
      (omega arith));
}

pub returns : goal.returns
unfolding bits_written total
returns c =
    let n = c.args.self.now.n + c.args.width in
    let acc : ℕ = (c.args.self.now.acc * 2 ^ c.args.width) % 2 ^ 64 + c.args.v in
    let e : acc ≡ c.args.self.now.acc * 2 ^ c.args.width + c.args.v =
    ap (λ (x : ℕ). x + c.args.v)
    (acc-exact c.args.self.now.acc c.args.self.now.n c.args.width c.requires.held.few (omega arith) c.requires.held.small) in
    record {
      held = record { few = omega arith; small = rw c.low.ensures (mod-lt acc (pow_pos (n % 8))) };
      pos = omega arith;
      bits =
          rw c.low.ensures
          (put-bits c.args.img.now c.store.new.img c.args.self.now.at c.args.self.now.n c.args.self.now.acc c.args.width c.args.v
          (n / 8) (n % 8) acc
          (omega arith) (omega arith) c.requires.held.small c.requires.width_bound.1 e c.store.ensures
          ∙ after_one _ c.args.width c.args.v);
      rest = ap (drop (c.args.self.now.at + n / 8)) c.store.ensures
          ∙ drop-paste c.args.img.now c.args.self.now.at (bytes_of (n / 8) (acc / 2 ^ (n % 8))) (n / 8) (omega arith)
          (rw length-bytes (le_refl (n / 8)));
      len = ap length c.store.ensures
          ∙ length-paste c.args.img.now c.args.self.now.at (bytes_of (n / 8) (acc / 2 ^ (n % 8))) (n / 8) (omega arith)
          (rw length-bytes (le_refl (n / 8)));
    }
