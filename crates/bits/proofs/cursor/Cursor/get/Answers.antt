-- `bits::cursor::Cursor::get` meets its contract.
use mathlib.Core.Path.{◌≡◌, sym, ap, ◌∙◌}
use Prim.Native.Nat.{ℕ, ◌+◌, ◌-◌, ◌*◌, ◌/◌, ◌%◌, ◌^◌, ◌<◌}
use native.Mathlib.Nat.{mod-lt, lt_of_lt_of_le}
use native.Mathlib.Omega.{arith}
use lib.Pow.{pow_pos, pow_mono, high, low}
use lib.ListN.{take}
use Rattle.bits.specs.Fields.{total}
use Rattle.bits.specs.Words.{word_of}
use Rattle.bits.specs.Cursor.{bits_read}
use Rattle.bits.proofs.Fields.{after_one}
use Rattle.bits.proofs.cursor.Laws.{get-bits, got-lt}
use Rattle.bits.proofs.cursor.Cursor.get.Goals as goal

-- the bits held are few
held-lt : (N n held : ℕ) → held ≡ N % 2 ^ n → held < 2 ^ n
held-lt N n held e = rw e (mod-lt N (pow_pos n))

byte : (N n held : ℕ) → n < 8 → held ≡ N % 2 ^ n → held < 256
byte N n held l e = lt_of_lt_of_le (held-lt N n held e) (pow_mono {i = n} {j = 8} (omega arith))

pub load-acc-requires : goal.load-acc-requires
load-acc-requires c = (
  omega arith,
  byte (word_of (take c.args.self.now.at c.args.img.now)) c.args.self.now.n c.args.self.now.acc
      c.requires.behind.few c.requires.behind.last,
  omega arith,
)

pub returns : goal.returns
unfolding bits_read total
returns c =
    let k = (c.args.width + 7 - c.args.self.now.n) / 8 in
    let m = c.args.self.now.n + k * 8 - c.args.width in
    let e : m + c.args.width ≡ c.args.self.now.n + k * 8 = omega arith in
    let all = get-bits c.args.img.now c.args.self.now.at c.args.self.now.n c.args.self.now.acc c.args.width k m c.load-acc.result
    e (omega arith)
    c.requires.behind.last c.load-acc.ensures.value in
    let under : c.load-acc.result % 2 ^ m < 2 ^ m = mod-lt c.load-acc.result (pow_pos m) in
    record {
      behind = record {
        few = omega arith;
        inside = omega arith;
        last = c.low.ensures ∙ sym (ap (λ (x : ℕ). x % 2 ^ m) all ∙ low _ m under);
      };
      pos = omega arith;
      fit = (
        got-lt c.args.self.now.acc c.args.self.now.n c.args.width k m c.load-acc.result e
            (held-lt (word_of (take c.args.self.now.at c.args.img.now)) c.args.self.now.n c.args.self.now.acc c.requires.behind.last)
            c.load-acc.ensures.upper_bound,
        tt,
      );
      bits = ap (λ (x : ℕ). x / 2 ^ m) all ∙ high _ m under ∙ after_one _ c.args.width _;
    }
