-- `put_sample` meets its contract: the four bytes over four of the lent ones.
use Prim.Native.Nat.{◌+◌, ◌-◌}
use mathlib.Core.Path.{◌≡◌, sym}
use mathlib.Core.List.{append_assoc}
use native.Mathlib.Omega.{arith}
use lib.Ieee.{binary32, to_bits}
use lib.ListN.{take, drop}
use lib.Seq.{sets-eq, drop-drop}
use Rattle.bits.proofs.words.Laws.{length-bytes}
use Rattle.host_samples.specs.Samples.{sample_bytes}
use Rattle.host_samples.proofs.Laws.{four}
use Rattle.host_samples.proofs.put_sample.Goals as goal

pub returns : goal.returns
returns c =
    let n : c.args.at + 4 - c.args.at ≡ 4 = omega arith in
    let l = length-bytes 4 (to_bits binary32 c.args.x) in
    rw (
      sets-eq (sample_bytes c.args.x) c.args.bytes.now c.args.at (omega (arith, l)),
      l,
      four,
      c.copy_from_slice.ensures.after,
      c.to_be_bytes.ensures,
      n,
      drop-drop 4 c.args.at c.args.bytes.now,
    )
    (sym (append_assoc (take c.args.at c.args.bytes.now) _ (drop (c.args.at + 4) c.args.bytes.now)))
