-- `put_samples` meets its contract, sample by sample.
use mathlib.Core.Path.{◌≡◌, ap, ◌∙◌}
use lib.ListN.{length}
use native.Mathlib.Omega.{arith}
use lib.ListN.{take}
use Rattle.std.proofs.Common.{List, drop, ◌++◌, ◌*◌}
use Rattle.bits.specs.Fields.{each}
use Rattle.host_samples.specs.Samples.{sample_bytes}
use Rattle.host_samples.proofs.Laws.{put-none, put-length, put-more, put-all}
use Rattle.host_samples.proofs.put_samples.Goals as goal

pub loop-j-init : goal.loop-j-init
loop-j-init c = put-none c.args.samples.now c.args.bytes.now

pub loop-j-preserved : goal.loop-j-preserved
loop-j-preserved c =
    c.put_sample.ensures ∙ rw c.loop-j.invariant (put-more c.args.samples.now c.args.bytes.now c.loop-j.j (omega arith) (omega arith))

pub returns : goal.returns
returns c = c.loop-j.invariant ∙ put-all c.args.samples.now c.args.bytes.now c.loop-j.j (omega arith)
