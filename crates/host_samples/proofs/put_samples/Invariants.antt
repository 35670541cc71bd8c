-- `put_samples` meets its contract, sample by sample.
use Prim.Native.Nat.{◌*◌}
use mathlib.Core.Path.{◌≡◌}
use mathlib.Core.List.{◌++◌}
use lib.ListN.{take, drop}
use Rattle.bits.specs.Fields.{each}
use Rattle.host_samples.specs.Samples.{sample_bytes}
use Rattle.host_samples.proofs.put_samples.Given as goal

abbrev pub invariant-loop-j : goal.invariant-loop-j
invariant-loop-j l = l.bytes ≡ each sample_bytes (take l.j l.samples) ++ drop (4 * l.j) l.initial.bytes
