-- `run_on` meets its contract: each of its buffers holds the run.
use Rattle.std.proofs.Common.{arith}
use Rattle.call_refusals.proofs.Laws.{known-state}
use Rattle.call_run.proofs.run.Laws.{made-most}
use Rattle.host_state.proofs.Laws.{made-few}
use Rattle.host_state.proofs.run_on.Goals as goal

pub run_with-requires : goal.run_with-requires
run_with-requires c =
    let a = c.args in
    record {
      room = c.requires;
      buffer = (λ h. made-few a.s.state a.n (known-state a.s _ c.well_formed.0) (omega arith), omega arith);
    }

pub run_with-requires-2 : goal.run_with-requires-2
run_with-requires-2 c =
    let a = c.args in
    let k = known-state a.s _ c.well_formed.0 in
    record {
      room = c.requires;
      buffer = (λ h. made-most a.n a.s.state k.range.chip.audio.counter h, omega arith);
    }
