-- D3.1 to D3.3, of every board that keeps to a `Paper` whose clock has the counter of mappers 19 and 210.
use Rattle.cut.specs.Calls.{Board}
use Rattle.cut.specs.Machine.{Paper}
use Rattle.cut.specs.Contract.{Keeps, OneRise}
use Rattle.cut.specs.Counter.{Counter}
use Rattle.cut.specs.Demand3.{Demand3}
use Rattle.cut.proofs.Cutting.{as-machine, cut-blind}
use Rattle.cut.proofs.Counter.{counter-once}
use Rattle.cut.proofs.Rising.{rises-in-time}

pub demand-3 : {State Sample Arg Answer : Type 0} (board : Board State Sample Arg Answer) (paper : Paper State Sample Arg Answer)
    (c : Counter paper.clock) → Keeps board paper → Demand3 board paper c.counter c.line
demand-3 board paper c keeps =
    record {
      as-machine = as-machine board paper keeps once;
      cut-blind = cut-blind board paper keeps once;
      rises-in-time = rises-in-time board paper keeps c;
    }
  where
    once : OneRise paper
    once = record { one = λ n room s e. counter-once paper.clock c n s }
