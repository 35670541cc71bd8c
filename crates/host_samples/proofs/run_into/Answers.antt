-- `run_into` meets its contract: more room than any run needs changes nothing.
use Prim.Native.Nat.{ℕ, ◌/◌, ◌≤◌}
use mathlib.Core.Path.{sym, ap, ◌∙◌}
use mathlib.Core.List.{List, ◌++◌}
use lib.Ieee.{Float}
use lib.ListN.{length, take, drop}
use lib.Seq.{length-take-le}
use Rattle.std.proofs.Math.Nat.{min-le_left}
use Rattle.cut.specs.Contract.{run_by}
use Rattle.call_refusals.specs.Refusals.{first_of}
use Rattle.call_run.specs.Run.{clocks, run_checks, run_gave, ran_of}
use Rattle.call_run.proofs.run.Laws.{run-good}
use Rattle.host_samples.proofs.Laws.{room-enough, answer-alone, whole-buffer}
use Rattle.host_samples.proofs.run_into.Goals as goal

pub slice_bounds-run_known-end-2 : goal.slice_bounds-run_known-end-2
slice_bounds-run_known-end-2 c =
    sym (length-take-le c.min-places.result c.args.buf.now (rw c.min-places.ensures (min-le_left _ _)))

pub returns : goal.returns
unfolding run_gave
returns c =
    let s = c.args.s.state in
    let n = c.args.n in
    let buf = c.args.buf.now in
    let places = c.min-places in
    let lent = take places.result buf in
    let q = first_of (run_checks s n (length lent)) in
    let t = clocks n s in
    let within : places.result ≤ length buf = rw places.ensures (min-le_left _ _) in
    let long = length-take-le places.result buf within in
    let same = ap (λ (x : ℕ). first_of (run_checks s n x)) (long ∙ places.ensures)
    ∙ room-enough s n (c.args.bytes / 4) (length buf) c.requires in (
      c.run_known.ensures.0 ∙ answer-alone q t lent buf s ∙ ap (λ (x : ℕ). ran_of (run_by x t buf s)) same,
      ap (λ (x : List Float). x ++ drop places.result buf) c.run_known.ensures.1
          ∙ whole-buffer q t buf places.result s (λ e. (run-good s n (length lent) e).enough)
          ∙ ap (λ (x : ℕ). (run_by x t buf s).samples) same,
    )
