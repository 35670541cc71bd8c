-- C19, D3.1: every list of calls does what the plain machine does, and how its clocks are cut into runs does not show.
use Prim.Native.Nat.{ℕ, zero, suc, ◌+◌}
use mathlib.Core.Path.{◌≡◌, refl, sym, ap, ◌∙◌}
use mathlib.Core.List.{List, [], ◌∷◌, ◌++◌}
use native.Mathlib.Nat.{zero-add}
use lib.ListN.{length, drop}
use lib.Seq.{take-append_seam}
use Rattle.cut.specs.Calls.{Call, run, other, Board, Trace, last, then, Observed, with_run, Point, from, start, after_run, noted}
use Rattle.cut.specs.Calls.{Outline, outline}
use Rattle.cut.specs.Machine.{Paper, ticks, machine_run, other_of, machine}
use Rattle.cut.specs.Contract.{run_by, Keeps, OneRise}
use Rattle.cut.specs.Demand3.{observed, AsMachine, CutBlind}
use Rattle.cut.proofs.Machine.{ticks-add, ticks-clocks, behind, ticks-behind, tells}

-- what a list tells, without its runs' refusal numbers
abbrev seen : {State Sample Arg Answer : Type 0} → Observed State Sample Arg Answer → Trace Sample Arg Answer × State
seen t = (t.trace, t.state)

module _ {State Sample Arg Answer : Type 0} (paper : Paper State Sample Arg Answer) where
  -- what an outline tells by single clocks
  by_outline : Outline Arg → State → ℕ → Trace Sample Arg Answer × State
  by_outline (last n) s k = let t = ticks paper.clock n (from s k) in (last t.stretch, t.state)
  by_outline (then n a o) s k =
      let t = ticks paper.clock n (from s k) in
      let g = other_of paper a t.state in
      let w = by_outline o g.state t.count in
      (then t.stretch a g.reply w.0, w.1)

  -- the machine tells what its outline tells, also from the middle of a stretch
  machine-outline : (calls : List (Call Sample Arg)) (s : State) (k n : ℕ)
      → let t = machine paper calls (ticks paper.clock n (from s k)) in seen t ≡ by_outline (outline t.trace) s k
  unfolding machine by_outline ticks
  machine-outline [] s k n = rw (ticks-clocks paper.clock n (from s k), zero-add)
  machine-outline (run m lent ∷ calls) s k n =
      go (paper.refuses_run m (length lent) (ticks paper.clock n (from s k)).state) (machine-outline calls s k)
    where
      go : (q : ℕ)
          → ((n : ℕ) → let t = machine paper calls (ticks paper.clock n (from s k)) in seen t ≡ by_outline (outline t.trace) s k)
          → let t = machine paper calls (machine_run paper.clock q m (ticks paper.clock n (from s k))) in
          seen t ≡ by_outline (outline t.trace) s k
      go zero ih = rw (ticks-add paper.clock n m (from s k)) (ih (n + m))
      go (suc q) ih = ih n
  machine-outline (other a ∷ calls) s k n =
      let t = ticks paper.clock n (from s k) in
      let g = other_of paper a t.state in
      rw (ticks-clocks paper.clock n (from s k), zero-add)
      (ap (λ (w : Trace Sample Arg Answer × State). (then t.stretch a g.reply w.0, w.1))
      (machine-outline calls g.state t.count 0))

module _ {State Sample Arg Answer : Type 0} (board : Board State Sample Arg Answer) (paper : Paper State Sample Arg Answer)
    (keeps : Keeps board paper) (once : OneRise paper) where
  run-as : (n : ℕ) (lent : List Sample) (p : Point State Sample) (q : ℕ) → paper.refuses_run n (length lent) p.state ≡ q
      → after_run q n (run_by q (ticks paper.clock n (start p.state)) lent p.state) p ≡ machine_run paper.clock q n p
  unfolding behind
  run-as n lent p zero e =
      let t = ticks paper.clock n (start p.state) in
      (λ i. record {
        state = t.state;
        count = p.count + n;
        stretch =
            record {
              clocks = p.stretch.clocks + n;
              samples = p.stretch.samples ++ take-append_seam t.stretch.samples (drop (length t.stretch.samples) lent) i;
              rises = p.stretch.rises ++ sym
                  (tells paper.clock n p.count p.state (once.one n (length lent) p.state e)) i;
            };
      })
      ∙ sym (ticks-behind paper.clock n p)
  run-as n lent p (suc q) e = refl

  observed-as : (calls : List (Call Sample Arg)) → ((p : Point State Sample) → noted board calls p ≡ machine paper calls p)
      → (n : ℕ) (lent : List Sample) (p : Point State Sample) (q : ℕ) → paper.refuses_run n (length lent) p.state ≡ q
      → let g = run_by q (ticks paper.clock n (start p.state)) lent p.state in
      with_run g.refusal (noted board calls (after_run g.refusal n g p))
      ≡ with_run q (machine paper calls (machine_run paper.clock q n p))
  observed-as calls ih n lent p zero e = ap (with_run 0)
      (ap (noted board calls) (run-as n lent p 0 e) ∙ ih (machine_run paper.clock 0 n p))
  observed-as calls ih n lent p (suc q) e = ap (with_run (suc q)) (ih p)

  as-machine-from : (calls : List (Call Sample Arg)) (p : Point State Sample) → noted board calls p ≡ machine paper calls p
  unfolding noted machine
  as-machine-from [] p = refl
  as-machine-from (run n lent ∷ calls) p = rw (keeps.run n lent p.state) (observed-as calls (as-machine-from calls) n lent p _ refl)
  as-machine-from (other a ∷ calls) p = rw (keeps.other a p.state, as-machine-from calls)

  pub as-machine : AsMachine board paper
  as-machine calls s = as-machine-from calls (start s)

  pub cut-blind : CutBlind board
  unfolding ticks
  cut-blind calls others s e = (
    ap (λ (w : Trace Sample Arg Answer × State). w.0) same,
    ap (λ (w : Trace Sample Arg Answer × State). w.1) same,
  )
    where
      by : (calls : List (Call Sample Arg))
          → seen (observed board calls s) ≡ by_outline paper (outline (observed board calls s).trace) s 0
      by calls = rw (as-machine calls s) (machine-outline paper calls s 0 0)

      same : seen (observed board calls s) ≡ seen (observed board others s)
      same = by calls ∙ ap (λ (o : Outline Arg). by_outline paper o s 0) e ∙ sym (by others)
