-- A5: what `AsMachine` rules out: a board of which it holds refuses as the `Paper` says, and each of its calls ends in the machine's state
-- and gives its reply, its samples and its rises. So it holds of no board that refuses too much or too little, idles within a run or alters
-- a refused state.
use Prim.Native.Nat.{ℕ, zero, suc, ◌≤◌}
use mathlib.Core.Path.{◌≡◌, sym, ap, ◌∙◌}
use mathlib.Core.List.{List, [], ◌∷◌}
use native.Mathlib.Omega.{arith}
use lib.ListN.{length, take}
use Rattle.cut.specs.Calls.{run, other, Reply, refused, Board, Stretch, Trace, last, then, Observed, start, rise_after}
use Rattle.cut.specs.Calls.{after_run, noted}
use Rattle.cut.specs.Machine.{Paper, ticks, machine_run, other_of, machine}
use Rattle.cut.specs.Demand3.{AsMachine}
use Rattle.cut.proofs.Always.{handed-on}

head_or : ℕ → List ℕ → ℕ
head_or d [] = d
head_or d (x ∷ xs) = x

stretch_of : {Sample Arg Answer : Type 0} → Trace Sample Arg Answer → Stretch Sample
stretch_of (last w) = w
stretch_of (then w a r t) = w

reply_or : {Sample Arg Answer : Type 0} → Reply Answer → Trace Sample Arg Answer → Reply Answer
reply_or d (last w) = d
reply_or d (then w a r t) = r

module _ {State Sample Arg Answer : Type 0} (board : Board State Sample Arg Answer) (paper : Paper State Sample Arg Answer)
    (same : AsMachine board paper) where
  pub refusal-pinned : (n : ℕ) (lent : List Sample) (s : State) → (board.run n lent s).refusal ≡ paper.refuses_run n (length lent) s
  unfolding noted machine head_or
  refusal-pinned n lent s = ap (λ (t : Observed State Sample Arg Answer). head_or 0 t.refusals) (same (run n lent ∷ []) s)

  pub state-pinned : (n : ℕ) (lent : List Sample) (s : State)
      → (board.run n lent s).state ≡ (machine_run paper.clock (paper.refuses_run n (length lent) s) n (start s)).state
  unfolding noted machine
  state-pinned n lent s =
      sym (handed-on (board.run n lent s).refusal n (board.run n lent s) (start s))
      ∙ ap (λ (t : Observed State Sample Arg Answer). t.state) (same (run n lent ∷ []) s)

  stretch-pinned : (n : ℕ) (lent : List Sample) (s : State)
      → (after_run (board.run n lent s).refusal n (board.run n lent s) (start s)).stretch
      ≡ (machine_run paper.clock (paper.refuses_run n (length lent) s) n (start s)).stretch
  unfolding noted machine stretch_of
  stretch-pinned n lent s = ap (λ (t : Observed State Sample Arg Answer). stretch_of t.trace) (same (run n lent ∷ []) s)

  -- an accepted run's samples and rises
  pub accepted-pinned : (n : ℕ) (lent : List Sample) (s : State) → paper.refuses_run n (length lent) s ≡ 0
      → let g = board.run n lent s in
      let w = (ticks paper.clock n (start s)).stretch in
      (take g.made g.samples ≡ w.samples) × (rise_after 0 g.rise ≡ w.rises)
  accepted-pinned n lent s e =
      let h = rw (refusal-pinned n lent s, e) at (stretch-pinned n lent s) in
      (ap (λ (w : Stretch Sample). w.samples) h, ap (λ (w : Stretch Sample). w.rises) h)

  -- so no weaker condition than `OneRise` would do
  pub one-needed : (n : ℕ) (lent : List Sample) (s : State) → paper.refuses_run n (length lent) s ≡ 0
      → length (ticks paper.clock n (start s)).stretch.rises ≤ 1
  one-needed n lent s e = rw (← (accepted-pinned n lent s e).1) (few (board.run n lent s).rise)
    where
      few : (r : ℕ) → length (rise_after 0 r) ≤ 1
      few zero = omega arith
      few (suc r) = omega arith

  pub reply-pinned : (a : Arg) (s : State) → (board.other a s).reply ≡ (other_of paper a s).reply
  unfolding noted machine reply_or
  reply-pinned a s = ap (λ (t : Observed State Sample Arg Answer). reply_or (refused 0) t.trace) (same (other a ∷ []) s)

  pub other-state-pinned : (a : Arg) (s : State) → (board.other a s).state ≡ (other_of paper a s).state
  unfolding noted machine
  other-state-pinned a s = ap (λ (t : Observed State Sample Arg Answer). t.state) (same (other a ∷ []) s)
