-- What each call keeps holds after every list of calls, and what it rules out never comes.
use Prim.Native.Nat.{ℕ, zero, suc}
use mathlib.Core.Path.{◌≡◌, refl, sym, ap, ◌∙◌}
use mathlib.Core.List.{List, [], ◌∷◌, ◌++◌}
use lib.ListN.{take}
use Rattle.cut.specs.Calls.{Call, run, other, RunGave, Board, Point, from, start, after_run, noted}
use Rattle.cut.specs.Always.{AllTyped, Each, EachSample, NeverRefused, Kept, Never}

-- the state that a run hands back goes on, whether the run is refused or not
pub handed-on : {State Sample : Type 0} (q n : ℕ) (g : RunGave State Sample) (p : Point State Sample) → (after_run q n g p).state ≡ g.state
handed-on zero n g p = refl
handed-on (suc q) n g p = refl

each_append : {Sample : Type 0} (P : Sample → Type 0) (xs ys : List Sample) → Each P xs → Each P ys → Each P (xs ++ ys)
each_append P [] ys p q = q
each_append P (x ∷ xs) ys p q = (p.0, each_append P xs ys p.1 q)

module _ {State Sample Arg Answer : Type 0} (board : Board State Sample Arg Answer) (Typed : Call Sample Arg → Type 0)
    (Holds : State → Type 0)
    (k : Kept board Typed Holds) where
  pub always : (calls : List (Call Sample Arg)) (p : Point State Sample) → AllTyped Typed calls → Holds p.state
      → Holds (noted board calls p).state
  unfolding noted
  always [] p t h = h
  always (run n lent ∷ calls) p t h =
      let g = board.run n lent p.state in
      always calls (after_run g.refusal n g p) t.1 (rw (handed-on g.refusal n g p) (k.run n lent p.state t.0 h))
  always (other a ∷ calls) p t h =
      let g = board.other a p.state in always calls (from g.state p.count) t.1 (k.other a p.state t.0 h)

  pub never : (q : ℕ) → Never board Typed Holds q → (calls : List (Call Sample Arg)) (p : Point State Sample) → AllTyped Typed calls
      → Holds p.state → NeverRefused q (noted board calls p)
  unfolding noted
  never q r [] p t h = record { others = tt; runs = tt }
  never q r (run n lent ∷ calls) p t h =
      let g = board.run n lent p.state in
      let rest = never q r calls (after_run g.refusal n g p) t.1
      (rw (handed-on g.refusal n g p) (k.run n lent p.state t.0 h)) in
      record { others = rest.others; runs = (r.run n lent p.state h, rest.runs) }
  never q r (other a ∷ calls) p t h =
      let g = board.other a p.state in
      let rest = never q r calls (from g.state p.count) t.1 (k.other a p.state t.0 h) in
      record { others = (r.other a p.state h, rest.others); runs = rest.runs }

  -- where what is kept makes an accepted run's samples be so, all samples of every list are
  module _ (P : Sample → Type 0) (samples : (n : ℕ) (lent : List Sample) (s : State) → Holds s → let g = board.run n lent s in
      g.refusal ≡ 0 → Each P (take g.made g.samples)) where
    ran : (n : ℕ) (lent : List Sample) (p : Point State Sample) → Holds p.state → Each P p.stretch.samples
        → let g = board.run n lent p.state in Each P (after_run g.refusal n g p).stretch.samples
    ran n lent p h e = go (board.run n lent p.state).refusal (samples n lent p.state h)
      where
        go : (q : ℕ) → let g = board.run n lent p.state in (q ≡ 0 → Each P (take g.made g.samples))
            → Each P (after_run q n g p).stretch.samples
        go zero f = each_append P p.stretch.samples _ e (f refl)
        go (suc q) f = e

    pub each-sample : (calls : List (Call Sample Arg)) (p : Point State Sample) → AllTyped Typed calls → Holds p.state
        → Each P p.stretch.samples → EachSample P (noted board calls p).trace
    unfolding noted
    each-sample [] p t h e = e
    each-sample (run n lent ∷ calls) p t h e =
        let g = board.run n lent p.state in
        each-sample calls (after_run g.refusal n g p) t.1 (rw (handed-on g.refusal n g p) (k.run n lent p.state t.0 h)) (ran n lent p h e)
    each-sample (other a ∷ calls) p t h e =
        let g = board.other a p.state in (e, each-sample calls (from g.state p.count) t.1 (k.other a p.state t.0 h) tt)

-- ---- lists in two parts

module _ {State Sample Arg Answer : Type 0} (board : Board State Sample Arg Answer) where
  -- where a list ends depends on the state it starts in, and on nothing that was noted before
  ends : (calls : List (Call Sample Arg)) (p r : Point State Sample) → p.state ≡ r.state
      → (noted board calls p).state ≡ (noted board calls r).state
  unfolding noted
  ends [] p r e = e
  ends (run n lent ∷ calls) p r e =
      let g = board.run n lent p.state in
      let h = board.run n lent r.state in
      ends calls (after_run g.refusal n g p) (after_run h.refusal n h r)
      (handed-on g.refusal n g p
      ∙ ap (λ (s : State). (board.run n lent s).state) e
      ∙ sym (handed-on h.refusal n h r))
  ends (other a ∷ calls) p r e =
      ends calls (from (board.other a p.state).state p.count) (from (board.other a r.state).state r.count)
      (ap (λ (s : State). (board.other a s).state) e)

  pub in_two : (first rest : List (Call Sample Arg)) (p : Point State Sample)
      → (noted board (first ++ rest) p).state ≡ (noted board rest (start (noted board first p).state)).state
  unfolding noted
  in_two [] rest p = ends rest p (start p.state) refl
  in_two (run n lent ∷ first) rest p = let g = board.run n lent p.state in in_two first rest (after_run g.refusal n g p)
  in_two (other a ∷ first) rest p = in_two first rest (from (board.other a p.state).state p.count)
