-- C25: the loop of a run. Its one piece makes as few clocks as are enough, so it gives what the whole run gives; then none is left that
-- alters anything.
use Prim.Native.Nat.{ℕ, ◌+◌, ◌-◌, ◌^◌, ◌≤◌, ◌<◌}
use mathlib.Core.Path.{◌≡◌, sym, ap, ◌∙◌}
use mathlib.Core.Bool.{true, false}
use mathlib.Core.List.{List}
use mathlib.Core.Logic.{◌⊎◌, inl, inr}
use native.Mathlib.Omega.{arith}
use native.Mathlib.Decide.{ℕ_discrete}
use borrow.Author.Tests.{eq-eqb, ne_eqb, le-ltb}
use lib.Ieee.{Float}
use lib.ListN.{length}
use Rattle.cut.specs.Machine.{ticks}
use Rattle.cut.specs.Contract.{run_by}
use Rattle.board_state.specs.declared.State.{State}
use Rattle.call_refusals.specs.Refusals.{first_of}
use Rattle.idle_runs.specs.Idle.{Ends, Least, busy}
use Rattle.idle_runs.proofs.Busy.{ends_same, busy-stops, busy-least}
use Rattle.call_run.specs.declared.run.Ran.{Ran}
use Rattle.call_run.specs.Clock.{state_clock}
use Rattle.call_idle.specs.Idle.{idle, ends, counted}
use Rattle.call_run.specs.Run.{clocks, made, run_limit, run_checks, run_gave, ran_in}
use Rattle.call_run.proofs.run.Idle.{tests, counted-least}
use Rattle.call_run.proofs.run.Laws.{run-good}

-- ---- where the rest alters nothing

-- no clock is enough where the test says so
ends_now : (n : ℕ) (s : State) → ends n s ≡ true → Least state_clock n 0 s
unfolding ends busy
ends_now n s e = by (ℕ_discrete n 0)
  where
    by : Dec (n ≡ 0) → Least state_clock n 0 s
    by (yes z) = rw z (busy-least state_clock idle tests 0 s)
    by (no z) =
        let i : idle s ≡ true = rw (ne_eqb n 0 z) at e in
        rw (busy-stops state_clock idle tests n s i) at (busy-least state_clock idle tests n s)

-- behind as few clocks as are enough the test says so
ends-then : (n k : ℕ) (s : State) → Ends state_clock n k s → ends (n - k) (clocks k s).state ≡ true
unfolding ends
ends-then n k s e = by (ℕ_discrete (n - k) 0)
  where
    by : Dec (n - k ≡ 0) → ends (n - k) (clocks k s).state ≡ true
    by (yes z) = rw (eq-eqb (n - k) 0 z)
    by (no z) = rw (ne_eqb (n - k) 0 z) (tests.still-yes _ (e.still k (omega arith) (omega (arith, z))))

-- such clocks give what all give
same-run : (n k : ℕ) (s : State) (lent : List Float) → Ends state_clock n k s → run_by 0 (clocks n s) lent s ≡ run_by 0 (clocks k s) lent s
same-run n k s lent e =
    let same = ends_same state_clock n k s e in rw (same.state, same.samples, same.rises)

-- and are accepted where all are
pub piece-accepted : (n k room : ℕ) (s : State) → Ends state_clock n k s → first_of (run_checks s n room) ≡ 0 → first_of (run_checks s k room) ≡ 0
unfolding made first_of
piece-accepted n k room s e h =
    let g = run-good s n room h in
    let few : length (clocks k s).stretch.samples ≤ room = rw (ends_same state_clock n k s e).samples at g.enough in
    rw (g.good, le-ltb run_limit k (omega (arith, g.short, e.within)), le-ltb room (length (clocks k s).stretch.samples) few)

gave-same : (n k : ℕ) (s : State) (lent : List Float) → Ends state_clock n k s → first_of (run_checks s n (length lent)) ≡ 0
    → run_gave s n lent ≡ run_gave s k lent
unfolding run_gave
gave-same n k s lent e h = rw (h, piece-accepted n k (length lent) s e h) (same-run n k s lent e)

-- ---- where the loop stands

module _ (n : ℕ) (s : State) (lent : List Float) where
  -- before its piece
  pub record Fresh (now : List Float) (r : Ran) (k : ℕ) : Type 0 where
    pub ran : r ≡ record { made = 0; rise = 0; state = s }
    pub samples : now ≡ lent
    pub none : k ≡ 0

  -- behind it
  pub record Done (now : List Float) (r : Ran) (k : ℕ) : Type 0 where
    pub ran : r ≡ ran_in (run_gave s n lent)
    pub samples : now ≡ (run_gave s n lent).samples
    pub least : Least state_clock n k s

  abbrev pub Going : List Float → Ran → ℕ → Type 0
  Going now ran k = Fresh now ran k ⊎ Done now ran k

  pub going-within : (now : List Float) (ran : Ran) (k : ℕ) → Going now ran k → k ≤ n
  going-within now ran k (inl f) = omega (arith, f.none)
  going-within now ran k (inr d) = d.least.ends.within

  module _ (accepted : first_of (run_checks s n (length lent)) ≡ 0) where
    -- where the test holds, all is given and counted
    pub going_end : (now : List Float) (ran : Ran) (k : ℕ) → Going now ran k → ends (n - k) ran.state ≡ true → Done now ran k
    unfolding run_gave ticks
    going_end now ran k (inr d) e = d
    going_end now ran k (inl f) e =
        let all : n - 0 ≡ n = omega arith in
        let least = ends_now n s (rw (f.none, all, f.ran) at e) in
        let gave = gave-same n 0 s lent least.ends accepted in
        let none = piece-accepted n 0 (length lent) s least.ends accepted in
        record { ran = rw (f.ran, gave, none); samples = rw (f.samples, gave, none); least = rw f.none least }

    -- behind the piece it holds
    done-ends : (now : List Float) (ran : Ran) (k : ℕ) → Done now ran k → ends (n - k) ran.state ≡ true
    unfolding run_gave
    done-ends now ran k d =
        let at : ran.state ≡ (clocks k s).state =
        ap (λ (r : Ran). r.state) d.ran ∙ rw accepted (ends_same state_clock n k s d.least.ends).state in
        rw at (ends-then n k s d.least.ends)

    -- so where it does not, the loop is before it
    pub going-fresh : (now : List Float) (ran : Ran) (k : ℕ) → Going now ran k → ends (n - k) ran.state ≡ false → Fresh now ran k
    going-fresh now ran k (inl f) e = f
    going-fresh now ran k (inr d) e = let t : true ≡ false = sym (done-ends now ran k d) ∙ e in
        let z : ◌≡◌ {A = ℕ} 0 1 = cc in absurd (omega arith)

    module _ (small : s.chip.regs.irq_counter < 2 ^ 16) where
      -- the piece, taken from where the loop is
      pub record Piece (now : List Float) (r : Ran) (k more : ℕ) : Type 0 where
        pub fresh : Fresh now r k
        pub count : k + more ≡ counted n s
        pub some : 1 ≤ more
        pub checks : first_of (run_checks r.state more (length now)) ≡ 0

      pub next-piece : (now : List Float) (r : Ran) (k more : ℕ) → Going now r k → ends (n - k) r.state ≡ false
          → more ≡ counted (n - k) r.state → Piece now r k more
      unfolding ticks
      next-piece now r k more g e m =
          let f = going-fresh now r k g e in
          let all : n - 0 ≡ n = omega arith in
          let this : more ≡ counted n s = rw (f.none, all, f.ran) at m in
          let least : Least state_clock n more s = rw this (counted-least n s small) in
          let altering : more ≡ 0 → ⊥ = λ z.
          let over : ends n s ≡ true = rw all at (ends-then n 0 s (rw z at least.ends)) in
          let t : true ≡ false = sym over ∙ rw (f.none, all, f.ran) at e in let o : ◌≡◌ {A = ℕ} 0 1 = cc in absurd (omega arith) in
          record {
            fresh = f;
            count = rw f.none (omega (arith, this));
            some = omega (arith, altering);
            checks = rw (f.ran, f.samples) (piece-accepted n more (length lent) s least.ends accepted);
          }

      pub piece-done : (now : List Float) (r : Ran) (k more : ℕ) → Piece now r k more → (after : List Float) (next : Ran)
          → next ≡ ran_in (run_gave r.state more now) → after ≡ (run_gave r.state more now).samples → Done after next (k + more)
      piece-done now r k more p after next e a =
          let f = p.fresh in
          let this : more ≡ counted n s = omega (arith, p.count, f.none) in
          let least : Least state_clock n more s = rw this (counted-least n s small) in
          let gave = gave-same n more s lent least.ends accepted in
          record {
            ran = rw (e, f.ran, f.samples, gave);
            samples = rw (a, f.ran, f.samples, gave);
            least = rw p.count (counted-least n s small);
          }
