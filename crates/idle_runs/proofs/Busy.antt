-- C24, C25: a loop that ends at the first clock that alters nothing makes as few clocks as are enough, and ending there shows nowhere.
-- Assumes nothing of the clock.
use Prim.Native.Nat.{ℕ, zero, suc, ◌+◌, ◌-◌, ◌≤◌, ◌<◌}
use mathlib.Core.Path.{◌≡◌, refl, ap, ◌∙◌}
use mathlib.Core.Bool.{Bool, true, false, cond}
use mathlib.Core.List.{append-nil}
use native.Mathlib.Omega.{arith}
use native.Mathlib.Nat.{add-zero, add-suc}
use Rattle.cut.specs.Calls.{Point, start}
use Rattle.cut.specs.Machine.{Clocked, tick, ticks}
use Rattle.idle_runs.specs.Idle.{Still, after, Ends, Least, Tests, busy, Same}

module _ {State Sample : Type 0} (clock : State → Clocked State Sample) where
  -- the state after a clock and j more
  pub after-suc : (j : ℕ) (s : State) → after clock (suc j) s ≡ after clock j (clock s).state
  unfolding ticks tick
  after-suc zero s = refl
  after-suc (suc j) s = ap (λ (s : State). (clock s).state) (after-suc j s)

  -- a clock is a function of the state: one that alters nothing is followed by none that does
  after-still : (s : State) → Still clock s → (j : ℕ) → after clock j s ≡ s
  unfolding ticks tick
  after-still s h zero = refl
  after-still s h (suc j) = ap (λ (s : State). (clock s).state) (after-still s h j) ∙ h.state

  module _ (idle : State → Bool) (tests : Tests clock idle) where
    busy-ends : (n : ℕ) (s : State) → Ends clock n (busy clock idle n s) s
    unfolding busy
    busy-ends zero s = record { within = omega arith; still = λ j p q. absurd (omega arith) }
    busy-ends (suc n) s = go (idle s) refl (busy-ends n (clock s).state)
      where
        step : Ends clock n (busy clock idle n (clock s).state) (clock s).state
            → (j : ℕ) → suc (busy clock idle n (clock s).state) ≤ j → j < suc n → Still clock (after clock j s)
        step ih zero p q = absurd (omega arith)
        step ih (suc j) p q = rw (after-suc j s) (ih.still j (omega arith) (omega arith))

        go : (b : Bool) → idle s ≡ b → Ends clock n (busy clock idle n (clock s).state) (clock s).state
            → Ends clock (suc n) (cond b 0 (suc (busy clock idle n (clock s).state))) s
        go true e ih =
            let h = tests.yes-still s e in
            record { within = omega arith; still = λ j p q. rw (after-still s h j) h }
        go false e ih = record { within = omega (arith, ih.within); still = step ih }

    busy-first : (n : ℕ) (s : State) (j : ℕ) → Ends clock n j s → busy clock idle n s ≤ j
    unfolding busy ticks
    busy-first zero s j e = omega arith
    busy-first (suc n) s zero e = go (idle s) refl
      where
        still-now : Still clock s
        still-now = e.still 0 (omega arith) (omega arith)

        go : (b : Bool) → idle s ≡ b → cond b 0 (suc (busy clock idle n (clock s).state)) ≤ 0
        go true q = omega arith
        go false q =
            let y = tests.still-yes s still-now in
            let z : ◌≡◌ {A = ℕ} 0 1 = cc in absurd (omega arith)
    busy-first (suc n) s (suc j) e = go (idle s) (busy-first n (clock s).state j (record {
      within = omega (arith, e.within);
      still = λ i p q. rw (after-suc i s) at (e.still (suc i) (omega arith) (omega arith));
    }))
      where
        go : (b : Bool) → busy clock idle n (clock s).state ≤ j → cond b 0 (suc (busy clock idle n (clock s).state)) ≤ suc j
        go true ih = omega arith
        go false ih = omega arith

    -- the theorem: the loop makes the least number of clocks after which no remaining one alters anything
    pub busy-least : (n : ℕ) (s : State) → Least clock n (busy clock idle n s) s
    busy-least n s = record { ends = busy-ends n s; least = busy-first n s }

    -- it stops where the next clock alters nothing
    pub busy-stops : (n : ℕ) (s : State) → idle s ≡ true → busy clock idle n s ≡ 0
    unfolding busy
    busy-stops zero s e = refl
    busy-stops (suc n) s e = rw e

  -- there is one such number
  pub least-one : (n j k : ℕ) (s : State) → Least clock n j s → Least clock n k s → j ≡ k
  least-one n j k s p q = omega (arith, p.least k q.ends, q.least j p.ends)

  -- ---- ending there shows nowhere

  -- a still clock leaves state, samples and rises
  pub still-tick : (p : Point State Sample) → Still clock p.state → Same (tick clock p) p
  unfolding tick
  still-tick p h =
      record {
        state = h.state;
        samples = rw h.sample (append-nil p.stretch.samples);
        rises = rw h.rise (append-nil p.stretch.rises);
      }

  still-ticks : (k m : ℕ) (s : State) → ((j : ℕ) → k ≤ j → j < k + m → Still clock (after clock j s))
      → Same (ticks clock (k + m) (start s)) (ticks clock k (start s))
  unfolding ticks
  still-ticks k zero s h = rw add-zero (record { state = refl; samples = refl; rises = refl })
  still-ticks k (suc m) s h =
      rw add-suc (next (still-tick (ticks clock (k + m) (start s)) (h (k + m) (omega arith) (omega arith)))
      (still-ticks k m s (λ j p q. h j p (omega arith))))
    where
      next : {p q r : Point State Sample} → Same p q → Same q r → Same p r
      next a b = record { state = a.state ∙ b.state; samples = a.samples ∙ b.samples; rises = a.rises ∙ b.rises }

  -- a run that ends early leaves the state, the samples and the rises of the whole run
  pub ends_same : (n k : ℕ) (s : State) → Ends clock n k s → Same (ticks clock n (start s)) (ticks clock k (start s))
  ends_same n k s e =
      let q : k + (n - k) ≡ n = omega (arith, e.within) in
      rw q at (still-ticks k (n - k) s (λ j p l. e.still j p (omega (arith, e.within))))
