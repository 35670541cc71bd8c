-- C26: where each clock that alters something adds to a number that goes by state and samples, counting clock by clock and counting by
-- what a run comes to give the same.
use Prim.Native.Nat.{ℕ, zero, suc, ◌+◌, ◌-◌, ◌≤◌, ◌<◌}
use mathlib.Core.Path.{◌≡◌, refl, ap₂}
use mathlib.Core.Bool.{Bool, true, false, cond}
use mathlib.Core.List.{List}
use native.Mathlib.Omega.{arith}
use native.Mathlib.Nat.{add-zero, add-suc}
use native.Mathlib.Decide.{dec_lt}
use lib.ListN.{length, length-append}
use Rattle.cut.specs.Calls.{Point, start}
use Rattle.cut.specs.Machine.{Clocked, of_option, tick, ticks}
use Rattle.idle_runs.specs.Idle.{after, Tests, busy, Nets, LeastNet}
use Rattle.idle_runs.proofs.Busy.{after-suc, still-tick, ends_same, busy-least}

module _ {State Sample : Type 0} (clock : State → Clocked State Sample) (idle : State → Bool) (tests : Tests clock idle) where
  -- a number of a state and of how many samples there are, which each clock that alters something adds to; `Known` is what is known of the
  -- states
  pub record Rank (Known : State → Type 0) : Type 0 where
    pub rank : State → ℕ → ℕ
    pub keeps : (s : State) → Known s → Known (clock s).state
    pub grows : (s : State) (made : ℕ) → Known s → idle s ≡ false → rank s made < rank (clock s).state (made + length (of_option (clock s).sample))

  -- each clock that the loop makes alters something
  busy-alters : (n : ℕ) (s : State) (j : ℕ) → j < busy clock idle n s → idle (after clock j s) ≡ false
  unfolding busy ticks
  busy-alters zero s j h = absurd (omega arith)
  busy-alters (suc n) s zero h = go (idle s) refl h
    where
      go : (b : Bool) → idle s ≡ b → 0 < cond b 0 (suc (busy clock idle n (clock s).state)) → idle s ≡ false
      go true e h = absurd (omega arith)
      go false e h = e
  busy-alters (suc n) s (suc j) h = go (idle s) h (busy-alters n (clock s).state j)
    where
      go : (b : Bool) → suc j < cond b 0 (suc (busy clock idle n (clock s).state))
          → (j < busy clock idle n (clock s).state → idle (after clock j (clock s).state) ≡ false) → idle (after clock (suc j) s) ≡ false
      go true h ih = absurd (omega arith)
      go false h ih = rw (after-suc clock j s) (ih (omega arith))

  module _ (Known : State → Type 0) (r : Rank Known) where
    abbrev height : Point State Sample → ℕ
    height p = r.rank p.state (length p.stretch.samples)

    grown : (p : Point State Sample) → Known p.state → idle p.state ≡ false → height p < height (tick clock p)
    unfolding tick
    grown p k e =
        rw (height, length-append p.stretch.samples (of_option (clock p.state).sample))
        (r.grows p.state (length p.stretch.samples) k e)

    not_lower : (p : Point State Sample) → Known p.state → height p ≤ height (tick clock p)
    unfolding tick
    not_lower p k = go (idle p.state) refl
      where
        go : (b : Bool) → idle p.state ≡ b → height p ≤ height (tick clock p)
        go true e = let same = still-tick clock p (tests.yes-still p.state e) in rw (same.state, same.samples) (omega arith)
        go false e = omega (arith, grown p k e)

    known-after : (s : State) → Known s → (j : ℕ) → Known (after clock j s)
    unfolding ticks tick
    known-after s k zero = k
    known-after s k (suc j) = r.keeps (after clock j s) (known-after s k j)

    climbs : (s : State) → Known s → (j d : ℕ) → height (ticks clock j (start s)) ≤ height (ticks clock (j + d) (start s))
    unfolding ticks
    climbs s k j zero = rw add-zero (omega arith)
    climbs s k j (suc d) =
        rw add-suc (omega (arith, climbs s k j d, not_lower (ticks clock (j + d) (start s)) (known-after s k (j + d))))

    -- fewer clocks than the loop makes come to less
    net-first : (n : ℕ) (s : State) → Known s → (j : ℕ) → Nets clock n j s → busy clock idle n s ≤ j
    unfolding ticks
    net-first n s k j q = by (dec_lt j (busy clock idle n s))
      where
        by : Dec (j < busy clock idle n s) → busy clock idle n s ≤ j
        by (no h) = omega (arith, h)
        by (yes h) =
            let within = (busy-least clock idle tests n s).ends.within in
            let more = grown (ticks clock j (start s)) (known-after s k j) (busy-alters n s j h) in
            let e : suc j + (n - suc j) ≡ n = omega (arith, within) in
            let up : height (ticks clock (suc j) (start s)) ≤ height (ticks clock n (start s)) = rw e at (climbs s k (suc j) (n - suc j)) in
            let same : height (ticks clock n (start s)) ≡ height (ticks clock j (start s)) =
            ap₂ (λ (t : State) (l : List Sample). r.rank t (length l)) q.same.state q.same.samples in
            absurd (omega (arith, more, up, same))

    -- the loop's clocks are as few as come to what the whole run comes to
    pub busy-net : (n : ℕ) (s : State) → Known s → LeastNet clock n (busy clock idle n s) s
    busy-net n s k =
        let ends = (busy-least clock idle tests n s).ends in
        record { nets = record { within = ends.within; same = ends_same clock n _ s ends }; least = net-first n s k }
