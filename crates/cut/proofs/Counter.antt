-- Clocks that rise at most once in a run.
use Prim.Native.Nat.{ℕ, zero, suc, ◌≤◌}
use mathlib.Core.Path.{◌≡◌, refl, sym, ◌∙◌}
use mathlib.Core.Bool.{Bool, true, false, cond}
use mathlib.Core.List.{[], ◌∷◌, ◌++◌, append-nil}
use mathlib.Core.Logic.{◌⊎◌, inl, inr}
use native.Mathlib.Omega.{arith}
use lib.Dec.{eqb}
use lib.ListN.{length}
use borrow.Author.Tests.{eqb-true}
use Rattle.cut.specs.Calls.{Point, start}
use Rattle.cut.specs.Machine.{Clocked, tick, ticks}
use Rattle.cut.specs.Counter.{Counter, moves, next_counter, rises_from}

true-false : {A : Type 0} → ◌≡◌ {A = Bool} true false → A
true-false e = let z : ◌≡◌ {A = ℕ} 0 1 = cc in absurd (omega arith)

-- a clock after whose rises some fact holds that clocks keep and under which none is a rise
module _ {State Sample : Type 0} (clock : State → Clocked State Sample) (Stopped : State → Type 0)
    (risen : (s : State) → (clock s).rise ≡ true → Stopped (clock s).state) (stays : (s : State) → Stopped s → Stopped (clock s).state)
    (quiet : (s : State) → Stopped s → (clock s).rise ≡ false) where
  none-or-stopped : (n : ℕ) (s : State)
      → let t = ticks clock n (start s) in (t.stretch.rises ≡ []) ⊎ ((length t.stretch.rises ≤ 1) × Stopped t.state)
  unfolding ticks tick
  none-or-stopped zero s = inl refl
  none-or-stopped (suc n) s = go (clock t.state).rise refl (none-or-stopped n s)
    where
      t : Point State Sample
      t = ticks clock n (start s)

      go : (b : Bool) → (clock t.state).rise ≡ b
          → (t.stretch.rises ≡ []) ⊎ ((length t.stretch.rises ≤ 1) × Stopped t.state)
          → (t.stretch.rises ++ cond b (suc t.count ∷ []) [] ≡ [])
          ⊎ ((length (t.stretch.rises ++ cond b (suc t.count ∷ []) []) ≤ 1) × Stopped (clock t.state).state)
      go true e (inl z) = inr (rw z (omega arith), risen t.state e)
      go true e (inr w) = true-false (sym e ∙ quiet t.state w.1)
      go false e (inl z) = inl (rw z)
      go false e (inr w) = inr (rw append-nil w.0, stays t.state w.1)

  pub at_most_one : (n : ℕ) (s : State) → length (ticks clock n (start s)).stretch.rises ≤ 1
  at_most_one n s = go (none-or-stopped n s)
    where
      go : let t = ticks clock n (start s) in
          (t.stretch.rises ≡ []) ⊎ ((length t.stretch.rises ≤ 1) × Stopped t.state) → length t.stretch.rises ≤ 1
      go (inl z) = rw z (omega arith)
      go (inr w) = w.0

-- the counter of 19 and 210: it stops at FFFF
at-end : (c : ℕ) → rises_from c ≡ true → next_counter c ≡ 0xFFFF
unfolding rises_from
at-end c e = go (moves c) e
  where
    go : (b : Bool) → cond b (eqb (next_counter c) 0xFFFF) false ≡ true → next_counter c ≡ 0xFFFF
    go true e = eqb-true (next_counter c) 0xFFFF e
    go false e = true-false (sym e)

pub counter-once : {State Sample : Type 0} (clock : State → Clocked State Sample) → Counter clock
    → (n : ℕ) (s : State) → length (ticks clock n (start s)).stretch.rises ≤ 1
unfolding rises_from next_counter moves
counter-once clock c =
    at_most_one
    clock
    (λ s. c.counter s ≡ 0xFFFF)
    (λ s e. c.counts s ∙ at-end (c.counter s) (sym (c.rises s) ∙ e))
    (λ s h. rw (c.counts s, h))
    (λ s h. rw (c.rises s, h))
