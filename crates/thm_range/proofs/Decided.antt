-- N0, both ways: checks whose numbers rise are decided. A call is accepted exactly where none of its conditions holds, and refused by a
-- number exactly where that number's condition is the first that holds. Assumes nothing.
use Prim.Native.Nat.{ℕ, ◌<◌}
use mathlib.Core.Path.{◌≡◌, refl}
use mathlib.Core.Bool.{Bool, true, false, cond}
use mathlib.Core.List.{List, [], ◌∷◌, ◌++◌}
use mathlib.Core.Logic.{◌⊎◌, inl, inr, ◌↔◌}
use native.Mathlib.Omega.{arith}
use borrow.Author.Tests.{eq-eqb, ne_eqb}
use Rattle.memory.specs.declared.layout.MemoryLayout.{MemoryLayout}
use Rattle.memory.specs.declared.layout.Src.{Src}
use Rattle.memory.specs.Layout.{layout_of, arena_len}
use Rattle.board_state.specs.declared.State.{State}
use Rattle.call_refusals.specs.Refusals.{Check, first_of, state_checks, reset_checks, arena_checks, cpu_checks, fill_checks, battery_checks}
use Rattle.call_refusals.specs.Refusals.{load_checks}
use Rattle.call_load.specs.Cartridge.{LoadFits}
use Rattle.call_refusals.proofs.Laws.{Numbered, NoneHolds, accepted-none, none-accepted, refused-first}

pub record Decided (cs : List Check) : Type 0 where
  pub accepted : (first_of cs ≡ 0) ↔ NoneHolds cs
  pub refused : (before after : List Check) (c : Check) → cs ≡ before ++ c ∷ after
      → (first_of cs ≡ c.number) ↔ (NoneHolds before × (c.holds ≡ true))

-- ---- numbers that rise

abbrev pub Rising : ℕ → List Check → Type 0
Rising k [] = Unit
Rising k (c ∷ cs) = (k < c.number) × Rising c.number cs

rising-numbered : (k : ℕ) (cs : List Check) → Rising k cs → Numbered cs
rising-numbered k [] r = tt
rising-numbered k (c ∷ cs) r = (omega (arith, r.0), rising-numbered c.number cs r.1)

rising-later : (k : ℕ) (before after : List Check) (c : Check) → Rising k (before ++ c ∷ after) → k < c.number
rising-later k [] after c r = r.0
rising-later k (b ∷ before) after c r = omega (arith, r.0, rising-later b.number before after c r.1)

-- the first number is above those that stand before
first_above : (k : ℕ) (cs : List Check) → Rising k cs → (first_of cs ≡ 0) ⊎ (k < first_of cs)
unfolding first_of
first_above k [] r = inl refl
first_above k (c ∷ cs) r = go c.holds (first_above c.number cs r.1)
  where
    go : (t : Bool) → (first_of cs ≡ 0) ⊎ (c.number < first_of cs)
        → (cond t c.number (first_of cs) ≡ 0) ⊎ (k < cond t c.number (first_of cs))
    go true ih = inr r.0
    go false (inl e) = inl e
    go false (inr l) = inr (omega (arith, r.0, l))

first-is : (k : ℕ) (before after : List Check) (c : Check) → Rising k (before ++ c ∷ after) → first_of (before ++ c ∷ after) ≡ c.number
    → NoneHolds before × (c.holds ≡ true)
unfolding first_of
first-is k [] after c r e = (tt, go c.holds refl (first_above c.number after r.1) e)
  where
    go : (t : Bool) → c.holds ≡ t → (first_of after ≡ 0) ⊎ (c.number < first_of after) → cond t c.number (first_of after) ≡ c.number
        → c.holds ≡ true
    go true q a e = q
    go false q (inl z) e = absurd (omega (arith, r.0, z, e))
    go false q (inr l) e = absurd (omega (arith, l, e))
first-is k (b ∷ before) after c r e = go b.holds refl (first-is b.number before after c r.1) e
  where
    go : (t : Bool) → b.holds ≡ t → (first_of (before ++ c ∷ after) ≡ c.number → NoneHolds before × (c.holds ≡ true))
        → cond t b.number (first_of (before ++ c ∷ after)) ≡ c.number → ((b.holds ≡ false) × NoneHolds before) × (c.holds ≡ true)
    go true q ih e = absurd (omega (arith, rising-later b.number before after c r.1, e))
    go false q ih e = let h = ih e in ((q, h.0), h.1)

pub decided : (cs : List Check) → Rising 0 cs → Decided cs
decided cs r =
    record {
      accepted = (accepted-none cs (rising-numbered 0 cs r), none-accepted cs);
      refused = λ before after c e. by before after c e;
    }
  where
    by : (before after : List Check) (c : Check) → cs ≡ before ++ c ∷ after
        → (first_of cs ≡ c.number) ↔ (NoneHolds before × (c.holds ≡ true))
    by before after c e = rw e (first-is 0 before after c (rw e at r), (λ h. refused-first before after c h.0 h.1))

-- ---- the checks of each call: N20

pub state-decided : (s : State) → Decided (state_checks s)
state-decided s = decided _ (omega arith, tt)

pub reset-decided : (s : State) (kind : ℕ) → Decided (reset_checks s kind)
reset-decided s kind = decided _ (omega arith, (omega arith, tt))

pub arena-decided : (s : State) (len : ℕ) → Decided (arena_checks s len)
arena-decided s len = decided _ (omega arith, (omega arith, tt))

pub cpu-decided : (s : State) (len addr : ℕ) → Decided (cpu_checks s len addr)
cpu-decided s len addr = decided _ (omega arith, (omega arith, (omega arith, tt)))

pub fill-decided : (s : State) (len : ℕ) (src : Src) (n : ℕ) → Decided (fill_checks s len src n)
fill-decided s len src n = decided _ (omega arith, (omega arith, (omega arith, tt)))

pub battery-decided : (s : State) (len : ℕ) → Decided (battery_checks s len)
battery-decided s len = decided _ (omega arith, (omega arith, (omega arith, tt)))

pub load-decided : (mapper : ℕ) (sizes : MemoryLayout) (len : ℕ) → Decided (load_checks mapper sizes len)
load-decided mapper sizes len = decided _ (omega arith, (omega arith, (omega arith, (omega arith, tt))))

-- ---- what a load asks, as facts: with these it is accepted

pub load-accepts : (mapper : ℕ) (sizes : MemoryLayout) (len : ℕ) → (mapper ≡ 19) ⊎ (mapper ≡ 210) → LoadFits mapper sizes
    → len ≡ arena_len (layout_of sizes)
    → first_of (load_checks mapper sizes len) ≡ 0
unfolding first_of
load-accepts mapper sizes len (inl e) f l =
    let r = f.reserve e in
    rw (e, f.within, ne_eqb sizes.battery_ext 0 (λ z. omega (arith, r, z)), eq-eqb len (arena_len (layout_of sizes)) l)
load-accepts mapper sizes len (inr e) f l = rw (e, f.within, eq-eqb len (arena_len (layout_of sizes)) l)
