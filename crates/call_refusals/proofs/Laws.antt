-- N0: a call is accepted exactly where none of its conditions holds, and a condition that is the first to hold gives its number. That a
-- number is answered only there is in thm_range/proofs/Decided.antt.
use Prim.Native.Nat.{ℕ, ◌+◌, ◌≤◌, ◌<◌}
use mathlib.Core.Path.{◌≡◌, refl, sym, ◌∙◌}
use mathlib.Core.Bool.{Bool, true, false, cond}
use mathlib.Core.List.{List, [], ◌∷◌, ◌++◌}
use native.Mathlib.Omega.{arith}
use borrow.Author.Rules.{rules}
use borrow.Author.Tests.{not-false, ne_eqb, eqb-true, eqb-false, ltb-false}
use mathlib.Core.Logic.{◌⊎◌, inl, inr}
use lib.Dec.{eqb}
use mir.Val.{Val}
use denote.Laws.{Is}
use lib.ListN.{length}
use Rattle.memory.specs.declared.layout.Src.{Src}
use Rattle.memory.specs.declared.layout.Src.TheVariants.{BatteryExt}
use Rattle.memory.specs.Layout.{region_of, arena_len}
use Rattle.memory.proofs.Laws.Layout.{region-in}
use Rattle.memory.specs.Memory.{region_in}
use Rattle.memory_bytes.specs.Bytes.{Backed}
use Rattle.board_state.specs.declared.State.{State}
use Rattle.board_state.specs.State.{in_range, Known}
use Rattle.board_state.proofs.Range.{memory-good, known}
use Rattle.refusals.specs.declared.Refusal.{Refusal}
use Rattle.refusals.specs.declared.Refusal.TheVariants as Because
use Rattle.refusals.specs.Refusal.{number_of}
use Rattle.refusals.proofs.Numbers.{numbered}
use Rattle.call_refusals.specs.declared.known.KnownState.{KnownState}
use Rattle.call_refusals.specs.contracts.known.KnownState as Row
use Rattle.call_refusals.specs.Refusals.{Check, first_of, unless_refused, state_check, state_checks, arena_checks, cpu_checks, fill_checks}
use Rattle.call_refusals.specs.Refusals.{battery_checks}

-- ---- any list of checks

-- each has a number other than 0, so that 0 says accepted
abbrev pub Numbered : List Check → Type 0
Numbered [] = Unit
Numbered (c ∷ cs) = (0 < c.number) × Numbered cs

-- none of the conditions holds
abbrev pub NoneHolds : List Check → Type 0
NoneHolds [] = Unit
NoneHolds (c ∷ cs) = (c.holds ≡ false) × NoneHolds cs

pub accepted-none : (cs : List Check) → Numbered cs → first_of cs ≡ 0 → NoneHolds cs
unfolding first_of
accepted-none [] n e = tt
accepted-none (c ∷ cs) n e = go c.holds refl (accepted-none cs n.1) e
  where
    go : (t : Bool) → c.holds ≡ t → (first_of cs ≡ 0 → NoneHolds cs) → cond t c.number (first_of cs) ≡ 0 → (c.holds ≡ false)
        × NoneHolds cs
    go true q ih e = absurd (omega (arith, n.0, e))
    go false q ih e = (q, ih e)

pub none-accepted : (cs : List Check) → NoneHolds cs → first_of cs ≡ 0
unfolding first_of
none-accepted [] h = refl
none-accepted (c ∷ cs) h = rw h.0 (none-accepted cs h.1)

-- a condition that holds, where none before it does, gives its number
pub refused-first : (before after : List Check) (c : Check) → NoneHolds before → c.holds ≡ true → first_of (before ++ c ∷ after)
    ≡ c.number
unfolding first_of
refused-first [] after c h e = rw e
refused-first (b ∷ before) after c h e = rw h.0 (refused-first before after c h.1 e)

-- more checks behind those that none holds of, and behind those that one holds of
pub first_more : (before after : List Check) → NoneHolds before → first_of (before ++ after) ≡ first_of after
unfolding first_of
first_more [] after h = refl
first_more (b ∷ before) after h = rw h.0 (first_more before after h.1)

pub first_done : (before after : List Check) → (first_of before ≡ 0 → ⊥) → first_of (before ++ after) ≡ first_of before
unfolding first_of
first_done [] after h = absurd (h refl)
first_done (b ∷ before) after h = go b.holds (first_done before after) h
  where
    go : (t : Bool) → ((first_of before ≡ 0 → ⊥) → first_of (before ++ after) ≡ first_of before)
        → (cond t b.number (first_of before) ≡ 0 → ⊥)
        → cond t b.number (first_of (before ++ after)) ≡ cond t b.number (first_of before)
    go true ih h = refl
    go false ih h = ih h

-- ---- what a call gives by its checks: refused, accepted, and the number that it answers

module _ {A : Type 0} (cs : List Check) (r : ℕ → A) (a : A) where
  pub refused-is : (first_of cs ≡ 0 → ⊥) → unless_refused cs r a ≡ r (first_of cs)
  refused-is h = rw (ne_eqb (first_of cs) 0 h)

  pub accepted-is : first_of cs ≡ 0 → unless_refused cs r a ≡ a
  accepted-is e = rw e

  pub number_is : (f : A → ℕ) → f a ≡ 0 → ((q : ℕ) → f (r q) ≡ q) → f (unless_refused cs r a) ≡ first_of cs
  number_is f ea er = go (eqb (first_of cs) 0) refl
    where
      go : (t : Bool) → eqb (first_of cs) 0 ≡ t → f (cond t a (r (first_of cs))) ≡ first_of cs
      go true e = ea ∙ sym (eqb-true (first_of cs) 0 e)
      go false e = er (first_of cs)

-- the state's check comes first
pub unknown : (s : State) (cs : List Check) (e : Refusal) → (e ≡ Because.State) × (in_range s ≡ false)
    → number_of e ≡ first_of (state_check s ∷ cs)
unfolding first_of
unknown s cs e h = rw (h.0, h.1)

-- a state that passed it
pub known-range : {s : State} (k : KnownState) → k.state ≡ s → in_range s ≡ true
known-range k e = rw (← e) k.in_range

-- all that is known of one that is owned
pub known-state : (k : KnownState) (vs : List Val) → Is Row.the_row k vs → Known k.state
known-state k vs is = known k.state _ is.1.1.0 k.in_range

-- ---- the arena's checks and one more behind them, as the code makes them

none-of-arena : (s : State) (len : ℕ) → first_of (arena_checks s len) ≡ 0 → NoneHolds (arena_checks s len)
none-of-arena s len e = accepted-none (arena_checks s len) (search rules) e

module _ (s : State) (len : ℕ) (last : Check) where
  -- one of the arena's refuses
  pub arena-refuses : (r : Refusal) → number_of r ≡ first_of (arena_checks s len) → number_of r ≡ first_of (arena_checks s len ++ last ∷ [])
  arena-refuses r e = e ∙ sym (first_done (arena_checks s len) (last ∷ []) (λ z. numbered r (e ∙ z)))

  -- none does, and the last check refuses
  pub last-refuses : 0 ≡ first_of (arena_checks s len) → last.holds ≡ true → last.number ≡ first_of (arena_checks s len ++ last ∷ [])
  last-refuses z h = sym (refused-first (arena_checks s len) [] last (none-of-arena s len (sym z)) h)

  -- none does
  pub last-passes : 0 ≡ first_of (arena_checks s len) → last.holds ≡ false → 0 ≡ first_of (arena_checks s len ++ last ∷ [])
  unfolding first_of
  last-passes z h = rw (first_more (arena_checks s len) (last ∷ []) (none-of-arena s len (sym z)), h)

-- ---- what an accepted call knows

pub state-good : (s : State) → first_of (state_checks s) ≡ 0 → in_range s ≡ true
state-good s e = not-false (in_range s) (accepted-none (state_checks s) (search rules) e).0

-- a memory in range and an arena of its layout's length
pub record Arena (s : State) (len : ℕ) : Type 0 where
  pub good : in_range s ≡ true
  pub long : len ≡ arena_len s.memory.layout

arena-none : (s : State) (len : ℕ) → NoneHolds (arena_checks s len) → Arena s len
arena-none s len h =
    record {
      good = not-false (in_range s) h.0;
      long = eqb-true len (arena_len s.memory.layout) (not-false (eqb len (arena_len s.memory.layout)) h.1.0);
    }

pub arena-good : (s : State) (len : ℕ) → first_of (arena_checks s len) ≡ 0 → Arena s len
arena-good s len e = arena-none s len (none-of-arena s len e)

pub cpu-good : (s : State) (len addr : ℕ) → first_of (cpu_checks s len addr) ≡ 0 → Arena s len × (0x4800 ≤ addr)
cpu-good s len addr e =
    let h = accepted-none (cpu_checks s len addr) (search rules) e in
    (arena-none s len (h.0, (h.1.0, tt)), ltb-false addr 0x4800 h.1.1.0)

pub fill-good : (s : State) (len : ℕ) (src : Src) (n : ℕ) → first_of (fill_checks s len src n) ≡ 0
    → Arena s len × (n ≤ (region_in s.memory src).len)
fill-good s len src n e =
    let h = accepted-none (fill_checks s len src n) (search rules) e in
    (arena-none s len (h.0, (h.1.0, tt)), ltb-false (region_in s.memory src).len n h.1.1.0)

pub backed : (s : State) (arena : List ℕ) → Arena s (length arena) → Backed s.memory arena
backed s arena h = record { ranged = (memory-good s h.good).ranged; long = h.long }

-- the battery's 128 bytes lie in the arena
pub record Battery (s : State) (len : ℕ) : Type 0 where
  pub arena : Arena s len
  pub inside : (region_in s.memory BatteryExt).start + 128 ≤ len

pub battery-good : (s : State) (len : ℕ) → first_of (battery_checks s len) ≡ 0 → Battery s len
unfolding region_of arena_len
battery-good s len e =
    let h = accepted-none (battery_checks s len) (search rules) e in
    let a = arena-none s len (h.0, (h.1.0, tt)) in
    let m = memory-good s a.good in
    let r = region-in s.memory.layout s.memory.battery_ext_len BatteryExt m.ranged.sized.used in
    record { arena = a; inside = fits m.used (eqb-false s.memory.battery_ext_len 0 h.1.1.0) r a.long }
  where
    fits : (s.memory.battery_ext_len ≡ 0) ⊎ ((s.memory.battery_ext_len ≡ 128) × (1 ≤ s.memory.layout.battery_ext))
        → (s.memory.battery_ext_len ≡ 0 → ⊥)
        → (region_in s.memory BatteryExt).start + (region_in s.memory BatteryExt).len ≤ arena_len s.memory.layout
        → len ≡ arena_len s.memory.layout
        → (region_in s.memory BatteryExt).start + 128 ≤ len
    fits (inl z) n r l = absurd (n z)
    fits (inr u) n r l = omega (arith, u.0, r, l)
