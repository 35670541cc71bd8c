-- N2 to N9 and N12, both ways: a call answers the number exactly where its condition holds and none of those that the call checks before
-- it. `refused-2` and `refused-7` are about every list that begins with these checks, the others about the checks of their calls. N1 is in
-- Images.antt, N10 and N11 are in Runs.antt. Assumes nothing.
use Prim.Native.Nat.{ℕ, ◌<◌}
use mathlib.Core.Path.{◌≡◌, refl}
use mathlib.Core.Bool.{Bool, true, false, not, ◌&&◌}
use mathlib.Core.List.{List, [], ◌∷◌, ◌++◌}
use mathlib.Core.Logic.{◌↔◌}
use borrow.Author.Tests.{not-false, not-true, eq-eqb, ne_eqb, eqb-true, eqb-false, lt-ltb, ltb-true}
use lib.Dec.{eqb}
use Rattle.memory.specs.declared.layout.MemoryLayout.{MemoryLayout}
use Rattle.memory.specs.declared.layout.Src.{Src}
use Rattle.memory.specs.Layout.{within_limits, layout_of, arena_len}
use Rattle.memory.specs.Memory.{region_in}
use Rattle.board_state.specs.declared.State.{State}
use Rattle.board_state.specs.State.{mapper_ok, in_range}
use Rattle.limits.proofs.Every.{and_left, and_right, both}
use Rattle.call_refusals.specs.Refusals.{Check, first_of, state_check, kind_check, mapper_check, sizes_check, reserve_check, arena_check}
use Rattle.call_refusals.specs.Refusals.{address_check, fill_check, battery_check, reset_checks, arena_checks, cpu_checks, fill_checks}
use Rattle.call_refusals.specs.Refusals.{battery_checks, load_checks}
use Rattle.thm_range.proofs.Decided.{Decided, reset-decided, cpu-decided, fill-decided, battery-decided, load-decided}

-- what a test says of its negation
passes : (b : Bool) → b ≡ true → not b ≡ false
passes b h = rw h

fails : (b : Bool) → b ≡ false → not b ≡ true
fails b h = rw h

-- N2: in every call whose first check is the state's
pub refused-2 : (s : State) (rest : List Check) → Decided (state_check s ∷ rest)
    → (first_of (state_check s ∷ rest) ≡ 2) ↔ (in_range s ≡ false)
refused-2 s rest d =
    let r = d.refused [] rest (state_check s) refl in
    ((λ e. not-true (in_range s) (r.0 e).1), (λ h. r.1 (tt, rw h)))

-- N3
pub refused-3 : (s : State) (kind : ℕ) → (first_of (reset_checks s kind) ≡ 3) ↔ ((in_range s ≡ true) × (1 < kind))
refused-3 s kind =
    let r = (reset-decided s kind).refused (state_check s ∷ []) [] (kind_check kind) refl in (
      (λ e. let h = r.0 e in (not-false (in_range s) h.0.0, ltb-true 1 kind h.1)),
      (λ h. r.1 ((rw h.0, tt), lt-ltb 1 kind h.1)),
    )

-- N4
pub refused-4 : (mapper : ℕ) (sizes : MemoryLayout) (len : ℕ) → (first_of (load_checks mapper sizes len) ≡ 4) ↔ (mapper_ok mapper ≡ false)
refused-4 mapper sizes len =
    let r = (load-decided mapper sizes len).refused []
    (sizes_check sizes ∷ reserve_check mapper sizes ∷ arena_check (arena_len (layout_of sizes)) len ∷ []) (mapper_check mapper) refl in
    ((λ e. not-true (mapper_ok mapper) (r.0 e).1), (λ h. r.1 (tt, fails (mapper_ok mapper) h)))

-- N5
pub refused-5 : (mapper : ℕ) (sizes : MemoryLayout) (len : ℕ)
    → (first_of (load_checks mapper sizes len) ≡ 5) ↔ ((mapper_ok mapper ≡ true) × (within_limits sizes ≡ false))
refused-5 mapper sizes len =
    let r = (load-decided mapper sizes len).refused (mapper_check mapper ∷ [])
    (reserve_check mapper sizes ∷ arena_check (arena_len (layout_of sizes)) len ∷ []) (sizes_check sizes) refl in (
      (λ e. let h = r.0 e in (not-false (mapper_ok mapper) h.0.0, not-true (within_limits sizes) h.1)),
      (λ h. r.1 ((passes (mapper_ok mapper) h.0, tt), rw h.1)),
    )

-- N6
pub refused-6 : (mapper : ℕ) (sizes : MemoryLayout) (len : ℕ)
    → (first_of (load_checks mapper sizes len) ≡ 6) ↔ ((within_limits sizes ≡ true) × ((mapper ≡ 19) × (sizes.battery_ext ≡ 0)))
refused-6 mapper sizes len =
    let r = (load-decided mapper sizes len).refused (mapper_check mapper ∷ sizes_check sizes ∷ [])
    (arena_check (arena_len (layout_of sizes)) len ∷ []) (reserve_check mapper sizes) refl in (
      (λ e.
          let h = r.0 e in (
            not-false (within_limits sizes) h.0.1.0,
            (
              eqb-true mapper 19 (and_left (eqb mapper 19) _ h.1),
              eqb-true sizes.battery_ext 0 (and_right (eqb mapper 19) _ h.1),
            ),
          )),
      (λ h. r.1 (
        (rw h.1.0, (rw h.0, tt)),
        both (eqb mapper 19) _ (eq-eqb mapper 19 h.1.0) (eq-eqb sizes.battery_ext 0 h.1.1),
      )),
    )

-- N7: in every call that takes state and arena
pub refused-7 : (s : State) (len : ℕ) (rest : List Check)
    → Decided (state_check s ∷ arena_check (arena_len s.memory.layout) len ∷ rest)
    → (first_of (state_check s ∷ arena_check (arena_len s.memory.layout) len ∷ rest) ≡ 7)
    ↔ ((in_range s ≡ true) × (len ≡ arena_len s.memory.layout → ⊥))
refused-7 s len rest d =
    let long = arena_len s.memory.layout in
    let r = d.refused (state_check s ∷ []) rest (arena_check long len) refl in (
      (λ e. let h = r.0 e in (not-false (in_range s) h.0.0, eqb-false len long (not-true (eqb len long) h.1))),
      (λ h. r.1 ((rw h.0, tt), rw (ne_eqb len long h.1))),
    )

-- N7 in a load
pub load-refused-7 : (mapper : ℕ) (sizes : MemoryLayout) (len : ℕ)
    → (first_of (load_checks mapper sizes len) ≡ 7)
    ↔ (((mapper_ok mapper ≡ true) × ((within_limits sizes ≡ true) × (eqb mapper 19 && eqb sizes.battery_ext 0 ≡ false)))
    × (len ≡ arena_len (layout_of sizes) → ⊥))
load-refused-7 mapper sizes len =
    let long = arena_len (layout_of sizes) in
    let r = (load-decided mapper sizes len).refused (mapper_check mapper ∷ sizes_check sizes ∷ reserve_check mapper sizes ∷ []) []
    (arena_check long len) refl in (
      (λ e.
          let h = r.0 e in (
            (not-false (mapper_ok mapper) h.0.0, (not-false (within_limits sizes) h.0.1.0, h.0.1.1.0)),
            eqb-false len long (not-true (eqb len long) h.1),
          )),
      (λ h. r.1 ((passes (mapper_ok mapper) h.0.0, (rw h.0.1.0, (h.0.1.1, tt))), rw (ne_eqb len long h.1))),
    )

-- a state in range and an arena of its layout's length: the checks before N8, N9 and N12
module _ (s : State) (len : ℕ) where
  abbrev Fits : Type 0
  Fits = (in_range s ≡ true) × (len ≡ arena_len s.memory.layout)

  -- a check behind those of state and arena
  behind : (c : Check) → Decided (arena_checks s len ++ c ∷ [])
      → (first_of (arena_checks s len ++ c ∷ []) ≡ c.number) ↔ (Fits × (c.holds ≡ true))
  behind c d =
      let long = arena_len s.memory.layout in
      let r = d.refused (arena_checks s len) [] c refl in (
        (λ e. let h = r.0 e in ((not-false (in_range s) h.0.0, eqb-true len long (not-false (eqb len long) h.0.1.0)), h.1)),
        (λ h. r.1 ((rw h.0.0, (rw (eq-eqb len long h.0.1), tt)), h.1)),
      )

  -- N8
  pub refused-8 : (addr : ℕ) → (first_of (cpu_checks s len addr) ≡ 8) ↔ (Fits × (addr < 0x4800))
  refused-8 addr =
      let r = behind (address_check addr) (cpu-decided s len addr) in
      ((λ e. ((r.0 e).0, ltb-true addr 0x4800 (r.0 e).1)), (λ h. r.1 (h.0, lt-ltb addr 0x4800 h.1)))

  -- N9
  pub refused-9 : (src : Src) (n : ℕ) → (first_of (fill_checks s len src n) ≡ 9) ↔ (Fits × ((region_in s.memory src).len < n))
  refused-9 src n =
      let region = (region_in s.memory src).len in
      let r = behind (fill_check s src n) (fill-decided s len src n) in
      ((λ e. ((r.0 e).0, ltb-true region n (r.0 e).1)), (λ h. r.1 (h.0, lt-ltb region n h.1)))

  -- N12
  pub refused-12 : (first_of (battery_checks s len) ≡ 12) ↔ (Fits × (s.memory.battery_ext_len ≡ 0))
  refused-12 =
      let used = s.memory.battery_ext_len in
      let r = behind (battery_check s) (battery-decided s len) in
      ((λ e. ((r.0 e).0, eqb-true used 0 (r.0 e).1)), (λ h. r.1 (h.0, eq-eqb used 0 h.1)))
