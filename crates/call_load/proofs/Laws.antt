-- What an accepted load knows, and that a fresh memory has its sizes in range.
use Prim.Native.Nat.{ℕ, ◌+◌, ◌*◌, ◌/◌, ◌^◌, ◌≤◌, ◌<◌}
use mathlib.Core.Path.{◌≡◌, refl}
use mathlib.Core.Bool.{Bool, true, false, cond, ◌&&◌}
use native.Mathlib.Omega.{arith}
use borrow.Author.Rules.{rules}
use borrow.Author.Tests.{not-false, eqb-true, eqb-false, eq-eqb}
use lib.Dec.{eqb}
use Rattle.memory.specs.declared.layout.MemoryLayout.{MemoryLayout}
use Rattle.memory.specs.Layout.{within_limits, layout_of}
use Rattle.memory.specs.Range.{Sized}
use Rattle.memory_map.specs.Mirroring.{set_mirroring}
use Rattle.memory_map.specs.New.{unmapped_memory, new_memory}
use Rattle.memory.proofs.Laws.Layout.{layout-good}
use Rattle.board_state.specs.State.{mapper_ok}
use Rattle.call_refusals.specs.Refusals.{first_of, load_checks}
use Rattle.call_load.specs.Cartridge.{LoadFits, memory_at_load}
use Rattle.call_refusals.proofs.Laws.{accepted-none}

pub sized-load : (mapper : ℕ) (sizes : MemoryLayout) → LoadFits mapper sizes → Sized (memory_at_load mapper sizes)
unfolding memory_at_load new_memory set_mirroring unmapped_memory layout_of
sized-load mapper sizes h = record { layout = layout-good sizes h.within; used = go (eqb mapper 19) refl }
  where
    go : (t : Bool) → eqb mapper 19 ≡ t → cond t 128 0 ≤ 1024 * ((sizes.battery_ext + 1023) / 1024)
    go true e = let r = h.reserve (eqb-true mapper 19 e) in omega arith
    go false e = omega arith

-- a mapper number, and sizes that fit it
pub record LoadGood (mapper : ℕ) (sizes : MemoryLayout) : Type 0 where
  pub small : mapper < 2 ^ 16
  pub fits : LoadFits mapper sizes

pub load-good : (mapper : ℕ) (sizes : MemoryLayout) (len : ℕ) → first_of (load_checks mapper sizes len) ≡ 0 → LoadGood mapper sizes
load-good mapper sizes len e =
    let h = accepted-none (load_checks mapper sizes len) (search rules) e in
    record {
      small = number (eqb mapper 19) refl (not-false (mapper_ok mapper) h.0);
      fits =
          record {
            within = not-false (within_limits sizes) h.1.0;
            reserve = λ q. some (eqb sizes.battery_ext 0) refl h.1.1.0 q;
          };
    }
  where
    number : (t : Bool) → eqb mapper 19 ≡ t → mapper_ok mapper ≡ true → mapper < 2 ^ 16
    number true q m = omega (arith, eqb-true mapper 19 q)
    number false q m = omega (arith, eqb-true mapper 210 (rw q at m))

    some : (t : Bool) → eqb sizes.battery_ext 0 ≡ t → eqb mapper 19 && eqb sizes.battery_ext 0 ≡ false → mapper ≡ 19
        → 1 ≤ sizes.battery_ext
    some true p c q = let z = rw (eq-eqb mapper 19 q, p) at c in let y : ◌≡◌ {A = ℕ} 0 1 = cc in absurd (omega arith)
    some false p c q = let n = eqb-false sizes.battery_ext 0 p in nonzero sizes.battery_ext n
      where
        nonzero : (k : ℕ) → (k ≡ 0 → ⊥) → 1 ≤ k
        nonzero k n = omega (arith, n)
