-- A CPU write with a directory by its answer r: refused, with all as it was, or the write's own.
use Prim.Native.Nat.{ℕ}
use mathlib.Core.Path.{◌≡◌, refl, sym, ap, ◌∙◌}
use mathlib.Core.Bool.{Bool, true, false}
use mathlib.Core.List.{List, []}
use native.Mathlib.Omega.{arith}
use lib.ListN.{length}
use Rattle.board_state.specs.declared.State.{State}
use Rattle.call_refusals.specs.Refusals.{Check, first_of, unless_refused, cpu_checks}
use Rattle.call_cpu.specs.Calls.{WriteAnswer}
use Rattle.call_cpu.specs.Calls.{refused_write, cpu_write, cpu_write_arena}
use Rattle.directory.specs.Fit.{fit}
use Rattle.call_blocks.specs.Blocks.{with_directory, cpu_write_answer, cpu_write_leaves}
use Rattle.call_blocks.proofs.Laws.{unfit-number, fit-number, given-unfit, given-fit, write-number}
use Rattle.host_state.specs.HostState.{unaltered, write_gives}
use Rattle.host_state.proofs.Laws.{Called, called, write_left, write_kept}

abbrev refusal : WriteAnswer → ℕ
refusal w = w.refusal

module _ (d : List ℕ) (s : State) (img arena : List ℕ) (addr v : ℕ) (r : WriteAnswer) (e : r ≡ cpu_write_answer d s arena addr v) where
  abbrev own : List Check
  own = cpu_checks s (length arena) addr

  -- the number that it answers
  pub number : r.refusal ≡ first_of (with_directory d (cpu_checks s (length arena) addr))
  unfolding cpu_write_answer
  number = ap refusal e ∙ go (fit d) refl
    where
      go : (f : Bool) → fit d ≡ f
          → (unless_refused (with_directory d []) (refused_write s) (cpu_write s arena addr v)).refusal ≡ first_of (with_directory d own)
      go true f = ap refusal (given-fit d (refused_write s) _ f) ∙ write-number s arena addr v ∙ sym (fit-number d own f)
      go false f = ap refusal (given-unfit d [] (refused_write s) _ f) ∙ sym (unfit-number d own f)

  -- accepted: the directory is fit, and the answer is that of the write without one
  pub fit-here : r.refusal ≡ 0 → fit d ≡ true
  fit-here z = go (fit d) refl
    where
      go : (f : Bool) → fit d ≡ f → f ≡ true
      go true f = refl
      go false f = absurd (omega (arith, sym (unfit-number d own f), number, z))

  pub own-write : r.refusal ≡ 0 → r ≡ cpu_write s arena addr v
  unfolding cpu_write_answer
  own-write z = e ∙ given-fit d (refused_write s) _ (fit-here z)

  pub own-none : r.refusal ≡ 0 → first_of (cpu_checks s (length arena) addr) ≡ 0
  own-none z = sym (fit-number d own (fit-here z)) ∙ sym number ∙ z

  -- the arena afterwards
  pub arena-after : r.refusal ≡ 0 → cpu_write_leaves d s arena addr v ≡ cpu_write_arena s arena addr v
  unfolding cpu_write_leaves
  arena-after z = given-fit d (λ q. arena) _ (fit-here z)

  pub arena-kept : (r.refusal ≡ 0 → ⊥) → cpu_write_leaves d s arena addr v ≡ arena
  unfolding cpu_write_leaves
  arena-kept h = go (fit d) refl
    where
      go : (f : Bool) → fit d ≡ f → unless_refused (with_directory d []) (λ q. arena) (cpu_write_arena s arena addr v) ≡ arena
      go true f = given-fit d (λ q. arena) _ f ∙ write_kept s arena addr v (λ z. h (number ∙ fit-number d own f ∙ z))
      go false f = given-unfit d [] (λ q. arena) _ f

  pub blocks-called : let given = write_gives (length img) s arena addr v in
      Called (with_directory d (cpu_checks s (length arena) addr)) img arena given given r.refusal
  blocks-called = called _ img arena _ _ _ number refl

  -- accepted, what the write left
  pub left : r.refusal ≡ 0 → write_left (length img) r (cpu_write_leaves d s arena addr v)
      ≡ unless_refused (with_directory d (cpu_checks s (length arena) addr)) (unaltered img arena) (write_gives (length img) s arena addr v)
  left z =
      ap (λ (x : WriteAnswer). write_left (length img) x (cpu_write_leaves d s arena addr v)) (own-write z)
      ∙ ap (write_left (length img) (cpu_write s arena addr v)) (arena-after z) ∙ blocks-called.accepted z
