-- N0, N21: what a refused call answers and leaves, and an accepted one. The calls of a list by one theorem over them; what it says of a
-- single call's answer is `refused-is`, `accepted-is` and `number_is` of call_refusals, and of a run's `refused-run` of call_run.
use Prim.Native.Nat.{ℕ, zero, suc}
use mathlib.Core.Path.{◌≡◌, refl}
use mathlib.Core.Bool.{Bool}
use mathlib.Core.List.{List}
use lib.ListN.{length}
use Rattle.cut.specs.Calls.{refused, answered}
use Rattle.cut.specs.Machine.{Answered, plainly}
use Rattle.memory.specs.declared.layout.MemoryLayout.{MemoryLayout}
use Rattle.board_state.specs.declared.Options.{Options}
use Rattle.board_state.specs.None.{no_state}
use Rattle.call_refusals.specs.Refusals.{Check, first_of, load_checks}
use Rattle.call_refusals.proofs.Laws.{refused-is}
use Rattle.call_load.specs.Cartridge.{load_answer, load_arena}
use Rattle.thm_machine.specs.Calls.{Held, Other, Answer}
use Rattle.thm_machine.specs.Paper.{checks, answers}
use Rattle.thm_machine.specs.Board.{other_gives}
use Rattle.thm_machine.proofs.Keeps.{keeps-other}

abbrev pub Accepted : List Check → Type 0
Accepted cs = first_of cs ≡ 0

abbrev pub Refused : List Check → Type 0
Refused cs = first_of cs ≡ 0 → ⊥

-- ---- the calls of a list other than runs

plainly-refused : (q : ℕ) (b : Answered Held Answer) (h : Held) → (q ≡ 0 → ⊥) → plainly q b h ≡ record { reply = refused q; state = h }
plainly-refused zero b h n = absurd (n refl)
plainly-refused (suc q) b h n = refl

-- its number alone, and state and arena as they were
pub other-refused : (a : Other) (h : Held) → Refused (checks a h)
    → other_gives a h ≡ record { reply = refused (first_of (checks a h)); state = h }
other-refused a h n = rw (keeps-other a h) (plainly-refused (first_of (checks a h)) (answers a h) h n)

pub other-accepted : (a : Other) (h : Held) → Accepted (checks a h)
    → other_gives a h ≡ record { reply = answered (answers a h).answer; state = (answers a h).state }
other-accepted a h e = rw (keeps-other a h, e)

-- ---- N21, the load: a state that no call accepts, and the arena as it was

module _ (mapper sub flags : ℕ) (known : Bool) (sizes : MemoryLayout) (options : Options) (arena : List ℕ)
    (h : Refused (load_checks mapper sizes (length arena))) where
  pub load-refused :
      (load_answer mapper sub flags known sizes options (length arena)
      ≡ record { refusal = first_of (load_checks mapper sizes (length arena)); state = no_state })
      × (load_arena mapper sizes arena ≡ arena)
  unfolding load_answer load_arena
  load-refused =
      let cs = load_checks mapper sizes (length arena) in
      (refused-is cs (λ q. record { refusal = q; state = no_state }) _ h, refused-is cs (λ q. arena) _ h)
