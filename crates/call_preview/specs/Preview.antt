-- L18: what a CPU write would answer, by the write's own definition.
use Rattle.std.specs.Prelude.{ℕ, List, Result}
use Rattle.memory.specs.declared.changes.Changed.{Changed}
use Rattle.memory.specs.Changes.{no_changes}
use Rattle.board_state.specs.declared.State.{State}
use Rattle.refusals.specs.declared.Refusal.{Refusal}
use Rattle.refusals.specs.Refusal.{answered}
use Rattle.call_cpu.specs.Calls.{WriteAnswer, cpu_write}

-- N21: a preview's answer, and by what the function gives
pub record Previewed : Type 0 where
  pub refusal : ℕ
  pub changed : Changed

abbrev pub previewed : Result Changed Refusal → Previewed
previewed = answered (λ q. record { refusal = q; changed = no_changes }) (λ c. record { refusal = 0; changed = c })

-- L15: of what a write gives, the answer: the refusal number and the changed pages, and not the state after it
abbrev pub answer_of : WriteAnswer → Previewed
answer_of w = record { refusal = w.refusal; changed = w.changed }

-- L18: refused writes too
unfoldable pub preview : State → List ℕ → ℕ → ℕ → Previewed
preview s arena addr v = answer_of (cpu_write s arena addr v)
