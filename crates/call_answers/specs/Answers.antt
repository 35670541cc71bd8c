-- N0, N21: the answers that several calls share. In each `refusal` is the number of the refusal, or 0 for accepted; what a refused call
-- answers beside it is 0, and its state the one that it was given.
use Rattle.std.specs.Prelude.{ℕ, Result}
use Rattle.board_state.specs.declared.State.{State}
use Rattle.refusals.specs.declared.Refusal.{Refusal}
use Rattle.refusals.specs.Refusal.{answered}

-- ---- of a call that may alter the state

pub record Altered : Type 0 where
  pub refusal : ℕ
  pub state : State

-- by what the function gives, which was called on s
abbrev pub altered : State → Result State Refusal → Altered
altered s = answered (λ q. record { refusal = q; state = s }) (λ t. record { refusal = 0; state = t })

-- ---- of a read that alters nothing

pub record Peeked : Type 0 where
  pub refusal : ℕ
  pub byte : ℕ

abbrev pub peeked : Result ℕ Refusal → Peeked
peeked = answered (λ q. record { refusal = q; byte = 0 }) (λ b. record { refusal = 0; byte = b })
