-- L8: a read answers what a peek answers, and where it is accepted it leaves the state after it.
use Rattle.std.specs.Prelude.{ℕ, zero, suc, ◌≡◌, false, cond, List, Ok, Err, eqb, length}
use mathlib.Core.Path.{refl, sym, ap, ◌∙◌}
use native.Mathlib.Omega.{arith}
use borrow.Author.Tests.{ne_eqb}
use Rattle.board_state.specs.declared.State.{State}
use Rattle.refusals.specs.declared.Refusal.{Refusal}
use Rattle.refusals.proofs.Numbers.{refuses}
use Rattle.call_answers.specs.Answers.{Peeked, peeked}
use Rattle.call_refusals.specs.Refusals.{first_of, unless_refused, cpu_checks}
use Rattle.call_cpu.specs.Calls.{ReadAnswer, read_answer, cpu_byte, state_after_read, cpu_read, cpu_peek}

abbrev read_of : State → ℕ → Peeked → ReadAnswer
read_of s addr p = record { refusal = p.refusal; byte = p.byte; state = cond (eqb p.refusal 0) (state_after_read s addr) s }

read-peeks : (s : State) (arena : List ℕ) (addr : ℕ) → read_of s addr (cpu_peek s arena addr) ≡ cpu_read s arena addr
unfolding cpu_read cpu_peek
read-peeks s arena addr = go (first_of (cpu_checks s (length arena) addr))
  where
    go : (q : ℕ)
        → read_of s addr (cond (eqb q 0) (record { refusal = 0; byte = cpu_byte s arena addr }) (record { refusal = q; byte = 0 }))
        ≡ cond (eqb q 0) (record { refusal = 0; byte = cpu_byte s arena addr; state = state_after_read s addr })
        (record { refusal = q; byte = 0; state = s })
    go zero = refl
    go (suc q) = let e : eqb (suc q) 0 ≡ false = ne_eqb (suc q) 0 (λ z. omega (arith, z)) in rw e (rw e refl)

pub read-refused : (s : State) (arena : List ℕ) (addr : ℕ) (q : Refusal) → peeked (Err q) ≡ cpu_peek s arena addr
    → read_answer s (Err q) ≡ cpu_read s arena addr
read-refused s arena addr q e = sym (rw (refuses q) refl) ∙ ap (read_of s addr) e ∙ read-peeks s arena addr

pub read-accepted : (s : State) (arena : List ℕ) (addr b : ℕ) → peeked (Ok b) ≡ cpu_peek s arena addr
    → read_answer s (Ok (record { byte = b; state = state_after_read s addr })) ≡ cpu_read s arena addr
read-accepted s arena addr b e = ap (read_of s addr) e ∙ read-peeks s arena addr
