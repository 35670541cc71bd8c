-- What each call without a directory keeps of state and arena, each call with one keeps, and so does every list of them: N2, S16, S17.
use Prim.Native.Nat.{ℕ, zero, suc, ◌^◌, ◌<◌}
use mathlib.Core.Path.{◌≡◌, refl}
use mathlib.Core.Bool.{Bool, true, false}
use mathlib.Core.List.{List, [], ◌∷◌}
use lib.Ieee.{Float}
use Rattle.cut.specs.Calls.{Call, run, other, start}
use Rattle.cut.specs.Machine.{plainly, other_of}
use Rattle.cut.specs.Demand3.{observed}
use Rattle.cut.specs.Always.{AllTyped, Kept}
use Rattle.cut.proofs.Always.{always, each-sample}
use Rattle.sound_wave.specs.Mix.{NoMinusZero}
use Rattle.board_state.specs.State.{options_in}
use Rattle.call_refusals.specs.Refusals.{first_of}
use Rattle.directory.specs.Fit.{fit}
use Rattle.call_blocks.proofs.Laws.{unfit-number, fit-number}
use Rattle.thm_machine.specs.Calls.{Held, Other, CallTyped}
use Rattle.thm_machine.specs.Paper.{checks, answers}
use Rattle.thm_machine.specs.Board.{board}
use Rattle.thm_machine.specs.Start.{Loaded}
use Rattle.thm_machine.proofs.Keeps.{keeps-other}
use Rattle.thm_range.specs.Fit.{Fit}
use Rattle.thm_range.specs.Zero.{NeverMinusZero}
use Rattle.thm_range.proofs.Calls.{load_fits}
use Rattle.thm_range.proofs.Lists.{kept as fit-kept}
use Rattle.thm_range.proofs.Options.{Any, Chosen, kept as options-kept, load-options}
use Rattle.thm_range.proofs.Zero.{run-no-minus, none-minus}
use Rattle.thm_blocks.specs.Calls.{HeldBlocks, BlockCall, base, register, lookup, Inner}
use Rattle.thm_blocks.specs.Board.{block_gives, block_run, block_board}
use Rattle.thm_blocks.specs.Paper.{takes, block_checks, block_answers, block_paper}
use Rattle.thm_blocks.proofs.Keeps.{keeps-block}
use Rattle.thm_blocks.proofs.Handed.{fresh}

-- ---- one call

held-of : (q : ℕ) (a : Other) (h : HeldBlocks)
    → (plainly q (block_answers (base a) h) h).state.held ≡ (plainly q (answers a h.held) h.held).state
unfolding block_answers
held-of zero a h = refl
held-of (suc q) a h = refl

module _ (T : Call Float Other → Type 0) (P : Held → Type 0) (k : Kept board T P) where
  -- a call that a directory refuses alters nothing, and any other has its number without one
  base-keeps : (a : Other) (h : HeldBlocks) → T (other a) → P h.held → P (block_gives (base a) h).state.held
  unfolding block_checks
  base-keeps a h t p = rw (keeps-block (base a) h) (go (takes a) refl (fit h.places) refl)
    where
      alone : P (plainly (first_of (checks a h.held)) (answers a h.held) h.held).state
      alone = rw (keeps-other a h.held) at (k.other a h.held t p)

      go : (b : Bool) → takes a ≡ b → (f : Bool) → fit h.places ≡ f → P (other_of block_paper (base a) h).state.held
      go false e f i = rw (e, held-of (first_of (checks a h.held)) a h) alone
      go true e true i = rw (e, fit-number h.places (checks a h.held) i, held-of (first_of (checks a h.held)) a h) alone
      go true e false i = rw (e, unfit-number h.places (checks a h.held) i) p

  pub kept-inside : Kept block_board (Inner T) (λ (h : HeldBlocks). P h.held)
  unfolding block_run block_gives
  kept-inside =
      record {
        run = λ n lent h t p. k.run n lent h.held t p;
        other = λ c h. of-call c h;
      }
    where
      of-call : (c : BlockCall) (h : HeldBlocks) → Inner T (other c) → P h.held → P (block_gives c h).state.held
      of-call (base a) h t p = base-keeps a h t p
      of-call (register s l n) h t p = p
      of-call (lookup s) h t p = p

-- ---- every list from a load

FitInside : Kept block_board (Inner CallTyped) (λ (h : HeldBlocks). Fit h.held)
FitInside = kept-inside CallTyped Fit fit-kept

-- R9, N2, N7: state and arena stay in range
pub block-always-fit : (l : Loaded) → l.submapper < 2 ^ 8 → (calls : List (Call Float BlockCall)) → AllTyped (Inner CallTyped) calls
    → Fit (observed block_board calls (fresh l)).state.held
block-always-fit l sub calls t =
    always block_board (Inner CallTyped) (λ (h : HeldBlocks). Fit h.held) FitInside calls (start (fresh l)) t (load_fits l sub)

all_any : (calls : List (Call Float BlockCall)) → AllTyped (Inner Any) calls
all_any [] = tt
all_any (run n lent ∷ calls) = (tt, all_any calls)
all_any (other (base a) ∷ calls) = (tt, all_any calls)
all_any (other (register s l n) ∷ calls) = (tt, all_any calls)
all_any (other (lookup s) ∷ calls) = (tt, all_any calls)

-- L19, S17: the options are the load's
pub block-always-options : (l : Loaded) (calls : List (Call Float BlockCall))
    → options_in (observed block_board calls (fresh l)).state.held.state ≡ l.options
block-always-options l calls =
    always block_board (Inner Any) (λ (h : HeldBlocks). Chosen l.options h.held)
    (kept-inside Any (Chosen l.options) (options-kept l.options)) calls (start (fresh l)) (all_any calls) (load-options l)

-- S16: no output, no `out` and no sample is negative zero
pub block-never-minus-zero : (l : Loaded) → l.submapper < 2 ^ 8 → (calls : List (Call Float BlockCall)) → AllTyped (Inner CallTyped) calls
    → let o = observed block_board calls (fresh l) in NeverMinusZero o.state.held.state.chip.audio o.trace
unfolding block_run
block-never-minus-zero l sub calls t =
    none-minus _ (block-always-fit l sub calls t).known _
    (each-sample block_board (Inner CallTyped) (λ (h : HeldBlocks). Fit h.held) FitInside NoMinusZero
    (λ n lent h f. run-no-minus n lent h.held f) calls (start (fresh l)) t (load_fits l sub) tt)
