-- R9, N2, N7: from every accepted load, after every list of calls, refused ones among them: the state is known, the arena is of the
-- layout's length and of bytes, and no call was refused by 2 or 7.
use Prim.Native.Nat.{ℕ, zero, suc, ◌^◌, ◌<◌}
use mathlib.Core.Path.{◌≡◌, refl, sym, ap, ◌∙◌}
use mathlib.Core.Bool.{Bool, true, false, cond}
use mathlib.Core.List.{List, [], ◌∷◌}
use mathlib.Core.Logic.{◌⊎◌, inl, inr}
use native.Mathlib.Omega.{arith}
use borrow.Author.Tests.{eq-eqb}
use lib.Ieee.{Float}
use lib.ListN.{length}
use Rattle.cut.specs.Calls.{Call, Gave, refused, start}
use Rattle.cut.specs.Contract.{run_by}
use Rattle.cut.specs.Machine.{Answered, plainly}
use Rattle.cut.specs.Demand3.{observed}
use Rattle.cut.specs.Always.{AllTyped, NeverRefused, Kept, Never}
use Rattle.cut.proofs.Always.{always, never}
use Rattle.board_state.proofs.Range.{known-passes}
use Rattle.call_refusals.specs.Refusals.{Check, first_of, state_check, arena_check}
use Rattle.memory.specs.Layout.{arena_len}
use Rattle.call_run.specs.Run.{clocks, run_checks, run_gave}
use Rattle.thm_machine.specs.Calls.{Held, Other, cpu_read, cpu_peek, cpu_write, chr_read, chr_write, fill, region_peek, region_write, sram, reset}
use Rattle.thm_machine.specs.Calls.{sync_battery, restore_battery, write_image, Answer, CallTyped}
use Rattle.thm_machine.specs.Paper.{checks, answers}
use Rattle.thm_machine.specs.Board.{run_gives, board}
use Rattle.thm_machine.specs.Start.{Loaded, loaded}
use Rattle.thm_machine.proofs.Keeps.{keeps-other}
use Rattle.thm_range.specs.Fit.{Fit}
use Rattle.thm_range.proofs.Calls.{other_fits, run_fits, load_fits}

-- ---- fit, whatever the calls

pub kept : Kept board CallTyped Fit
kept = record { run = λ n lent h t f. run_fits n lent h f; other = λ a h t f. other_fits a h t f }

pub always-fit : (l : Loaded) → l.submapper < 2 ^ 8 → (calls : List (Call Float Other)) → AllTyped CallTyped calls
    → Fit (observed board calls (loaded l)).state
always-fit l sub calls t = always board CallTyped Fit kept calls (start (loaded l)) t (load_fits l sub)

-- ---- what a known state and its arena rule out

-- a check of another number, or one that does not hold
abbrev Clear : ℕ → Check → Type 0
Clear k c = (c.number ≡ k → ⊥) ⊎ (c.holds ≡ false)

abbrev AllClear : ℕ → List Check → Type 0
AllClear k [] = Unit {0}
AllClear k (c ∷ cs) = Clear k c × AllClear k cs

not_first : (k : ℕ) → (0 ≡ k → ⊥) → (cs : List Check) → AllClear k cs → first_of cs ≡ k → ⊥
unfolding first_of
not_first k z [] a e = z e
not_first k z (c ∷ cs) a e = go a.0 (not_first k z cs a.1) c.holds refl e
  where
    go : Clear k c → (first_of cs ≡ k → ⊥) → (t : Bool) → c.holds ≡ t → cond t c.number (first_of cs) ≡ k → ⊥
    go x ih false q e = ih e
    go (inl n) ih true q e = n e
    go (inr f) ih true q e = let y : ◌≡◌ {A = ℕ} 0 1 = cc in omega arith

-- a number other than both
neither : (k : ℕ) → (k ≡ 2) ⊎ (k ≡ 7) → (n : ℕ) → (n ≡ 2 → ⊥) → (n ≡ 7 → ⊥) → n ≡ k → ⊥
neither k (inl e) n a b q = a (q ∙ e)
neither k (inr e) n a b q = b (q ∙ e)

nonzero : (k : ℕ) → (k ≡ 2) ⊎ (k ≡ 7) → 0 ≡ k → ⊥
nonzero k (inl e) q = omega arith
nonzero k (inr e) q = omega arith

module _ (h : Held) (f : Fit h) where
  state-clear : (k : ℕ) → Clear k (state_check h.state)
  state-clear k = inr (rw (known-passes h.state f.known))

  arena-clear : (k : ℕ) → Clear k (arena_check (arena_len h.state.memory.layout) (length h.arena))
  arena-clear k = inr (rw (eq-eqb (length h.arena) (arena_len h.state.memory.layout) f.long))

  -- 2 and 7 are the numbers of these two checks alone
  all-clear : (k : ℕ) → (k ≡ 2) ⊎ (k ≡ 7) → (a : Other) → AllClear k (checks a h)
  unfolding checks
  all-clear k e (cpu_read addr) = (state-clear k, (arena-clear k, (inl (neither k e 8 (omega arith) (omega arith)), tt)))
  all-clear k e (cpu_peek addr) = (state-clear k, (arena-clear k, (inl (neither k e 8 (omega arith) (omega arith)), tt)))
  all-clear k e (cpu_write addr v) = (state-clear k, (arena-clear k, (inl (neither k e 8 (omega arith) (omega arith)), tt)))
  all-clear k e (chr_read addr) = (state-clear k, (arena-clear k, tt))
  all-clear k e (chr_write addr v) = (state-clear k, (arena-clear k, tt))
  all-clear k e (fill src bytes) = (state-clear k, (arena-clear k, (inl (neither k e 9 (omega arith) (omega arith)), tt)))
  all-clear k e (region_peek src offset) = (state-clear k, (arena-clear k, tt))
  all-clear k e (region_write src offset v) = (state-clear k, (arena-clear k, tt))
  all-clear k e sram = (state-clear k, tt)
  all-clear k e (reset kind) = (state-clear k, (inl (neither k e 3 (omega arith) (omega arith)), tt))
  all-clear k e sync_battery = (state-clear k, (arena-clear k, (inl (neither k e 12 (omega arith) (omega arith)), tt)))
  all-clear k e restore_battery = (state-clear k, (arena-clear k, (inl (neither k e 12 (omega arith) (omega arith)), tt)))
  all-clear k e (write_image buffer) = (inl (neither k e 1 (omega arith) (omega arith)), (state-clear k, tt))

-- ---- no call of a list is refused by 2 or 7

replied : (q : ℕ) (b : Answered Held Answer) (h : Held) (k : ℕ) → (0 ≡ k → ⊥) → (plainly q b h).reply ≡ refused k → q ≡ k
replied zero b h k z e = let y : ◌≡◌ {A = ℕ} 0 1 = cc in absurd (omega arith)
replied (suc q) b h k z e = cc

ran : (q : ℕ) (h : Held) (n : ℕ) (lent : List Float) → (run_by q (clocks n h.state) lent h.state).refusal ≡ q
ran zero h n lent = refl
ran (suc q) h n lent = refl

never-by : (k : ℕ) → (k ≡ 2) ⊎ (k ≡ 7) → Never board CallTyped Fit k
unfolding run_gives run_gave
never-by k e =
    record {
      run = λ n lent h f q.
          not_first k (nonzero k e) (run_checks h.state n (length lent))
          (state-clear h f k, (inl (neither k e 10 (omega arith) (omega arith)), (inl (neither k e 11 (omega arith) (omega arith)), tt)))
          (sym (ran (first_of (run_checks h.state n (length lent))) h n lent) ∙ q);
      other = λ a h f q.
          not_first k (nonzero k e) (checks a h) (all-clear h f k e a)
          (replied (first_of (checks a h)) (answers a h) h k (nonzero k e)
          (ap (λ (g : Gave Held Answer). g.reply) (sym (keeps-other a h)) ∙ q));
    }

pub never-2-or-7 : (k : ℕ) → (k ≡ 2) ⊎ (k ≡ 7) → (l : Loaded) → l.submapper < 2 ^ 8 → (calls : List (Call Float Other))
    → AllTyped CallTyped calls → NeverRefused k (observed board calls (loaded l))
never-2-or-7 k e l sub calls t = never board CallTyped Fit kept k (never-by k e) calls (start (loaded l)) t (load_fits l sub)
