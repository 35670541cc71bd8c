-- A relation between the wiki's machine and the board that each step keeps is kept by every list of public calls, refused ones among them.
-- Assumes nothing.
use Prim.Native.Nat.{ℕ, zero, suc, ◌^◌, ◌<◌}
use mathlib.Core.Path.{◌≡◌, refl, sym, subst, ◌∙◌}
use mathlib.Core.Bool.{false}
use mathlib.Core.List.{List, [], ◌∷◌}
use borrow.Author.Rules.{rules}
use borrow.Author.Tests.{lt-ltb, leb-false}
use lib.Dec.{leb}
use lib.Ieee.{Float}
use lib.ListN.{length, replicate}
use Rattle.cut.specs.Calls.{Call, run, other, Point, from, after_run, noted}
use Rattle.cut.specs.Machine.{plainly, ticks}
use Rattle.cut.specs.Contract.{run_by}
use Rattle.cut.specs.Always.{AllTyped}
use Rattle.cut.proofs.Always.{handed-on}
use Rattle.cut.proofs.Machine.{state-more}
use Rattle.sound.specs.Audio.{with_ram}
use Rattle.board_chip.specs.Namco163.{with_audio}
use Rattle.board_chip.specs.Reads.{after_read}
use Rattle.board_state.specs.declared.State.{State}
use Rattle.board_state.specs.State.{Known, with_chip}
use Rattle.call_battery.specs.Battery.{battery_bytes}
use Rattle.call_cpu.specs.Calls.{write_register}
use Rattle.call_refusals.specs.Refusals.{first_of, battery_checks, reset_checks}
use Rattle.call_refusals.proofs.Laws.{accepted-none}
use Rattle.call_run.specs.Clock.{state_clock}
use Rattle.call_run.specs.Run.{clocks, run_checks, run_gave}
use Rattle.thm_machine.specs.Calls.{Held, Other, cpu_read, cpu_peek, cpu_write, chr_read, chr_write, fill, region_peek, region_write, sram, reset}
use Rattle.thm_machine.specs.Calls.{sync_battery, restore_battery, write_image, ArgTyped, CallTyped}
use Rattle.thm_machine.specs.Paper.{checks, answers}
use Rattle.thm_machine.specs.Board.{other_gives, run_gives, board}
use Rattle.thm_machine.proofs.Keeps.{keeps-other}
use Rattle.thm_range.specs.Fit.{Fit}
use Rattle.thm_range.proofs.Calls.{other_fits, run_fits, clocks-known}
use Rattle.thm_wiki.specs.Machine.{write, read, cycle, restore}
use Rattle.thm_wiki.specs.Notes.{Noted, next, steps}
use Rattle.thm_wiki.specs.Lists.{when_accepted, acts_of, acts, beside, resets, AddressTyped, Plain}
use Rattle.thm_wiki.proofs.Tests.{never}

-- n cycles and one more
steps-more : (n : ℕ) (x : Noted) → steps x (replicate (suc n) cycle) ≡ next (steps x (replicate n cycle)) cycle
unfolding steps
steps-more zero x = refl
steps-more (suc n) x = steps-more n (next x cycle)

-- what each step of the machine has to keep
pub record Kept (P : Noted → State → Type 0) : Type 0 where
  pub write : (x : Noted) (s : State) (a v : ℕ) → a < 2 ^ 16 → v < 256 → Known s → P x s → P (next x (write a v)) (write_register s a v)
  pub read : (x : Noted) (s : State) (a : ℕ) → Known s → P x s → P (next x (read a)) (with_chip s (after_read s.chip a))
  pub cycle : (x : Noted) (s : State) → Known s → P x s → P (next x cycle) (state_clock s).state
  pub restore : (x : Noted) (s : State) (len : ℕ) (bytes : List ℕ) → first_of (battery_checks s len) ≡ 0 → length bytes ≡ 128 → Known s
      → P x s
      → P (next x (restore bytes)) (with_chip s (with_audio s.chip (with_ram s.chip.audio bytes)))

-- N3: a reset of another kind is refused
no-reset : (kind : ℕ) (s : State) → leb kind 1 ≡ false → first_of (reset_checks s kind) ≡ 0 → ⊥
no-reset kind s r e =
    let h = accepted-none (reset_checks s kind) (search rules) e in
    never (sym (lt-ltb 1 kind (leb-false kind 1 r)) ∙ h.1.0)

module _ (P : Noted → State → Type 0) (k : Kept P) where
  -- a run
  cycles-kept : (n : ℕ) (x : Noted) (s : State) → Known s → P x s → P (steps x (replicate n cycle)) (clocks n s).state
  unfolding ticks
  cycles-kept zero x s y q = unfold steps in q
  cycles-kept (suc n) x s y q =
      rw (steps-more n x, state-more state_clock n s)
      (k.cycle (steps x (replicate n cycle)) (clocks n s).state (clocks-known n s y) (cycles-kept n x s y q))

  run-kept : (n : ℕ) (lent : List Float) (h : Held) (x : Noted) → Fit h → P x h.state
      → P (steps x (acts (run n lent) h)) (run_gives n lent h).state.state
  unfolding run_gives run_gave acts
  run-kept n lent h x f q = go (first_of (run_checks h.state n (length lent)))
    where
      go : (r : ℕ) → P (steps x (when_accepted r (replicate n cycle))) (run_by r (clocks n h.state) lent h.state).state
      go zero = cycles-kept n x h.state f.known q
      go (suc r) = unfold steps in q

  -- an accepted call other than a run
  accepted-kept : (a : Other) (h : Held) (x : Noted) → ArgTyped a × AddressTyped a → resets a ≡ false → Fit h → Fit (answers a h).state
      → first_of (checks a h) ≡ 0
      → P x h.state → P (steps x (acts_of a h)) (answers a h).state.state
  unfolding answers steps checks
  accepted-kept (cpu_read addr) h x t r f g e q = k.read x h.state addr f.known q
  accepted-kept (cpu_peek addr) h x t r f g e q = q
  accepted-kept (cpu_write addr v) h x t r f g e q = k.write x h.state addr v t.1 t.0 f.known q
  accepted-kept (chr_read addr) h x t r f g e q = q
  accepted-kept (chr_write addr v) h x t r f g e q = q
  accepted-kept (fill src bytes) h x t r f g e q = q
  accepted-kept (region_peek src offset) h x t r f g e q = q
  accepted-kept (region_write src offset v) h x t r f g e q = q
  accepted-kept sram h x t r f g e q = q
  accepted-kept (reset kind) h x t r f g e q = absurd (no-reset kind h.state r e)
  accepted-kept sync_battery h x t r f g e q = q
  accepted-kept restore_battery h x t r f g e q =
      k.restore x h.state (length h.arena) (battery_bytes h.state h.arena) e
      g.known.typed.chip.audio.ram_length f.known q
  accepted-kept (write_image buffer) h x t r f g e q = q

  other-kept : (a : Other) (h : Held) (x : Noted) → ArgTyped a × AddressTyped a → resets a ≡ false → Fit h → P x h.state
      → P (steps x (acts (other a) h)) (other_gives a h).state.state
  unfolding acts
  other-kept a h x t r f q =
      rw (keeps-other a h)
      (go (first_of (checks a h)) refl (rw (keeps-other a h) at (other_fits a h t.0 f)))
    where
      go : (n : ℕ) → first_of (checks a h) ≡ n → Fit (plainly (first_of (checks a h)) (answers a h) h).state
          → P (steps x (when_accepted n (acts_of a h))) (plainly n (answers a h) h).state.state
      go zero e g = accepted-kept a h x t r f (rw e at g) e q
      go (suc n) e g = unfold steps in q

  -- and every list of calls
  pub along : (calls : List (Call Float Other)) (p : Point Held Float) (x : Noted) → AllTyped Plain calls → Fit p.state
      → P x p.state.state
      → P (beside calls p.state x) (noted board calls p).state.state
  unfolding noted beside
  along [] p x t f q = q
  along (run n lent ∷ calls) p x t f q =
      let g = run_gives n lent p.state in
      let y = steps x (acts (run n lent) p.state) in
      let after = after_run g.refusal n g p in
      let e = handed-on g.refusal n g p in
      subst (λ (h : Held). P (beside calls h y) (noted board calls after).state.state) e
      (along calls after y t.1 (subst Fit (sym e) (run_fits n lent p.state f))
      (subst (λ (h : Held). P y h.state) (sym e) (run-kept n lent p.state x f q)))
  along (other a ∷ calls) p x t f q =
      along calls (from (other_gives a p.state).state p.count) (steps x (acts (other a) p.state)) t.1
      (other_fits a p.state t.0.0.0 f) (other-kept a p.state x t.0.0 t.0.1 f q)

-- a list without a reset is one of arguments of their types
pub plain-typed : (calls : List (Call Float Other)) → AllTyped Plain calls → AllTyped CallTyped calls
plain-typed [] t = tt
plain-typed (run n lent ∷ calls) t = (t.0, plain-typed calls t.1)
plain-typed (other a ∷ calls) t = (t.0.0.0, plain-typed calls t.1)
