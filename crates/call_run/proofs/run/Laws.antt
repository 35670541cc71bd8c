-- n single clocks in closed form: the counter's clocks, and on a 163 the sound's.
use Prim.Native.Nat.{ℕ, zero, suc, ◌+◌, ◌/◌, ◌≤◌}
use mathlib.Core.Path.{◌≡◌, refl, sym, ap, ◌∙◌}
use mathlib.Core.Bool.{Bool, true, false, cond}
use mathlib.Core.List.{List, [], ◌++◌, append-nil}
use native.Mathlib.Numerals.{add-one}
use borrow.Author.Rules.{rules}
use lib.Dec.{eqb}
use lib.Ieee.{Float}
use lib.ListN.{length}
use native.Mathlib.Omega.{arith}
use Rattle.limits.specs.Limits.{update_most}
use Rattle.cut.specs.Machine.{of_option, ticks}
use Rattle.cut.specs.Contract.{last_or, run_by}
use Rattle.cut.specs.Counter.{rises_from}
use Rattle.cut.proofs.Machine.{state-more, samples-more, rise-more}
use Rattle.sound.specs.declared.audio.Audio.{Audio}
use Rattle.sound_clock.specs.Clock.{sound_clock, clock_samples}
use Rattle.sound_clock.specs.Run.{sound_run, samples_of}
use Rattle.sound_clock.proofs.run.Laws.{run-cut, samples-cut, made-closed}
use Rattle.board_chip.specs.declared.namco163.Namco163.{Namco163}
use Rattle.board_chip.specs.Namco163.{is163, with_regs, with_audio}
use Rattle.board_state.specs.declared.State.{State}
use Rattle.board_state.specs.State.{with_chip, in_range}
use Rattle.call_run.specs.Clock.{sound_sample, chip_clock, state_clock, counter_run, counter_rise}
use Rattle.call_run.specs.Run.{clocks, made, run_limit, samples_most, run_checks, run_gave}
use borrow.Author.Tests.{not-false, ltb-false}
use Rattle.call_refusals.specs.Refusals.{first_of}
use Rattle.call_refusals.proofs.Laws.{accepted-none}

-- ---- one more sound clock, at the end

run_more : (n : ℕ) (a : Audio) → sound_run (suc n) a ≡ sound_clock (sound_run n a)
unfolding sound_run
run_more n a = ap (λ (k : ℕ). sound_run k a) (sym (add-one n)) ∙ run-cut n 1 a

sound_more : (n : ℕ) (a : Audio) → samples_of (suc n) a ≡ samples_of n a ++ clock_samples (sound_run n a)
unfolding samples_of
sound_more n a =
    ap (λ (k : ℕ). samples_of k a) (sym (add-one n)) ∙ samples-cut n 1 a
    ∙ ap (λ (l : List Float). samples_of n a ++ l) (append-nil (clock_samples (sound_run n a)))

sample-list : (a : Audio) → of_option (sound_sample a) ≡ clock_samples a
unfolding sound_sample clock_samples
sample-list a = go a.disabled (eqb (a.update_counter + 1) 15) refl refl
  where
    go : (d e : Bool) → a.disabled ≡ d → eqb (a.update_counter + 1) 15 ≡ e → of_option (sound_sample a) ≡ clock_samples a
    go true e p q = rw p
    go false true p q = rw (p, q)
    go false false p q = rw (p, q)

-- ---- the chip after n clocks

unfoldable pub chip_after : Bool → ℕ → Namco163 → Namco163
chip_after sounds n c =
    cond sounds (with_audio (with_regs c (counter_run n c.regs)) (sound_run n c.audio)) (with_regs c (counter_run n c.regs))

chip-none : (t : Bool) (c : Namco163) → chip_after t 0 c ≡ c
unfolding chip_after counter_run sound_run
chip-none true c = refl
chip-none false c = refl

chip-more : (t : Bool) (n : ℕ) (c : Namco163) → is163 c.board ≡ t → (chip_clock (chip_after t n c)).state ≡ chip_after t (suc n) c
unfolding chip_after chip_clock counter_run
chip-more true n c e = rw (e, run_more n c.audio)
chip-more false n c e = rw e

clock-rise : (c : Namco163) → (chip_clock c).rise ≡ rises_from c.regs.irq_counter
unfolding chip_clock
clock-rise c = go (is163 c.board) refl
  where
    go : (t : Bool) → is163 c.board ≡ t → (chip_clock c).rise ≡ rises_from c.regs.irq_counter
    go true e = rw e
    go false e = rw e

chip-rise : (t : Bool) (n : ℕ) (c : Namco163) → (chip_clock (chip_after t n c)).rise ≡ rises_from (counter_run n c.regs).irq_counter
unfolding chip_after
chip-rise true n c = clock-rise (chip_after true n c)
chip-rise false n c = clock-rise (chip_after false n c)

samples_after : Bool → ℕ → Namco163 → List Float
samples_after sounds n c = cond sounds (samples_of n c.audio) []

samples-none : (t : Bool) (c : Namco163) → samples_after t 0 c ≡ []
unfolding samples_after samples_of
samples-none true c = refl
samples-none false c = refl

samples-one : (t : Bool) (n : ℕ) (c : Namco163) → is163 c.board ≡ t
    → samples_after t n c ++ of_option (chip_clock (chip_after t n c)).sample ≡ samples_after t (suc n) c
unfolding samples_after chip_after chip_clock
samples-one true n c e = rw (e, sample-list (sound_run n c.audio), sound_more n c.audio)
samples-one false n c e = rw e

-- ---- the state after n clocks

module _ (s : State) (t : Bool) (e : is163 s.chip.board ≡ t) where
  after-state : (n : ℕ) → (clocks n s).state ≡ with_chip s (chip_after t n s.chip)
  unfolding ticks state_clock
  after-state zero = rw (chip-none t s.chip)
  after-state (suc n) =
      state-more state_clock n s ∙ rw (after-state n) (ap (with_chip s) (chip-more t n s.chip e))

  after-samples : (n : ℕ) → (clocks n s).stretch.samples ≡ samples_after t n s.chip
  unfolding ticks state_clock
  after-samples zero = sym (samples-none t s.chip)
  after-samples (suc n) =
      samples-more state_clock n s ∙ rw (after-samples n, after-state n) (samples-one t n s.chip e)

  after-rise : (n : ℕ) → last_or 0 (clocks n s).stretch.rises ≡ counter_rise n s.chip.regs
  unfolding ticks state_clock counter_rise
  after-rise zero = refl
  after-rise (suc n) = rise-more state_clock n s ∙ rw (after-state n, chip-rise t n s.chip, after-rise n)

-- ---- on a 163, and on another board

pub sounds-state : (n : ℕ) (s : State) → is163 s.chip.board ≡ true
    → (clocks n s).state ≡ with_chip s (with_audio (with_regs s.chip (counter_run n s.chip.regs)) (sound_run n s.chip.audio))
unfolding chip_after
sounds-state n s e = after-state s true e n

pub sounds-samples : (n : ℕ) (s : State) → is163 s.chip.board ≡ true → (clocks n s).stretch.samples ≡ samples_of n s.chip.audio
unfolding samples_after
sounds-samples n s e = after-samples s true e n

pub silent-state : (n : ℕ) (s : State) → is163 s.chip.board ≡ false
    → (clocks n s).state ≡ with_chip s (with_regs s.chip (counter_run n s.chip.regs))
unfolding chip_after
silent-state n s e = after-state s false e n

pub silent-samples : (n : ℕ) (s : State) → is163 s.chip.board ≡ false → (clocks n s).stretch.samples ≡ []
unfolding samples_after
silent-samples n s e = after-samples s false e n

pub rise-is : (n : ℕ) (s : State) → last_or 0 (clocks n s).stretch.rises ≡ counter_rise n s.chip.regs
rise-is n s = after-rise s (is163 s.chip.board) refl n

-- ---- C6: (u + n) / 15 samples, rounded down, on a 163 whose sound is enabled; else no sample

pub made-floor : (n : ℕ) (s : State) → s.chip.audio.update_counter ≤ update_most
    → made n s ≡ cond (is163 s.chip.board) (cond s.chip.audio.disabled 0 ((s.chip.audio.update_counter + n) / 15)) 0
unfolding made
made-floor n s u = go (is163 s.chip.board) refl
  where
    go : (t : Bool) → is163 s.chip.board ≡ t
        → made n s ≡ cond t (cond s.chip.audio.disabled 0 ((s.chip.audio.update_counter + n) / 15)) 0
    go true e = rw (sounds-samples n s e) (made-closed n s.chip.audio u)
    go false e = rw (silent-samples n s e)

-- the most samples of a run follow from its limit, and no run makes more
pub samples-most : (update_most + run_limit) / 15 ≡ samples_most
samples-most = refl

pub made-most : (n : ℕ) (s : State) → s.chip.audio.update_counter ≤ update_most → n ≤ run_limit → made n s ≤ samples_most
made-most n s u l = rw (made-floor n s u) (go (is163 s.chip.board) s.chip.audio.disabled)
  where
    go : (b d : Bool) → cond b (cond d 0 ((s.chip.audio.update_counter + n) / 15)) 0 ≤ samples_most
    go true true = omega arith
    go true false = omega arith
    go false d = omega arith

-- ---- refused runs, and what an accepted one knows

pub record RunGood (s : State) (n room : ℕ) : Type 0 where
  pub good : in_range s ≡ true
  pub short : n ≤ run_limit
  pub enough : length (clocks n s).stretch.samples ≤ room

pub run-good : (s : State) (n room : ℕ) → first_of (run_checks s n room) ≡ 0 → RunGood s n room
unfolding made
run-good s n room e =
    let h = accepted-none (run_checks s n room) (search rules) e in
    record {
      good = not-false (in_range s) h.0;
      short = ltb-false run_limit n h.1.0;
      enough = ltb-false room (made n s)
          h.1.1.0;
    }

pub refused-run : (s : State) (n : ℕ) (lent : List Float) (q : ℕ) → q ≡ first_of (run_checks s n (length lent)) → (q ≡ 0 → ⊥)
    → run_gave s n lent ≡ record { refusal = q; made = 0; rise = 0; samples = lent; state = s }
unfolding run_gave
refused-run s n lent q e h = rw (← e) (go q h)
  where
    go : (q : ℕ) → (q ≡ 0 → ⊥) → run_by q (clocks n s) lent s ≡ record { refusal = q; made = 0; rise = 0; samples = lent; state = s }
    go zero h = absurd (h refl)
    go (suc q) h = refl
