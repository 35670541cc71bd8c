-- C6: n single clocks from counter u are (u + n) / 15 updates and a new counter, and their samples are those updates' outputs; and a run
-- that is cut in two is the same run.
use Prim.Native.Nat.{ℕ, zero, suc, ◌+◌, ◌/◌, ◌%◌, ◌≤◌, ◌<◌}
use mathlib.Core.Path.{◌≡◌, refl, ap, ◌∙◌}
use mathlib.Core.List.{List, [], ◌∷◌, ◌++◌, append_assoc}
use mathlib.Core.Bool.{Bool, true, false, cond}
use mathlib.Core.Logic.{⊎_elim}
use native.Mathlib.Omega.{arith}
use native.Mathlib.Nat.{eq-or-lt_of_le}
use lib.ListN.{length}
use lib.Ieee.{Float}
use borrow.Author.Tests.{eq-eqb, ne_eqb}
use Rattle.limits.specs.Limits.{update_most}
use Rattle.sound.specs.declared.audio.Audio.{Audio}
use Rattle.sound.specs.Audio.{with_counter}
use Rattle.sound_wave.specs.Mix.{output_of}
use Rattle.sound_clock.specs.Clock.{update_channel, updated, sound_clock, clock_samples}
use Rattle.sound_clock.specs.Run.{sound_run, samples_of}

-- k updates one after the other, and their outputs
unfoldable pub updates : ℕ → Audio → Audio
updates zero a = a
updates (suc k) a = updates k (updated a)

unfoldable pub outputs : ℕ → Audio → List Float
outputs zero a = []
outputs (suc k) a = output_of (updated a).out ∷ outputs k (updated a)

pub length-outputs : (k : ℕ) (a : Audio) → length (outputs k a) ≡ k
unfolding outputs
length-outputs zero a = refl
length-outputs (suc k) a = ap suc (length-outputs k (updated a))

-- no update reads the counter
updates-counter : (k : ℕ) (a : Audio) (x y : ℕ) → with_counter (updates k (with_counter a x)) y ≡ with_counter (updates k a) y
unfolding updates updated update_channel
updates-counter zero a x y = refl
updates-counter (suc k) a x y = updates-counter k (updated a) x y

outputs-counter : (k : ℕ) (a : Audio) (x : ℕ) → outputs k (with_counter a x) ≡ outputs k a
unfolding outputs updated update_channel
outputs-counter zero a x = refl
outputs-counter (suc k) a x = ap (λ (l : List Float). output_of (updated a).out ∷ l) (outputs-counter k (updated a) x)

-- ---- a single clock: disabled, at an update, between updates

pub clock-off : (a : Audio) → a.disabled ≡ true → sound_clock a ≡ a
unfolding sound_clock
clock-off a d = rw d

pub clock-due : (a : Audio) → a.disabled ≡ false → a.update_counter + 1 ≡ 15 → sound_clock a ≡ with_counter (updated a) 0
unfolding sound_clock updated update_channel
clock-due a d e = rw (d, eq-eqb _ _ e)

pub clock-quiet : (a : Audio) → a.disabled ≡ false → (a.update_counter + 1 ≡ 15 → ⊥)
    → sound_clock a ≡ with_counter a (a.update_counter + 1)
unfolding sound_clock
clock-quiet a d e = rw (d, ne_eqb _ _ e)

sample-off : (a : Audio) → a.disabled ≡ true → clock_samples a ≡ []
unfolding clock_samples
sample-off a d = rw d

sample-due : (a : Audio) → a.disabled ≡ false → a.update_counter + 1 ≡ 15 → clock_samples a ≡ output_of (updated a).out ∷ []
unfolding clock_samples
sample-due a d e = rw (clock-due a d e, d, eq-eqb _ _ e)

sample-quiet : (a : Audio) → a.disabled ≡ false → (a.update_counter + 1 ≡ 15 → ⊥) → clock_samples a ≡ []
unfolding clock_samples
sample-quiet a d e = rw (d, ne_eqb _ _ e)

-- ---- n clocks

pub run-off : (n : ℕ) (a : Audio) → a.disabled ≡ true → sound_run n a ≡ a
unfolding sound_run
run-off zero a d = refl
run-off (suc n) a d = rw (clock-off a d) (run-off n a d)

pub samples-off : (n : ℕ) (a : Audio) → a.disabled ≡ true → samples_of n a ≡ []
unfolding samples_of
samples-off zero a d = refl
samples-off (suc n) a d = rw (clock-off a d, sample-off a d) (samples-off n a d)

pub run_on : (n : ℕ) (a : Audio) → a.disabled ≡ false → a.update_counter ≤ update_most
    → sound_run n a ≡ with_counter (updates ((a.update_counter + n) / 15) a) ((a.update_counter + n) % 15)
unfolding sound_run updates updated update_channel
run_on zero a d h =
    let q : (a.update_counter + 0) / 15 ≡ 0 = omega arith in
    let r : (a.update_counter + 0) % 15 ≡ a.update_counter = omega arith in
    rw (q, r)
run_on (suc n) a d h =
    let u = a.update_counter in
    ⊎_elim
    (λ (e : u + 1 ≡ 15).
    let q : (u + suc n) / 15 ≡ suc ((0 + n) / 15) = omega arith in
    let r : (u + suc n) % 15 ≡ (0 + n) % 15 = omega arith in
    rw (clock-due a d e, q, r) (run_on n (with_counter (updated a) 0) d (omega arith)
    ∙ updates-counter ((0 + n) / 15) (updated a) 0 ((0 + n) % 15)))
    (λ (l : u + 1 < 15).
    let q : (u + suc n) / 15 ≡ (u + 1 + n) / 15 = omega arith in
    let r : (u + suc n) % 15 ≡ (u + 1 + n) % 15 = omega arith in
    rw (clock-quiet a d (λ e. omega arith), q, r)
    (run_on n (with_counter a (u + 1)) d (omega arith) ∙ updates-counter ((u + 1 + n) / 15) a (u + 1) ((u + 1 + n) % 15)))
    (eq-or-lt_of_le {n = u + 1} {m = 15} (omega arith))

pub samples-on : (n : ℕ) (a : Audio) → a.disabled ≡ false → a.update_counter ≤ update_most
    → samples_of n a ≡ outputs ((a.update_counter + n) / 15) a
unfolding samples_of outputs updated update_channel
samples-on zero a d h =
    let q : (a.update_counter + 0) / 15 ≡ 0 = omega arith in
    rw q
samples-on (suc n) a d h =
    let u = a.update_counter in
    ⊎_elim
    (λ (e : u + 1 ≡ 15).
    let q : (u + suc n) / 15 ≡ suc ((0 + n) / 15) = omega arith in
    rw (sample-due a d e, clock-due a d e, q)
    (ap (λ (l : List Float). output_of (updated a).out ∷ l)
    (samples-on n (with_counter (updated a) 0) d (omega arith) ∙ outputs-counter ((0 + n) / 15) (updated a) 0)))
    (λ (l : u + 1 < 15).
    let q : (u + suc n) / 15 ≡ (u + 1 + n) / 15 = omega arith in
    let ne : u + 1 ≡ 15 → ⊥ = λ e. omega arith in
    rw (sample-quiet a d ne, clock-quiet a d ne, q)
    (samples-on n (with_counter a (u + 1)) d (omega arith) ∙ outputs-counter ((u + 1 + n) / 15) a (u + 1)))
    (eq-or-lt_of_le {n = u + 1} {m = 15} (omega arith))

-- ---- C6: how many samples; a disabled sound makes none
pub made-closed : (n : ℕ) (a : Audio) → a.update_counter ≤ update_most
    → length (samples_of n a) ≡ cond a.disabled 0 ((a.update_counter + n) / 15)
made-closed n a h = go a.disabled refl
  where
    go : (d : Bool) → a.disabled ≡ d → length (samples_of n a) ≡ cond d 0 ((a.update_counter + n) / 15)
    go true e = ap length (samples-off n a e)
    go false e = ap length (samples-on n a e h) ∙ length-outputs _ a

-- ---- cutting a run in two changes nothing

pub run-cut : (n m : ℕ) (a : Audio) → sound_run (n + m) a ≡ sound_run m (sound_run n a)
unfolding sound_run
run-cut zero m a = let e : 0 + m ≡ m = omega arith in rw e
run-cut (suc n) m a = let e : suc n + m ≡ suc (n + m) = omega arith in rw e (run-cut n m (sound_clock a))

pub samples-cut : (n m : ℕ) (a : Audio) → samples_of (n + m) a ≡ samples_of n a ++ samples_of m (sound_run n a)
unfolding samples_of sound_run
samples-cut zero m a = let e : 0 + m ≡ m = omega arith in rw e
samples-cut (suc n) m a =
    let e : suc n + m ≡ suc (n + m) = omega arith in
    rw (e, append_assoc) (ap (λ (l : List Float). clock_samples a ++ l) (samples-cut n m (sound_clock a)))
