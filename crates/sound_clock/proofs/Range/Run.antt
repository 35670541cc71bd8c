-- n clocks keep a state typed and in range, and none of their samples is a NaN or negative zero.
use Prim.Native.Nat.{ℕ, zero, suc, ◌+◌, ◌/◌, ◌<◌}
use mathlib.Core.Path.{◌≡◌, refl}
use mathlib.Core.Bool.{Bool, true, false, not}
use native.Mathlib.Omega.{arith}
use lib.Dec.{T}
use lib.ListN.{get_or, length}
use lib.Ieee.{Float, nan, is_nan}
use Rattle.sound.specs.declared.audio.Audio.{Audio}
use Rattle.sound.specs.Range.{Known}
use Rattle.sound_wave.specs.Mix.{NoMinusZero, output_of}
use Rattle.sound_wave.proofs.Range.Mix.{output-number}
use Rattle.sound_clock.specs.Clock.{update_channel, updated, sound_clock}
use Rattle.sound_clock.specs.Run.{sound_run, samples_of}
use Rattle.sound_clock.proofs.run.Laws.{outputs, length-outputs, samples-on, samples-off}
use Rattle.sound_clock.proofs.Range.Clock.{update-value, update-no-minus, updated-known, clock-known}

pub run-known : (n : ℕ) (a : Audio) → Known a → Known (sound_run n a)
unfolding sound_run
run-known zero a k = k
run-known (suc n) a k = run-known n (sound_clock a) (clock-known a k)

-- each sample is that of an update of a known state
module _ (P : Float → Type 0) (h : (a : Audio) → Known a → P (output_of (update_channel a).out)) where
  outputs-each : (n : ℕ) (a : Audio) → Known a → (i : ℕ) → i < n → P (get_or (outputs n a) i nan)
  unfolding outputs updated
  outputs-each zero a k i l = absurd (omega arith)
  outputs-each (suc n) a k zero l = h a k
  outputs-each (suc n) a k (suc i) l = outputs-each n (updated a) (updated-known a k) i (omega arith)

  pub samples-each : (n : ℕ) (a : Audio) → Known a → (i : ℕ) → i < length (samples_of n a) → P (get_or (samples_of n a) i nan)
  samples-each n a k i = go a.disabled refl
    where
      go : (d : Bool) → a.disabled ≡ d → i < length (samples_of n a) → P (get_or (samples_of n a) i nan)
      go true e l = absurd (omega (arith, rw (samples-off n a e) at l))
      go false e l =
          let on = samples-on n a e k.range.counter in
          rw on (outputs-each ((a.update_counter + n) / 15) a k i (rw (on, length-outputs) at l))

pub samples-number : (n : ℕ) (a : Audio) → Known a → (i : ℕ) → i < length (samples_of n a) → T (not (is_nan (get_or (samples_of n a) i nan)))
samples-number = samples-each (λ (x : Float). T (not (is_nan x))) (λ a k. output-number _ _ (update_channel a).out (update-value a k))

-- S16: and none is negative zero
pub samples-no-minus : (n : ℕ) (a : Audio) → Known a → (i : ℕ) → i < length (samples_of n a) → NoMinusZero (get_or (samples_of n a) i nan)
samples-no-minus = samples-each NoMinusZero (λ a k. (update-no-minus a k).1)
