-- An update and a clock keep a state typed and in range.
use Prim.Native.Nat.{ℕ, ◌+◌, ◌-◌, ◌*◌, ◌≤◌, ◌<◌}
use mathlib.Core.Path.{◌≡◌, refl, ◌∙◌}
use mathlib.Core.Bool.{Bool, true, false, cond}
use native.Mathlib.Omega.{arith}
use borrow.Author.Tests.{eqb-false}
use lib.Dec.{T, ltb, eqb}
use lib.ListN.{length, get_or, length-set, drop}
use lib.Ieee.{Float, nan, binary32, fits}
use lib.Ieee.Fits.{of_int-fits}
use Rattle.limits.specs.Limits.{channel_most, phase_limit, level_most}
use Rattle.sound.specs.declared.audio.Audio.{Audio}
use Rattle.sound.specs.Audio.{with_counter}
use Rattle.sound.specs.Range.{Level, Levels, OutValue, InRange, Typed, Known}
use Rattle.limits.proofs.Each.{each_set, below_set}
use Rattle.sound.proofs.Floats.Bits.{value_out}
use Rattle.sound.proofs.audio.Range.{other-typed, other-range, counter-typed, counter-known}
use Rattle.sound_wave.specs.Channel.{channel_count, base_addr, next_phase, output_at}
use Rattle.sound_wave.specs.Mix.{Wholes, sizes, NoMinusZero, output_of}
use Rattle.sound_wave.proofs.mix.Laws.{mix-rounds, first_is, first-size}
use Rattle.sound_wave.proofs.Range.Channel.{next-phase-small, level-small}
use Rattle.sound_wave.proofs.Range.Mix.{mix-fits, wholes-of, wholes-length, wholes-size, mix-value, mix-no-minus}
use Rattle.sound_clock.specs.Clock.{next_channel, update_channel, updated, sound_clock}
use Rattle.sound_clock.specs.Exact.{UpdateExact}

-- ---- an update

next-channel-small : (k c : ℕ) → k ≤ channel_most → next_channel k c ≤ channel_most
unfolding next_channel
next-channel-small k c h = go (ltb (k + c) 8)
  where
    go : (b : Bool) → cond b 7 (k - 1) ≤ channel_most
    go true = omega arith
    go false = omega arith

update-typed : (a : Audio) → Typed a → Typed (update_channel a)
unfolding update_channel
update-typed a t =
    record {
      ram_length = t.ram_length;
      bytes = t.bytes;
      outputs_length = length-set a.channel_out _ _ ∙ t.outputs_length;
      outputs_fit = λ i.
          each_set (λ (x : Float). T (fits binary32 x)) nan a.channel_out _ _ (of_int-fits binary32 _) i (t.outputs_fit i);
      phases_length = length-set a.phase_ext _ _ ∙ t.phases_length;
      out_fits = mix-fits _ (channel_count a.ram) a.plain_sum;
    }

-- the update's phase, and its output
abbrev pub phase-of : Audio → ℕ
phase-of a = next_phase a.ram (base_addr a.current_channel) (get_or a.phase_ext a.current_channel 0)

abbrev pub output-of : Audio → Float
output-of a = output_at a.ram (base_addr a.current_channel) (phase-of a) a.signed_levels

update-levels : (a : Audio) → Level a.signed_levels (output-of a) → Levels a.signed_levels a.channel_out
    → Levels a.signed_levels (update_channel a).channel_out
unfolding update_channel
update-levels a o h i l = each_set (Level a.signed_levels) nan a.channel_out _ _ o i (h i l)

-- after an update `out` is in the range of the choice, finite and no negative zero
out-value : (a : Audio) → length a.channel_out ≡ 8 → Level a.signed_levels (output-of a) → Levels a.signed_levels a.channel_out
    → OutValue a.signed_levels a.plain_sum (update_channel a).out
unfolding update_channel
out-value a l o h =
    mix-value a.signed_levels a.plain_sum (update_channel a).channel_out (channel_count a.ram) (length-set a.channel_out _ _ ∙ l)
    (update-levels a o h) (omega arith)

pub update-range : (a : Audio) → length a.channel_out ≡ 8 → phase-of a < phase_limit → Level a.signed_levels (output-of a) → InRange a
    → InRange (update_channel a)
unfolding update_channel
update-range a l p o r =
    record {
      counter = r.counter;
      channel = r.channel;
      address = r.address;
      phases = below_set a.phase_ext a.current_channel _ phase_limit r.phases p;
      outputs = update-levels a o r.outputs;
      mixed = value_out a.signed_levels a.plain_sum _ (mix-fits _ (channel_count a.ram) a.plain_sum) (out-value a l o r.outputs);
    }

-- what the types of the fields say of both
phase-small : (a : Audio) → Typed a → phase-of a < phase_limit
phase-small a t = next-phase-small a.ram _ _ (t.bytes _)

output-in : (a : Audio) → Typed a → Level a.signed_levels (output-of a)
output-in a t = record { number = _; within = level-small _ _ _ a.signed_levels t.bytes; is = refl }

module _ (a : Audio) (k : Known a) where
  known-levels : Levels a.signed_levels (update_channel a).channel_out
  known-levels = update-levels a (output-in a k.typed) k.range.outputs

  -- R11
  pub update-value : OutValue a.signed_levels a.plain_sum (update_channel a).out
  update-value = out-value a k.typed.outputs_length (output-in a k.typed) k.range.outputs

  -- S16: neither `out` nor its sample is negative zero
  pub update-no-minus : NoMinusZero (update_channel a).out × NoMinusZero (output_of (update_channel a).out)
  unfolding update_channel
  update-no-minus =
      mix-no-minus a.signed_levels a.plain_sum (update_channel a).channel_out (channel_count a.ram)
      (update-typed a k.typed).outputs_length known-levels (omega arith)

  -- S7, S14 to S16: its outputs as whole numbers, the exact sums of the first of them in use, and `out` of the exact sum
  wholes : Wholes a.signed_levels (update_channel a).channel_out
  wholes = wholes-of a.signed_levels (update_channel a).channel_out 8 (update-typed a k.typed).outputs_length known-levels

  sizes-in : sizes (drop (7 - channel_count a.ram) wholes.numbers) ≤ 8 * level_most
  sizes-in =
      wholes-size a.signed_levels wholes.numbers (channel_count a.ram)
      (wholes-length a.signed_levels (update_channel a).channel_out wholes (update-typed a k.typed).outputs_length) (omega arith)
      wholes.within

  pub update-exact : UpdateExact a
  unfolding update_channel
  update-exact =
      let w = wholes in
      let c = channel_count a.ram in
      let z = sizes-in in
      record {
        wholes = w;
        sums = λ n. rw w.are (first_is w.numbers c n (omega arith));
        size = λ n. first-size (drop (7 - c) w.numbers) n (8 * level_most) z;
        out = rw w.are (mix-rounds w.numbers c a.plain_sum (omega arith) (omega arith));
      }

pub update-known : (a : Audio) → Known a → Known (update_channel a)
update-known a k =
    record {
      typed = update-typed a k.typed;
      range = update-range a k.typed.outputs_length (phase-small a k.typed) (output-in a k.typed) k.range;
    }

updated-typed : (a : Audio) → Typed a → Typed (updated a)
unfolding updated
updated-typed a t = other-typed (update_channel a) _ refl refl refl refl (update-typed a t)

pub updated-range : (a : Audio) → length a.channel_out ≡ 8 → phase-of a < phase_limit → Level a.signed_levels (output-of a) → InRange a
    → InRange (updated a)
unfolding updated update_channel
updated-range a l p o r =
    other-range (update_channel a) _ r.counter (next-channel-small _ _ r.channel) r.address refl refl refl refl refl
    (update-range a l p o r)

pub updated-known : (a : Audio) → Known a → Known (updated a)
updated-known a k =
    record {
      typed = updated-typed a k.typed;
      range = updated-range a k.typed.outputs_length (phase-small a k.typed) (output-in a k.typed) k.range;
    }

-- ---- a clock

pub clock-typed : (a : Audio) → Typed a → Typed (sound_clock a)
unfolding sound_clock
clock-typed a t = go a.disabled (eqb (a.update_counter + 1) 15)
  where
    go : (d e : Bool) → Typed (cond d a (cond e (updated (with_counter a 0)) (with_counter a (a.update_counter + 1))))
    go true e = t
    go false true = updated-typed (with_counter a 0) (counter-typed a 0 t)
    go false false = counter-typed a (a.update_counter + 1) t

pub clock-known : (a : Audio) → Known a → Known (sound_clock a)
unfolding sound_clock
clock-known a k = go a.disabled (eqb (a.update_counter + 1) 15) refl
  where
    go : (d e : Bool) → eqb (a.update_counter + 1) 15 ≡ e
        → Known (cond d a (cond e (updated (with_counter a 0)) (with_counter a (a.update_counter + 1))))
    go true e p = k
    go false true p = updated-known (with_counter a 0) (counter-known a 0 (omega arith) k)
    go false false p = counter-known a (a.update_counter + 1)
        (omega (arith, eqb-false (a.update_counter + 1) 15 p, k.range.counter)) k
