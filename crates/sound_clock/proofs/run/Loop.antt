-- The loop of `run`: what is made and what is still to make are the whole run, and the rest of the buffer is as it was.
use Prim.Native.Nat.{ℕ, suc, ◌+◌, ◌-◌, ◌/◌, ◌%◌, ◌≤◌, ◌<◌}
use mathlib.Core.Path.{◌≡◌, refl, sym, ap, ◌∙◌, subst}
use mathlib.Core.Bool.{false}
use mathlib.Core.List.{List, [], ◌++◌, append_assoc, append-nil}
use native.Mathlib.Omega.{arith}
use native.Mathlib.Numerals.{add-one}
use lib.Dec.{leb}
use lib.ListN.{get_or, set, length, take, drop, length-set, take-append-drop, drop_of_length-le}
use lib.Seq.{take-suc-set, drop-set-lt, drop-drop}
use Rattle.std.proofs.lemmas.List.{length-take}
use lib.Ieee.{Float, nan}
use Rattle.limits.specs.Limits.{phase_limit, update_most}
use Rattle.sound.specs.declared.audio.Audio.{Audio}
use Rattle.sound.specs.Audio.{with_counter}
use Rattle.sound_wave.specs.Channel.{channel_count, base_addr, next_phase, output_at}
use Rattle.sound_wave.specs.Mix.{sum_of, mixed_of, mix_of, output_of, resum_of}
use Rattle.sound_clock.specs.Clock.{next_channel, update_channel, updated}
use Rattle.sound.specs.Range.{Level, InRange}
use Rattle.sound.proofs.range.Laws.{level-size}
use Rattle.sound_wave.proofs.Range.Mix.{wholes-of, wholes-length, wholes-size}
use Rattle.sound_clock.proofs.Range.Clock.{phase-of, output-of, updated-range}
use Rattle.sound_wave.proofs.mix.Laws.{sum-again}
use Rattle.sound_clock.specs.Run.{sound_run, samples_of}
use Rattle.sound_clock.proofs.run.Laws.{updates, outputs, length-outputs, run_on, samples-on}

-- a state with the fields that an update changes
abbrev with_parts : Audio → List Float → Float → List ℕ → ℕ → Audio
with_parts a outs out phases k =
    record {
      ram = a.ram;
      addr = a.addr;
      auto_increment = a.auto_increment;
      disabled = a.disabled;
      update_counter = a.update_counter;
      current_channel = k;
      channel_out = outs;
      out = out;
      phase_ext = phases;
      signed_levels = a.signed_levels;
      plain_sum = a.plain_sum;
    }

-- the update by the parts that the code computes, each from those before it
from_parts : (a : Audio) (base phase c : ℕ) (level sum out : Float) (next : ℕ)
    → base ≡ base_addr a.current_channel → phase ≡ next_phase a.ram base (get_or a.phase_ext a.current_channel 0)
    → level ≡ output_at a.ram base phase a.signed_levels → c ≡ channel_count a.ram
    → sum ≡ sum_of (set a.channel_out a.current_channel level) c
    → out ≡ mixed_of sum c a.plain_sum → next ≡ next_channel a.current_channel c
    → with_parts a (set a.channel_out a.current_channel level) out
    (set a.phase_ext a.current_channel phase) next ≡ updated a
unfolding updated update_channel mix_of
from_parts a base phase c level sum out next eb ep el ec es eo en = rw (en, eo, es, ec, el, ep, eb)

-- the sum that is kept is that of the new outputs
sum_kept : (a : Audio) (c : ℕ) (level sum now : Float) → length a.channel_out ≡ 8 → InRange a → Level a.signed_levels level → c < 8
    → sum ≡ sum_of a.channel_out c
    → now ≡ resum_of sum (get_or a.channel_out a.current_channel nan) level (leb 7 (a.current_channel + c))
    → now ≡ sum_of (set a.channel_out a.current_channel level) c
sum_kept a c level sum now long r l h e n =
    let signed = a.signed_levels in
    let w = wholes-of signed a.channel_out 8 long r.outputs in
    let zs = w.numbers in
    let m = wholes-length signed a.channel_out w long in
    n ∙ rw (e, w.are, l.is)
    (sym
    (sum-again zs c a.current_channel l.number m h (omega (arith, r.channel)) (wholes-size signed zs c m h w.within)
    (level-size signed l.number l.within)))

-- i of count updates are made, from the buffer s₀ and the state a₀; s is the buffer, a the state, and sum that of channels 7 − c up to 7
pub record Going (s₀ : List Float) (count : ℕ) (a₀ : Audio) (c : ℕ) (s : List Float) (a : Audio) (sum : Float) (i : ℕ) : Type 0 where
  pub within : i ≤ count
  pub long : length a.channel_out ≡ 8
  pub range : InRange a
  pub channels : c ≡ channel_count a.ram
  pub summed : sum ≡ sum_of a.channel_out c
  pub same : length s ≡ length s₀
  pub state : updates (count - i) a ≡ updates count a₀
  pub made : take i s ++ outputs (count - i) a ≡ outputs count a₀
  pub rest : drop i s ≡ drop i s₀

pub going-none : (s : List Float) (count : ℕ) (a : Audio) (c : ℕ) (sum : Float) → length a.channel_out ≡ 8 → InRange a → c ≡ channel_count a.ram
    → sum ≡ sum_of a.channel_out c
    → Going s count a c s a sum 0
going-none s count a c sum w r e m =
    let all : count - 0 ≡ count = omega arith in
    record { within = omega arith; long = w; range = r; channels = e; summed = m; same = refl; state = rw all; made = rw all; rest = refl }

module _ (s₀ : List Float) (count : ℕ) (a₀ : Audio) (c : ℕ) (s : List Float) (a : Audio) (sum : Float) (i : ℕ)
    (g : Going s₀ count a₀ c s a sum i) where
  module _ (h : i < count) (room : count ≤ length s₀) where
    -- one update more
    going_more : (now : Float) → phase-of a < phase_limit → Level a.signed_levels (output-of a) → now ≡ sum_of (updated a).channel_out c
        → Going s₀ count a₀ c (set s i (output_of (updated a).out)) (updated a) now (i + 1)
    unfolding updates outputs updated update_channel
    going_more now p l m =
        let v = output_of (updated a).out in
        let e : count - i ≡ suc (count - (i + 1)) = omega arith in
        let w : i < length s = omega arith in
        record {
          within = omega arith;
          long = length-set a.channel_out _ _ ∙ g.long;
          range = updated-range a g.long p l g.range;
          channels = g.channels;
          summed = m;
          same = length-set s i v ∙ g.same;
          state = rw e at g.state;
          made = rw (add-one, take-suc-set s i v w, append_assoc) (rw (e, add-one) at g.made);
          rest = drop-set-lt (i + 1) s i v (omega arith) ∙ sym (drop-drop 1 i s) ∙ ap (drop 1) g.rest ∙ drop-drop 1 i s₀;
        }

    -- the same of a state, a sum and a sample that equal its own
    going_step : (b : Audio) (now v : Float) → phase-of a < phase_limit → Level a.signed_levels (output-of a) → b ≡ updated a
        → now ≡ sum_of b.channel_out c → v ≡ output_of b.out
        → Going s₀ count a₀ c (set s i v) b now (i + 1)
    going_step b now v p l e m o = rw (o, e) (going_more now p l (rw e at m))

    -- the same by what an update computes
    going_at : (base phase : ℕ) (level now out : Float) (next : ℕ) (v : Float)
        → base ≡ base_addr a.current_channel
        → (phase ≡ next_phase a.ram base (get_or a.phase_ext a.current_channel 0)) × (phase < phase_limit)
        → (level ≡ output_at a.ram base phase a.signed_levels) × Level a.signed_levels level
        → now ≡ resum_of sum (get_or a.channel_out a.current_channel nan) level (leb 7 (a.current_channel + c))
        → out ≡ mixed_of now c a.plain_sum → next ≡ next_channel a.current_channel c → v ≡ output_of out
        → Going s₀ count a₀ c (set s i v)
        (with_parts a (set a.channel_out a.current_channel level) out
        (set a.phase_ext a.current_channel phase) next) now (i + 1)
    going_at base phase level now out next v eb ep el en eo ex ev =
        let same : next_phase a.ram base (get_or a.phase_ext a.current_channel 0) ≡ phase-of a =
        ap (λ b. next_phase a.ram b (get_or a.phase_ext a.current_channel 0)) eb in
        let p = subst (λ x. x < phase_limit) (ep.0 ∙ same) ep.1 in
        let o : Level a.signed_levels (output-of a) = subst (Level a.signed_levels) (el.0 ∙ rw (eb, ep.0 ∙ same)) el.1 in
        let m = sum_kept a c level sum now g.long g.range el.1 (omega (arith, g.channels)) g.summed en in
        going_step _ now v p o (from_parts a base phase c level now out next eb ep.0 el.0 g.channels m eo ex) m ev

    -- and as the code has it: the channel as an index k
    pub going-parts : (k base phase : ℕ) (level now out : Float) (next : ℕ) (v : Float)
        → k ≡ a.current_channel → base ≡ base_addr k
        → (phase ≡ next_phase a.ram base (get_or a.phase_ext k 0)) × (phase < phase_limit)
        → (level ≡ output_at a.ram base phase a.signed_levels) × Level a.signed_levels level
        → now ≡ resum_of sum (get_or a.channel_out k nan) level (leb 7 (a.current_channel + c))
        → out ≡ mixed_of now c a.plain_sum → next ≡ next_channel a.current_channel c → v ≡ output_of out
        → Going s₀ count a₀ c (set s i v) (with_parts a (set a.channel_out k level) out (set a.phase_ext k phase) next) now (i + 1)
    going-parts k base phase level now out next v ek eb ep el en eo ex ev =
        rw ek (going_at base phase level now out next v (rw ek at eb) (rw ek at ep) el (rw ek at en) eo ex ev)

  pub going_end : count ≤ i → (a ≡ updates count a₀) × (s ≡ outputs count a₀ ++ drop count s₀)
  unfolding updates outputs
  going_end h =
      let e : i ≡ count = omega arith in
      let z : count - count ≡ 0 = omega arith in
      let st : a ≡ updates count a₀ = rw (e, z) at g.state in
      let md : take count s ++ [] ≡ outputs count a₀ = rw (e, z) at g.made in (
        st,
        sym (take-append-drop count s) ∙ ap (λ (t : List Float). t ++ drop count s) (sym (append-nil (take count s)) ∙ md)
            ∙ ap (λ (t : List Float). outputs count a₀ ++ t) (rw e at g.rest),
      )

-- ---- where the loop ends, n clocks are made; u is the counter that they began from

module _ (n u : ℕ) (a : Audio) (d : a.disabled ≡ false) (e : u ≡ a.update_counter) (h : a.update_counter ≤ update_most) where
  pub made-all : (u + n) / 15 ≡ length (samples_of n a)
  made-all = rw e (sym (ap length (samples-on n a d h) ∙ length-outputs _ a))

  pub clocked-all : (b : Audio) → b ≡ updates ((u + n) / 15) a → with_counter b ((u + n) % 15) ≡ sound_run n a
  clocked-all b g = rw (g, e) (sym (run_on n a d h))

  pub filled-all : (s t : List Float) → t ≡ outputs ((u + n) / 15) a ++ drop ((u + n) / 15) (take ((u + n) / 15) s)
      → t ++ drop ((u + n) / 15) s ≡ samples_of n a ++ drop (length (samples_of n a)) s
  filled-all s t g =
      let k = (a.update_counter + n) / 15 in
      let z : drop k (take k s) ≡ [] = drop_of_length-le (take k s) (omega (arith, length-take k s)) in
      rw (rw e at g, e, z, append-nil, samples-on n a d h, length-outputs)
