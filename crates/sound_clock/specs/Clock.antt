-- C2: one sound clock, the Rust's `update_channel` and `clock`.
use Rattle.std.specs.Prelude.{ℕ, ◌+◌, ◌-◌, cond, List, [], ◌∷◌, eqb, ltb, get_or, set, Float}
use Rattle.sound.specs.declared.audio.Audio.{Audio}
use Rattle.sound.specs.Audio.{with_counter, with_channel}
use Rattle.sound_wave.specs.Channel.{channel_count, base_addr, next_phase, output_at}
use Rattle.sound_wave.specs.Mix.{mix_of, output_of}

-- S2: the channel after k; k − 1 is less than 7 − c where k + c is less than 8
unfoldable pub next_channel : ℕ → ℕ → ℕ
next_channel k c = cond (ltb (k + c) 8) 7 (k - 1)

-- S4 to S7, S14, S15: the current channel's update, its phase, its output by the new phase, and `out` by the new outputs
unfoldable pub update_channel : Audio → Audio
update_channel a =
    let k = a.current_channel in
    let phase = next_phase a.ram (base_addr k) (get_or a.phase_ext k 0) in
    let outs = set a.channel_out k (output_at a.ram (base_addr k) phase a.signed_levels) in
    record {
      ram = a.ram;
      addr = a.addr;
      auto_increment = a.auto_increment;
      disabled = a.disabled;
      update_counter = a.update_counter;
      current_channel = k;
      channel_out = outs;
      out = mix_of outs (channel_count a.ram) a.plain_sum;
      phase_ext = set a.phase_ext k phase;
      signed_levels = a.signed_levels;
      plain_sum = a.plain_sum;
    }

-- C2: the update, and the turn of the next channel
unfoldable pub updated : Audio → Audio
unfolding update_channel
updated a = with_channel (update_channel a) (next_channel a.current_channel (channel_count a.ram))

-- C2: a clock of an enabled sound counts, and every 15th updates
unfoldable pub sound_clock : Audio → Audio
unfolding updated
sound_clock a =
    cond a.disabled a
    (cond (eqb (a.update_counter + 1) 15) (updated (with_counter a 0))
    (with_counter a (a.update_counter + 1)))

-- C2: the samples of one clock, one where it makes an update
unfoldable pub clock_samples : Audio → List Float
unfolding sound_clock output_of
clock_samples a = cond a.disabled [] (cond (eqb (a.update_counter + 1) 15) (output_of (sound_clock a).out ∷ []) [])
