-- S14 to S16: what the next update of a sound makes is exact.
use Rattle.std.specs.Prelude.{ℕ, ◌≡◌, ◌-◌, ◌*◌, ◌≤◌, take, drop, unsigned_abs, from_bits}
use Rattle.std.specs.Float.{binary32}
use Rattle.limits.specs.Limits.{level_most}
use Rattle.sound.specs.declared.audio.Audio.{Audio}
use Rattle.sound.specs.Levels.{whole_z}
use Rattle.sound_wave.specs.Channel.{channel_count}
use Rattle.sound_wave.specs.Mix.{Wholes, sum_from, total, exact_out}
use Rattle.sound_clock.specs.Clock.{update_channel}

-- The outputs are whole numbers in the range of the choice. The f32 sum of the first k in use, for each k, is the float of their exact sum,
-- which is at most 30,600 in size, so no addition rounds. `out` is the float of the exact sum of all in use, or its quotient rounded once.
pub record UpdateExact (a : Audio) : Type 0 where
  pub wholes : Wholes a.signed_levels (update_channel a).channel_out
  pub sums : (k : ℕ) → let c = channel_count a.ram in
      sum_from (from_bits binary32 0) (take k (drop (7 - c) (update_channel a).channel_out))
      ≡ whole_z (total (take k (drop (7 - c) wholes.numbers)))
  pub size : (k : ℕ) → unsigned_abs (total (take k (drop (7 - channel_count a.ram) wholes.numbers))) ≤ 8 * level_most
  pub out : let c = channel_count a.ram in
      (update_channel a).out ≡ exact_out (total (drop (7 - c) wholes.numbers)) c a.plain_sum
