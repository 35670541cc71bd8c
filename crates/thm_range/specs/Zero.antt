-- S16: no output, no `out` and no sample is negative zero.
use Rattle.std.specs.Prelude.{ℕ, ◌<◌, Float, get_or}
use Rattle.std.specs.Float.{nan}
use Rattle.cut.specs.Calls.{Trace}
use Rattle.cut.specs.Always.{EachSample}
use Rattle.sound.specs.declared.audio.Audio.{Audio}
use Rattle.sound_wave.specs.Mix.{NoMinusZero}

-- of the sound at the end, and of all samples on the way
pub record NeverMinusZero {Arg Answer : Type 0} (a : Audio) (t : Trace Float Arg Answer) : Type 0 where
  pub outputs : (i : ℕ) → i < 8 → NoMinusZero (get_or a.channel_out i nan)
  pub out : NoMinusZero a.out
  pub samples : EachSample NoMinusZero t
