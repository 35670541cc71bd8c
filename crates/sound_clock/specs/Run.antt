-- C4: a run of sound clocks is n single clocks, and its samples are theirs, first to last.
use Rattle.std.specs.Prelude.{ℕ, zero, suc, List, [], ◌++◌, Float}
use Rattle.sound.specs.declared.audio.Audio.{Audio}
use Rattle.sound_clock.specs.Clock.{sound_clock, clock_samples}

-- the state after n single clocks
unfoldable pub sound_run : ℕ → Audio → Audio
sound_run zero a = a
sound_run (suc n) a = sound_run n (sound_clock a)

-- the samples of n single clocks
unfoldable pub samples_of : ℕ → Audio → List Float
samples_of zero a = []
samples_of (suc n) a = clock_samples a ++ samples_of n (sound_clock a)
