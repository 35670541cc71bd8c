-- The worked values are what the definitions compute to.
use mathlib.Core.Path.{◌≡◌, refl}
use mathlib.Core.Bool.{true}
use mathlib.Core.List.{◌++◌}
use lib.Ieee.{add, sum, div, mul, round, units, odd, size, span, climb, of_int, of_bits, of_fields, to_bits}
use lib.Count.{count_trailing_zeros}
use Rattle.sound.specs.Registers.{peeked, advanced, read_of, written}
use Rattle.sound_wave.specs.Channel.{nibble_at, next_phase, signed_of, level_at}
use Rattle.sound_wave.specs.Mix.{sum_from, sum_of, mix_of, output_of}
use Rattle.sound_clock.specs.Clock.{next_channel, update_channel, updated, sound_clock, clock_samples}
use Rattle.sound_clock.specs.Run.{sound_run, samples_of}
use Rattle.sound_clock.specs.Cases.{right, mixes, signed_levels, signed_mixes, duets, phases, turns, halved, ports}

pub computed : right (mixes ++ signed_levels ++ signed_mixes ++ duets ++ phases ++ turns ++ halved ++ ports) ≡ true
unfolding right peeked advanced read_of written nibble_at next_phase signed_of level_at sum_from sum_of mix_of output_of
    next_channel update_channel updated sound_clock clock_samples sound_run samples_of
    add sum div mul round units odd size span climb of_int of_bits of_fields to_bits count_trailing_zeros
computed = refl
