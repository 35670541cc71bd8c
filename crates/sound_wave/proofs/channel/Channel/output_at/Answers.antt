-- The calls' answers, put together, and the level's range by the ranges of nibble and volume.
use Rattle.sound_wave.specs.Channel.{level_by, level_at}
use Rattle.sound_wave.proofs.Range.Channel.{level_in}
use Rattle.sound_wave.proofs.channel.Channel.output_at.Goals as goal

pub returns : goal.returns
unfolding level_at
returns c = (
  rw (c.output_by.ensures, c.volume.ensures.0, c.nibble.ensures.0, c.wave_address.ensures.0),
  record {
    number = level_by c.args.signed c.nibble.result c.volume.result;
    within = level_in c.args.signed c.nibble.result c.volume.result c.nibble.ensures.1 c.volume.ensures.1;
    is = c.output_by.ensures;
  },
)
