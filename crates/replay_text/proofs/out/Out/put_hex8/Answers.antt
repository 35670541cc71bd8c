-- Two digits, put one after the other.
use Rattle.std.proofs.Common.{◌∙◌}
use Rattle.replay_text.specs.Out.{put_all}
use Rattle.replay_text.proofs.out.Out.put_hex8.Goals as goal

pub returns : goal.returns
unfolding put_all
returns c = c.put-2.ensures ∙ rw (c.put.ensures, c.glyph-2.ensures, c.glyph.ensures)
