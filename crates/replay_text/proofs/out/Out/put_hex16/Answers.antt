-- The digits one by one.
use Rattle.std.proofs.Common.{◌∙◌}
use Rattle.replay_text.proofs.out.Out.put_hex16.Goals as goal

pub returns : goal.returns
returns c = c.put_all.ensures ∙ rw (c.glyph.ensures, c.glyph-2.ensures, c.glyph-3.ensures, c.glyph-4.ensures)
