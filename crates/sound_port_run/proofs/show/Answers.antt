-- The bytes are those of as many calls of `read_register`.
use Rattle.std.proofs.Common.{◌∙◌, length}
use Rattle.sound_port_run.proofs.Laws.{agree-block}
use Rattle.sound_port_run.proofs.show.Goals as goal

pub returns : goal.returns
returns c =
    c.agreeing.ensures
    ∙ agree-block (length c.args.bytes.now) c.args.audio _ c.requires (rw c.of.ensures at c.read_block.ensures.out_after)
