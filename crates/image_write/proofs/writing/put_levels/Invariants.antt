-- `put_levels` meets its contract: channel after channel.
use Rattle.std.proofs.Common.{map, take, replicate}
use Rattle.bits.specs.Cursor.{Wrote}
use Rattle.image_write.specs.Image.{byte_at, level_num}
use Rattle.image_write.specs.Sections.{levels_at}
use Rattle.image_write.proofs.writing.put_levels.Given as goal

abbrev pub invariant-loop-x : goal.invariant-loop-x
invariant-loop-x l =
    Wrote l.initial.img l.img (byte_at levels_at) l.c (replicate l.x-index 12) (take l.x-index (map level_num l.audio.channel_out))
