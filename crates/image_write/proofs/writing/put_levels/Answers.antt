-- `put_levels` meets its contract: channel after channel.
use Rattle.std.proofs.Common.{◌≡◌, map}
use Rattle.std.proofs.lemmas.List.{get_or-map}
use lib.ListN.{length-map}
use lib.Seq.{take_all}
use Rattle.bits.specs.Fields.{total}
use Rattle.bits.proofs.Fields.{total-replicate}
use Rattle.bits.proofs.cursor.Laws.{wrote_none, wrote-suc}
use lib.Ieee.{nan}
use Rattle.image_write.specs.Image.{byte_at, level_num}
use Rattle.image_write.specs.Sections.{levels_at, out_at}
use Rattle.image_write.proofs.Levels.{level-fits}
use Rattle.image_write.proofs.Parts.{wrote-to, byte-held}
use native.Mathlib.Omega.{arith}
use Rattle.image_write.proofs.writing.put_levels.Goals as goal

pub loop-x-init : goal.loop-x-init
loop-x-init c = rw c.at_byte-c.ensures (wrote_none c.args.img.now (byte_at levels_at) (byte-held levels_at))

pub float_to_bits-x : goal.float_to_bits-x
float_to_bits-x c = (level-fits _ _ (c.requires.outputs c.loop-x.x-index (omega arith))).number

pub level_word-requires : goal.level_word-requires
level_word-requires c = let f = level-fits _ _ (c.requires.outputs c.loop-x.x-index (omega arith)) in (f.size, f.part)

pub put-requires-clause-width_bound : goal.put-requires-clause-width_bound
unfolding total level_num
put-requires-clause-width_bound c = (
  omega arith,
  rw c.level_word.ensures (level-fits _ _ (c.requires.outputs c.loop-x.x-index (omega arith))).field,
  omega (arith, c.loop-x.invariant.pos, c.loop-x.invariant.len, total-replicate c.loop-x.x-index 12),
)

pub loop-x-preserved : goal.loop-x-preserved
unfolding level_num
loop-x-preserved c =
    wrote-suc c.args.img.now c.loop-x.img c.put.new.img (byte_at levels_at) c.loop-x.c c.put.new.self 12
    (map level_num c.args.audio.now.channel_out) c.loop-x.x-index (rw length-map (omega arith)) c.loop-x.invariant
    (rw (get_or-map level_num c.args.audio.now.channel_out c.loop-x.x-index nan 0 (omega arith), ← c.level_word.ensures) c.put.ensures)

pub returns : goal.returns
unfolding total
returns c =
    let e : c.loop-x.x-index ≡ 8 = omega arith in
    wrote-to _ _ levels_at out_at _ _ _ (omega arith)
    (rw (e, take_all 8 (map level_num c.args.audio.now.channel_out) (rw length-map (omega arith))) at c.loop-x.invariant)
