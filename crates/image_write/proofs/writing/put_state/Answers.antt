-- `put_state` meets its contract: the parts fill the image.
use Rattle.std.proofs.Common.{ℕ, ◌^◌, ◌<◌, ◌≡◌, [], ◌++◌, length, drop, get_or, refl, sym, ◌∙◌, arith}
use Rattle.std.proofs.lemmas.List.{drop_all}
use lib.ListN.{length-map}
use mathlib.Core.List.{append-nil}
use Rattle.bits.specs.Fields.{bit}
use Rattle.bits.proofs.cursor.Laws.{finish}
use Rattle.image_write.specs.Image.{image_bytes, widths, fields, image_of}
use Rattle.image_write.specs.Image.{chip_widths, chip_fields, sound_widths, sound_fields, memory_widths, memory_fields, level_num}
use Rattle.image_write.proofs.Parts.{◌then◌, SameLengths, wrote-parts}
use Rattle.image_write.proofs.Whole.{total-widths}
use Rattle.image_write.proofs.writing.put_state.Goals as goal

pub returns-in-Some : goal.returns-in-Some
unfolding image_of widths fields
returns-in-Some c =
    let n = c.args.s.now.chip in
    let t = c.requires.1.typed.chip in
    let chips : SameLengths chip_widths (chip_fields n) =
    refl then refl then sym (length-map n.nt_bank_enable bit ∙ t.flags) then sym t.chr then sym t.prg then tt in
    let sounds : SameLengths sound_widths (sound_fields n.audio) =
    sym t.audio.ram_length then refl then sym (length-map n.audio.channel_out level_num ∙ t.audio.outputs_length)
    then refl then sym t.audio.phases_length then tt in
    let all = wrote-parts _ _ _ _ _ _ chip_widths (chip_fields n) _ _ chips c.put_chip.ensures
    (wrote-parts _ _ _ _ _ _ sound_widths (sound_fields n.audio) memory_widths (memory_fields c.args.s.now.memory) sounds
    c.put_sound.ensures c.put_memory.ensures) in
    let none : drop image_bytes c.args.img.now ≡ [] = drop_all image_bytes c.args.img.now (omega arith) in
    let whole : c.put_memory.new.img ++ drop image_bytes c.args.img.now ≡ c.put_memory.new.img =
    rw none (append-nil c.put_memory.new.img) in
    let bytes : (i : ℕ) → get_or c.put_memory.new.img i 0 < 2 ^ 8 = λ i. rw (← whole) (c.type_inv.img i).fits in
    let l : length c.put_memory.new.img ≡ image_bytes = c.put_memory.ensures.len ∙ c.put_sound.array_long in
    whole ∙ (rw l at (finish _ c.put_memory.new.img _ widths (fields c.args.s.now) all (rw l total-widths) bytes))
