-- `put_sound` meets its contract: its parts stand one behind the other.
use Rattle.std.proofs.Common.{[], refl, sym, ◌∙◌}
use lib.ListN.{length-map}
use Rattle.bits.specs.Fields.{total}
use Rattle.image_write.specs.Image.{part, sound_widths, sound_fields, level_num}
use Rattle.image_write.specs.Sections.{port_at, levels_at, prg_pages_at}
use Rattle.image_write.proofs.Parts.{wrote-to, wrote-fields, wrote-part, wrote-end, byte-held}
use native.Mathlib.Omega.{arith}
use borrow.Author.Rules.{rules}
use Rattle.image_write.proofs.writing.put_sound.Goals as goal

pub put_out-requires : goal.put_out-requires
put_out-requires c = c.requires.mixed.number

pub returns : goal.returns
unfolding total
returns c =
    let f = sound_fields c.args.audio.now in
    wrote-part _ _ _ _ _ _ (part sound_widths 0) (part f 0) _ _ (sym (search rules)) c.put_ram.ensures
    (wrote-part _ _ _ _ _ _ (part sound_widths 1) (part f 1) _ _ refl
    (wrote-to _ _ port_at levels_at _ _ _ (omega arith)
    (wrote-fields (part sound_widths 1) (part f 1) c.port_word.ensures.value (rw c.at_byte.ensures at c.put.ensures)))
    (wrote-part _ _ _ _ _ _ (part sound_widths 2) (part f 2) _ _
    (sym (length-map c.args.audio.now.channel_out level_num ∙ search rules)) c.put_levels.ensures
    (wrote-part _ _ _ _ _ _ (part sound_widths 3) (part f 3) _ _ refl c.put_out.ensures
    (wrote-part _ _ _ _ _ _ (part sound_widths 4) (part f 4) [] [] (sym (search rules)) c.put_phases.ensures
    (wrote-end _ _ (byte-held prg_pages_at))))))
