-- `put_image` meets its contract at either length.
use Rattle.std.proofs.Common.{ℕ, true, ◌≡◌, List, ◌++◌, length, drop, set, sym, ap, ◌∙◌, arith}
use Rattle.std.proofs.lemmas.List.{drop_all}
use lib.Seq.{length-take-le}
use mathlib.Core.List.{append-nil}
use Rattle.image_write.specs.Image.{image_bytes, image_of}
use Rattle.board_state.specs.declared.State.{State}
use Rattle.bits.specs.Fields.{pack}
use Rattle.board_state.specs.declared.Options.{Options}
use Rattle.image_write.specs.Options.{option_set, option_widths, option_fields, room_for}
use Rattle.image_write.proofs.writing.Laws.{room-first, room-short, length-put, image-short, put-long}
use Rattle.image_write.proofs.writing.put_image.Goals as goal

pub slice_bounds-put_state-end : goal.slice_bounds-put_state-end
slice_bounds-put_state-end c = room-first (option_set c.args.s) (length c.args.img.now) c.requires.0

pub slice_bounds-put_state-end-2 : goal.slice_bounds-put_state-end-2
slice_bounds-put_state-end-2 c =
    sym (length-take-le image_bytes c.args.img.now (room-first (option_set c.args.s) (length c.args.img.now) c.requires.0))

pub put_state-requires : goal.put_state-requires
put_state-requires c = (
  length-take-le image_bytes c.args.img.now (room-first (option_set c.args.s) (length c.args.img.now) c.requires.0),
  c.requires.1,
)

-- a count in range has at most one bit more than seven
pub options_byte-requires : goal.options_byte-requires
options_byte-requires c = c.requires.1.range.memory.ranged.sized.layout.prg_ram

-- the image over the first bytes leaves as many
as_long : (s : State) (img new : List ℕ) (k : ℕ) → room_for (option_set s) (length img) ≡ true → new ≡ image_of s
    → length (new ++ drop image_bytes img) ≡ k → length img ≡ k
as_long s img new k r e l = sym (length-put s img new (room-first (option_set s) (length img) r) e) ∙ l

-- the first bytes are the image, and behind them is the last one
pub returns-then-img-eq-OPTIONS_IMAGE_BYTES : goal.returns-then-img-eq-OPTIONS_IMAGE_BYTES
returns-then-img-eq-OPTIONS_IMAGE_BYTES c =
    ap (λ (l : List ℕ). set (l ++ drop image_bytes c.args.img.now) image_bytes c.options_byte.result) c.put_state.ensures
    ∙ put-long c.args.s c.args.img.now c.options_byte.result
    (as_long c.args.s c.args.img.now _ _ c.requires.0 c.put_state.ensures c.if-img-eq-OPTIONS_IMAGE_BYTES.true)
    (c.options_byte.ensures ∙ ap (λ (o : Options). pack option_widths (option_fields o c.args.s.memory.layout.prg_ram)) c.options.ensures)

pub returns-else-img-eq-OPTIONS_IMAGE_BYTES : goal.returns-else-img-eq-OPTIONS_IMAGE_BYTES
returns-else-img-eq-OPTIONS_IMAGE_BYTES c =
    let same = length-put c.args.s c.args.img.now c.put_state.new.img
    (room-first (option_set c.args.s) (length c.args.img.now) c.requires.0) c.put_state.ensures in
    let l : length c.args.img.now ≡ image_bytes =
    room-short (option_set c.args.s) (length c.args.img.now) c.requires.0 (λ h. c.if-img-eq-OPTIONS_IMAGE_BYTES.false (same ∙ h)) in
    rw (drop_all image_bytes c.args.img.now (omega arith), append-nil c.put_state.new.img)
    (c.put_state.ensures ∙ sym (image-short c.args.s (length c.args.img.now) l))
