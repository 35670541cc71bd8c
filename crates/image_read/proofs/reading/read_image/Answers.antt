-- `read_image` meets its contract at either length.
use Rattle.std.proofs.Common.{ℕ, ◌+◌, ◌<◌, ◌≡◌, List, length, take, get_or, sym, ap, ap₂, ◌∙◌, arith}
use lib.ListN.{get_or-eq_default}
use lib.Seq.{get_or-drop}
use Rattle.image_write.specs.Image.{image_bytes}
use Rattle.image_write.specs.Options.{options_image_bytes}
use Rattle.image_write.proofs.writing.Laws.{short-room, long-room, no_room}
use Rattle.image_read.specs.Reading.{read_image, read_body}
use Rattle.image_read.proofs.Accepted.{refused-length, read_is}
use Rattle.image_read.proofs.reading.read_image.Goals as goal

-- the shorter image is its body, with no byte behind it
short-is : (img : List ℕ) → length img ≡ image_bytes → read_image img ≡ read_body (take image_bytes img) 0
short-is img l =
    read_is img (short-room (length img) l)
    ∙ ap (read_body (take image_bytes img)) (get_or-eq_default img 0 {n = image_bytes} (omega (arith, l)))

pub returns-in_default : goal.returns-in_default
returns-in_default c =
    let h : length c.args.img.now < image_bytes = c.in_default.ensures.cases in
    sym (refused-length c.args.img.now (no_room _ (length c.args.img.now) (λ e. omega arith) (λ e. omega arith)))

pub returns-in-empty : goal.returns-in-empty
returns-in-empty c =
    let n : length c.in-Some.options.now + image_bytes ≡ length c.args.img.now = c.in-Some.ensures.cases.2 in
    let l : length c.args.img.now ≡ image_bytes = omega (arith, n, c.in-empty.len_below) in
    c.read_body.ensures
    ∙ ap (λ (b : List ℕ). read_body b 0) c.in-Some.ensures.cases.0
    ∙ sym (short-is c.args.img.now l)

pub returns-in-len1 : goal.returns-in-len1
returns-in-len1 c =
    let n : length c.in-Some.options.now + image_bytes ≡ length c.args.img.now = c.in-Some.ensures.cases.2 in
    let l : length c.args.img.now ≡ options_image_bytes = omega (arith, n, c.in-len1.len_at_least, c.in-len1.len_below) in
    c.read_body-in-len1.ensures
    ∙ ap₂ read_body c.in-Some.ensures.cases.0
    (ap (λ (r : List ℕ). get_or r 0 0) c.in-Some.ensures.cases.1 ∙ get_or-drop image_bytes c.args.img.now 0 0)
    ∙ sym (read_is c.args.img.now (long-room _ (length c.args.img.now) l))

pub returns-in_default-options : goal.returns-in_default-options
returns-in_default-options c =
    let n : length c.in-Some.options.now + image_bytes ≡ length c.args.img.now = c.in-Some.ensures.cases.2 in
    let m = c.in_default-options.len_at_least in
    sym (refused-length c.args.img.now (no_room _ (length c.args.img.now) (λ e. omega (arith, n, m, e)) (λ e. omega (arith, n, m, e))))
