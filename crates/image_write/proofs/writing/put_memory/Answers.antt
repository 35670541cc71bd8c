-- `put_memory` meets its contract: its parts stand one behind the other.
use Rattle.std.proofs.Common.{◌≡◌, [], length, refl}
use Rattle.bits.specs.Fields.{total}
use Rattle.bits.proofs.Fields.{times-each}
use Rattle.limits.specs.Limits.{prg_entries, chr_entries}
use Rattle.image_write.specs.Image.{image_bytes, page_widths, page_fields, layout_widths, layout_fields}
use Rattle.image_write.specs.Sections.{layout_at}
use Rattle.image_write.proofs.Parts.{wrote-to, wrote-fields, wrote-part, wrote-end, byte-held}
use Rattle.image_write.proofs.pages.Laws.{prg-fit, chr-fit}
use native.Mathlib.Omega.{arith}
use borrow.Author.Rules.{rules}
use Rattle.image_write.proofs.writing.put_memory.Goals as goal

pub put_pages-requires : goal.put_pages-requires
put_pages-requires c =
    let p : length c.args.m.now.prg_pages ≡ prg_entries = search rules in
    rw p (refl, omega arith, prg-fit _ c.requires.ranged)

pub put_pages-requires-2 : goal.put_pages-requires-2
put_pages-requires-2 c =
    let p : length c.args.m.now.chr_pages ≡ chr_entries = search rules in
    rw p (refl, omega (arith, c.put_pages.ensures.len), chr-fit _ c.requires.ranged)

pub returns : goal.returns
unfolding total
returns c =
    let m = c.args.m.now in
    let p : length m.prg_pages ≡ prg_entries = search rules in
    let q : length m.chr_pages ≡ chr_entries = search rules in
    wrote-part _ _ _ _ _ _ _ _ _ _ (times-each page_fields page_widths (λ x. refl) prg_entries m.prg_pages p)
    (rw p at c.put_pages.ensures)
    (wrote-part _ _ _ _ _ _ _ _ _ _ (times-each page_fields page_widths (λ x. refl) chr_entries m.chr_pages q)
    (rw q at c.put_pages-2.ensures)
    (wrote-part _ _ _ _ _ _ layout_widths (layout_fields m) [] [] refl
    (wrote-to _ _ layout_at image_bytes _ _ _ (omega arith)
    (wrote-fields layout_widths (layout_fields m) c.layout_word.ensures.0 (rw c.at_byte.ensures at c.put.ensures)))
    (wrote-end _ _ (byte-held image_bytes))))
