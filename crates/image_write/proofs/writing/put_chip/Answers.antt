-- `put_chip` meets its contract: its parts stand one behind the other.
use Rattle.std.proofs.Common.{ℕ, ◌+◌, ◌*◌, ◌≡◌, List, [], length, refl, sym, ◌∙◌, rules}
use lib.ListN.{length-map}
use Rattle.bits.specs.Fields.{total, bit}
use Rattle.bits.specs.Cursor.{Wrote}
use Rattle.bits.specs.declared.cursor.Cursor.{Cursor}
use Rattle.image_write.specs.Image.{image_bytes, joined, chip_widths, chip_fields, part}
use Rattle.image_write.specs.Sections.{chip_at, ram_at}
use Rattle.image_write.proofs.Parts.{wrote-to, wrote-fields, wrote-end, wrote-part, wrote-twelve}
use native.Mathlib.Omega.{arith}
use Rattle.image_write.proofs.writing.put_chip.Goals as goal

-- ---- where the cursor stands after each part

-- at bit k of an image
abbrev At : Cursor → List ℕ → ℕ → Type 0
At w img k = (w.at * 8 + w.n ≡ k) × (length img ≡ image_bytes)

-- past the fields that were written
after : {a b : List ℕ} {u v : Cursor} {ws vs : List ℕ} (k : ℕ) → Wrote a b u v ws vs → At u a k → At v b (k + total ws)
after k p h = (omega (arith, p.pos, h.0), omega (arith, p.len, h.1))

-- ---- what each call asks

pub put-requires-2-clause-width_bound : goal.put-requires-2-clause-width_bound
unfolding total
put-requires-2-clause-width_bound c =
    let a = after 0 (rw c.at_byte-c.ensures at c.put.ensures) (refl, c.told-img) in
    (omega arith, c.detection_word.ensures.upper_bound, omega (arith, a.0, a.1))

pub put-requires-3-clause-width_bound : goal.put-requires-3-clause-width_bound
unfolding total
put-requires-3-clause-width_bound c =
    let a = after 53 c.put-2.ensures (after 0 (rw c.at_byte-c.ensures at c.put.ensures) (refl, c.told-img)) in
    (omega arith, c.flags_word.ensures.1, omega (arith, a.0, a.1))

pub put-requires-4-clause-width_bound : goal.put-requires-4-clause-width_bound
unfolding total
put-requires-4-clause-width_bound c =
    let a = after 58 c.put-3.ensures
    (after 53 c.put-2.ensures (after 0 (rw c.at_byte-c.ensures at c.put.ensures) (refl, c.told-img))) in
    (omega arith, c.load.ensures.upper_bound, omega (arith, a.0, a.1))

pub put-requires-5-clause-width_bound : goal.put-requires-5-clause-width_bound
unfolding total
put-requires-5-clause-width_bound c =
    let a = after 70 c.put-4.ensures (after 58 c.put-3.ensures
    (after 53 c.put-2.ensures (after 0 (rw c.at_byte-c.ensures at c.put.ensures) (refl, c.told-img)))) in
    (omega arith, c.load-2.ensures.upper_bound, omega (arith, a.0, a.1))

pub put-requires-6-clause-width_bound : goal.put-requires-6-clause-width_bound
unfolding total
put-requires-6-clause-width_bound c =
    let a = after 118 c.put-5.ensures (after 70 c.put-4.ensures (after 58 c.put-3.ensures
    (after 53 c.put-2.ensures (after 0 (rw c.at_byte-c.ensures at c.put.ensures) (refl, c.told-img))))) in
    (omega arith, c.banks_word.ensures.1, omega (arith, a.0, a.1))

-- ---- the parts together

chip-bits : chip_at * 8 + total (joined chip_widths) ≡ ram_at * 8
unfolding total joined
chip-bits = refl

pub returns : goal.returns
unfolding total
returns c =
    let n = c.args.chip.now in
    let f = chip_fields n in
    let flags : length n.nt_bank_enable ≡ 12 = search rules in
    let chr : length n.chr_banks ≡ 12 = search rules in
    let prg : length n.prg_banks ≡ 3 = search rules in
    wrote-to _ _ chip_at ram_at _ _ _ chip-bits
    (wrote-part _ _ _ _ _ _ (part chip_widths 0) (part f 0) _ _ refl
    (wrote-fields (part chip_widths 0) (part f 0) c.regs_word.ensures.value (rw c.at_byte-c.ensures at c.put.ensures))
    (wrote-part _ _ _ _ _ _ (part chip_widths 1) (part f 1) _ _ refl
    (wrote-fields (part chip_widths 1) (part f 1) c.detection_word.ensures.value c.put-2.ensures)
    (wrote-part _ _ _ _ _ _ (part chip_widths 2) (part f 2) _ _ (sym (length-map n.nt_bank_enable bit ∙ flags))
    (wrote-fields (part chip_widths 2) (part f 2) c.flags_word.ensures.0 c.put-3.ensures)
    (wrote-part _ _ _ _ _ _ (part chip_widths 3) (part f 3) _ _ (sym chr)
    (wrote-twelve _ _ _ _ _ _ n.chr_banks _ _ chr c.load.ensures.value c.load-2.ensures.value c.put-4.ensures c.put-5.ensures)
    (wrote-part _ _ _ _ _ _ (part chip_widths 4) (part f 4) [] [] (sym prg)
    (wrote-fields (part chip_widths 4) (part f 4) c.banks_word.ensures.0 c.put-6.ensures)
    (wrote-end _ _ c.put-6.ensures.held))))))
