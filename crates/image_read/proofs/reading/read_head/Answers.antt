-- `read_head` meets its contract: the words stand one behind the other.
use mathlib.Core.Path.{◌≡◌, refl}
use mathlib.Core.List.{List, []}
use Prim.Native.Nat.{ℕ, ◌+◌, ◌-◌, ◌*◌}
use lib.ListN.{replicate}
use Rattle.bits.specs.Fields.{total, unpack}
use Rattle.bits.specs.Cursor.{Read}
use Rattle.bits.specs.declared.cursor.Cursor.{Cursor}
use Rattle.bits.proofs.cursor.Laws.{read-append, read_word}
use Rattle.image_write.specs.Image.{part, joined, chip_widths}
use Rattle.image_write.specs.Sections.{chip_at, ram_at}
use Rattle.image_read.proofs.Sections.{section-is, read-part, read-end, chip-bits}
use native.Mathlib.Omega.{arith}
use Rattle.image_read.proofs.reading.read_head.Goals as goal

-- ---- where the cursor stands after each word: at bit k

abbrev At : Cursor → ℕ → Type 0
At r k = r.at * 8 ≡ k + r.n

-- past the word that was read
after : {img : List ℕ} {r s : Cursor} {ws vs : List ℕ} (k : ℕ) → Read img r s ws vs → At r k → At s (k + total ws)
after k p h = omega (arith, p.pos, h)

-- ---- what each call asks

pub get-detection-requires : goal.get-detection-requires
unfolding total
get-detection-requires c =
    let a = after 0 (rw c.at_byte-c.ensures at c.get-regs.ensures) refl in
    record { behind = c.get-regs.ensures.behind; width_bound = (omega arith, omega (arith, a, c.told-img)) }

pub get-flags-requires : goal.get-flags-requires
unfolding total
get-flags-requires c =
    let a = after 53 c.get-detection.ensures (after 0 (rw c.at_byte-c.ensures at c.get-regs.ensures) refl) in
    record { behind = c.get-detection.ensures.behind; width_bound = (omega arith, omega (arith, a, c.told-img)) }

pub get-chr_first-requires : goal.get-chr_first-requires
unfolding total
get-chr_first-requires c =
    let a = after 58 c.get-flags.ensures (after 53 c.get-detection.ensures (after 0 (rw c.at_byte-c.ensures at c.get-regs.ensures) refl)) in
    record { behind = c.get-flags.ensures.behind; width_bound = (omega arith, omega (arith, a, c.told-img)) }

pub get-chr_last-requires : goal.get-chr_last-requires
unfolding total
get-chr_last-requires c =
    let a = after 70 c.get-chr_first.ensures
    (after 58 c.get-flags.ensures (after 53 c.get-detection.ensures (after 0 (rw c.at_byte-c.ensures at c.get-regs.ensures) refl))) in
    record { behind = c.get-chr_first.ensures.behind; width_bound = (omega arith, omega (arith, a, c.told-img)) }

pub get-prg-requires : goal.get-prg-requires
unfolding total
get-prg-requires c =
    let f = after 70 c.get-chr_first.ensures
    (after 58 c.get-flags.ensures (after 53 c.get-detection.ensures (after 0 (rw c.at_byte-c.ensures at c.get-regs.ensures) refl))) in
    let a = after 118 c.get-chr_last.ensures f in
    record { behind = c.get-chr_last.ensures.behind; width_bound = (omega arith, omega (arith, a, c.told-img)) }

-- ---- the words together

pub returns : goal.returns
unfolding total
returns c =
    let img = c.args.img.now in
    let p1 = rw c.at_byte-c.ensures at c.get-regs.ensures in
    let p2 = c.get-detection.ensures in
    let p3 = c.get-flags.ensures in
    let p4 = c.get-chr_first.ensures in
    let p5 = c.get-chr_last.ensures in
    let p6 = c.get-prg.ensures in
    let six : List ℕ = replicate 6 8 in
    section-is img chip_at (ram_at - chip_at) (omega (arith, c.told-img)) c.get-prg.new.self (joined chip_widths) _ chip-bits
    (read-part img _ _ _ (part chip_widths 0) _ _ _ (read_word img _ _ (part chip_widths 0) _ p1)
    (read-part img _ _ _ (part chip_widths 1) _ _ _ (read_word img _ _ (part chip_widths 1) _ p2)
    (read-part img _ _ _ (part chip_widths 2) _ _ _ (read_word img _ _ (part chip_widths 2) _ p3)
    (read-part img _ _ _ (part chip_widths 3) _ _ _
    (read-append img _ _ _ six (unpack six c.get-chr_first.result) six (unpack six c.get-chr_last.result)
    (read_word img _ _ six _ p4) (read_word img _ _ six _ p5))
    (read-part img _ _ _ (part chip_widths 4) _ [] [] (read_word img _ _ (part chip_widths 4) _ p6)
    (read-end img _ p6.behind))))))
