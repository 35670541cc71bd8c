-- The fields fill the image, and each section starts where the widths of the parts before it end.
use mathlib.Core.Path.{◌≡◌, refl}
use mathlib.Core.List.{[], ◌∷◌, map}
use Prim.Native.Nat.{ℕ, ◌*◌}
use lib.ListN.{take}
use Rattle.bits.specs.Fields.{total, times}
use Rattle.image_write.specs.Image.{image_bytes, part_widths, joined, widths}
use Rattle.image_write.specs.Sections.{chip_at, ram_at, port_at, levels_at, out_at, phases_at, prg_pages_at, chr_pages_at, layout_at}

pub total-widths : total widths ≡ image_bytes * 8
unfolding total widths joined times
total-widths = refl

-- the bits of the first k parts
abbrev bits_before : ℕ → ℕ
bits_before k = total (joined (take k part_widths))

-- five parts are the board's; each part behind them is a section of its own
pub places :
    map bits_before (0 ∷ 5 ∷ 6 ∷ 7 ∷ 8 ∷ 9 ∷ 10 ∷ 11 ∷ 12 ∷ 13 ∷ [])
    ≡ map (λ k. k * 8)
    (chip_at ∷ ram_at ∷ port_at ∷ levels_at ∷ out_at ∷ phases_at ∷ prg_pages_at ∷ chr_pages_at ∷ layout_at ∷ image_bytes ∷ [])
unfolding total joined times
places = refl
