-- The fields of one word.
use mathlib.Core.Path.{◌≡◌}
use mathlib.Core.List.{List, [], ◌∷◌}
use Prim.Native.Nat.{ℕ, ◌-◌, ◌/◌, ◌%◌, ◌^◌, ◌<◌}
use native.Mathlib.Nat.{div-one, mod-eq_of_lt}
use lib.ListN.{take, drop}
use Rattle.bits.specs.Fields.{total, unpack}
use Rattle.bits.specs.Words.{word_of}
use Rattle.image_read.specs.Sections.{fields_at}
use Rattle.image_write.specs.Image.{image_bytes, part, sound_widths, memory_widths}
use Rattle.image_write.specs.Sections.{port_at, levels_at, out_at, phases_at, layout_at}

-- ---- the fields of one word

module _ (img : List ℕ) (w : ℕ) where
  pub port-at : w ≡ word_of (take (levels_at - port_at) (drop port_at img))
      → fields_at (part sound_widths 1) img port_at (levels_at - port_at)
      ≡ w / 512 % 128 ∷ w / 256 % 2 ∷ w / 128 % 2 ∷ w / 8 % 16 ∷ w % 8 ∷ []
  unfolding fields_at unpack total
  port-at e = rw (← e, div-one w)

  pub out-at : w ≡ word_of (take (phases_at - out_at) (drop out_at img)) → w < 2 ^ 32
      → fields_at (part sound_widths 3) img out_at (phases_at - out_at) ≡ w ∷ []
  unfolding fields_at unpack total
  out-at e h = rw (← e, div-one w, mod-eq_of_lt h)

  pub layout-at : w ≡ word_of (take (image_bytes - layout_at) (drop layout_at img))
      → fields_at (part memory_widths 2) img layout_at (image_bytes - layout_at)
      ≡ w / 0x400000 % 1024 ∷ w / 0x8000 % 128 ∷ w / 0x4000 % 2 ∷ w / 32 % 512 ∷ w / 16 % 2 ∷ w / 2 % 8 ∷ w % 2 ∷ []
  unfolding fields_at unpack total
  layout-at e = rw (← e, div-one w)
