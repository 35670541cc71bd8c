-- A slot is a step of the PPU's table alone, and `map_slots` takes one slot after the other.
use Prim.Native.Nat.{ℕ, ◌+◌}
use mathlib.Core.Path.{◌≡◌, refl, sym, ap, ◌∙◌}
use mathlib.Core.Bool.{Bool, true, false, cond}
use mathlib.Core.List.{List}
use native.Mathlib.Numerals.{add-one}
use lib.Dec.{ltb}
use lib.ListN.{get_or}
use Rattle.memory.specs.declared.Memory.{Memory}
use Rattle.memory.specs.declared.layout.Region.{Region}
use Rattle.memory.specs.declared.layout.Src.TheVariants.{Chr, CiRam}
use Rattle.memory.specs.declared.page.Page.{Page}
use Rattle.memory.specs.Memory.{region_in, with_chr_pages}
use Rattle.memory_map.specs.Windows.{map_chr}
use Rattle.board_chip.specs.declared.namco163.Namco163.{Namco163}
use Rattle.board_banking.specs.Banking.{slot_src, slot_pages, map_slot, map_slots}

-- a slot's step of the memory is its step of the table
pub slot-alone : (m : Memory) (slot bank : ℕ) (ciram : Bool)
    → map_slot m slot bank ciram ≡ with_chr_pages m (slot_pages (region_in m (slot_src ciram)) slot bank m.chr_pages)
unfolding map_slot map_chr slot_pages
slot-alone m slot bank ciram = go (ltb slot 8) _ _
  where
    go : (t : Bool) (low high : List Page)
        → cond t (with_chr_pages m low) (with_chr_pages m high) ≡ with_chr_pages m (cond t low high)
    go true low high = refl
    go false low high = refl

-- the region that the code chose is that of the slot's source
region-by : (m : Memory) (ciram : Bool) → cond ciram (region_in m CiRam) (region_in m Chr) ≡ region_in m (slot_src ciram)
region-by m true = refl
region-by m false = refl

-- one slot more
pub slot-more : (n : Namco163) (k : ℕ) (m : Memory) (pages : List Page) (chr nametables r : Region)
    → chr ≡ region_in m Chr → nametables ≡ region_in m CiRam → r ≡ cond (get_or n.nt_bank_enable k false) nametables chr
    → with_chr_pages m pages ≡ map_slots n k m → with_chr_pages m (slot_pages r k (get_or n.chr_banks k 0) pages) ≡ map_slots n (k + 1) m
unfolding map_slots
slot-more n k m pages chr nametables r c t e h =
    let bank = get_or n.chr_banks k 0 in
    let flag = get_or n.nt_bank_enable k false in
    rw add-one
    (ap (λ (x : Region). with_chr_pages m (slot_pages x k bank pages)) (rw (e, c, t) (region-by m flag))
    ∙ sym (slot-alone (with_chr_pages m pages) k bank flag)
    ∙ ap (λ (x : Memory). map_slot x k bank flag) h)
