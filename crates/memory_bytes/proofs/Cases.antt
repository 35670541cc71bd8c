-- Places of entries and regions, and `sram`, at their edges: a table each, and one computed test over all rows. Assumes nothing.
use Prim.Native.Nat.{ℕ}
use mathlib.Core.Path.{◌≡◌, refl}
use mathlib.Core.Bool.{Bool, true, false, ◌&&◌}
use mathlib.Core.List.{List, [], ◌∷◌}
use mathlib.Core.Option.{Option, some, none}
use lib.Dec.{eqb}
use Rattle.memory.specs.declared.Memory.{Memory}
use Rattle.memory.specs.declared.layout.MemoryLayout.{MemoryLayout}
use Rattle.memory.specs.declared.layout.Src.{Src}
use Rattle.memory.specs.declared.layout.Src.TheVariants.{PrgRom, PrgRam, BatteryExt}
use Rattle.memory.specs.Layout.{layout_of, arena_order, pages_before, first_page, region_of}
use Rattle.memory_bytes.specs.Bytes.{stored_at, wrapped_at, sram_of}

-- layout P (T0) with other sizes
abbrev cart : ℕ → ℕ → MemoryLayout
cart prg_rom prg_ram =
    record { prg_rom = prg_rom; prg_ram = prg_ram; battery_ext = 128; chr = 8192; chr_writable = false; ciram = 2048 }

abbrev p : MemoryLayout
p = cart 32768 8192

abbrev every : {A : Type 0} → (A → Bool) → List A → Bool
every f [] = true
every f (a ∷ l) = f a && every f l

-- ---- places: where an offset of a region lies, for a used battery length; none in an empty region

record Place : Type 0 where
  cart : MemoryLayout
  used : ℕ
  src : Src
  offset : ℕ
  at : Option ℕ

abbrev places : List Place
places =
    record { cart = cart 1024 8192; used = 128; src = PrgRom; offset = 5123; at = some 1027 }
    ∷ record { cart = cart 1024 8192; used = 128; src = PrgRom; offset = 18446744073709551615; at = some 2047 }
    ∷ record { cart = p; used = 128; src = BatteryExt; offset = 127; at = some 50303 }
    ∷ record { cart = p; used = 128; src = BatteryExt; offset = 128; at = some 50176 }
    ∷ record { cart = p; used = 0; src = BatteryExt; offset = 128; at = none }
    ∷ record { cart = cart 32768 0; used = 128; src = PrgRam; offset = 0; at = none }
    ∷ []

abbrev same_place : Option ℕ → Option ℕ → Bool
same_place none none = true
same_place none (some j) = false
same_place (some i) none = false
same_place (some i) (some j) = eqb i j

abbrev place_right : Place → Bool
place_right c = same_place (wrapped_at (region_of (layout_of c.cart) c.used c.src) c.offset) c.at

-- the same of an entry: what has the flag takes the store, in the zero page too (R10); what has not takes none
record Entry : Type 0 where
  number : ℕ
  addr : ℕ
  at : Option ℕ

abbrev entries : List Entry
entries =
    record { number = 0x80000000; addr = 0x6005; at = some 5 }
    ∷ record { number = 0x80000000; addr = 0x7FFF; at = some 1023 }
    ∷ record { number = 0; addr = 0x6005; at = none }
    ∷ record { number = 0x80000400; addr = 0x6405; at = some 1029 }
    ∷ record { number = 0x400; addr = 0x6405; at = none }
    ∷ []

abbrev entry_right : Entry → Bool
entry_right e = same_place (stored_at (record { 0 = e.number }) e.addr) e.at

-- `sram` of P, and of P without PRG-RAM, with the whole sound RAM used or none of it
record Battery : Type 0 where
  cart : MemoryLayout
  used : ℕ
  start : ℕ
  len : ℕ

abbrev batteries : List Battery
batteries =
    record { cart = p; used = 128; start = 41984; len = 8320 }
    ∷ record { cart = p; used = 0; start = 41984; len = 8192 }
    ∷ record { cart = cart 32768 0; used = 128; start = 41984; len = 128 }
    ∷ []

abbrev battery_right : Battery → Bool
battery_right b =
    let m : Memory = record { layout = layout_of b.cart; battery_ext_len = b.used; prg_pages = []; chr_pages = [] } in
    eqb (sram_of m).start b.start && eqb (sram_of m).len b.len

-- ---- the test over all rows

pub right : Bool
right = every place_right places && every entry_right entries && every battery_right batteries

pub cases : right ≡ true
unfolding right layout_of arena_order pages_before first_page region_of stored_at wrapped_at sram_of
cases = refl
