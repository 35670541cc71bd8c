-- What owning a `Memory` tells of its fields: the tables have their lengths, and an entry is a number of 32 bits.
use Prim.Native.Nat.{ℕ, zero, suc, ◌<◌, ◌^◌}
use mathlib.Core.List.{List, [], ◌∷◌}
use native.Mathlib.Omega.{arith}
use lib.ListN.{get_or}
use mir.Val.{Val}
use denote.Shadow.{shadow}
use denote.Array.{each}
use denote.Laws.{Is}
use denote.Struct.Field.{Field}
use denote.Struct.Declared.{field}
use Rattle.memory.specs.declared.Memory.{Memory}
use Rattle.memory.specs.declared.page.Page.{Page}
use Rattle.memory.specs.Page.{unmapped}
use Rattle.memory.specs.Range.{MemoryTyped}
use Rattle.memory.specs.contracts.page.Page as PageRow
use Rattle.memory.specs.contracts.Memory as Row

abbrev page-field : Field
page-field = field PageRow.the_type

words-fit : (ps : List Page) (us : List Val)
    → shadow (each PageRow.the_row.Denot PageRow.the_row.own_val ps us)
    → (i : ℕ) → (get_or ps i unmapped).0 < 2 ^ 32
words-fit [] us s i = omega arith
words-fit (p ∷ ps) [] s i = absurd s
words-fit (p ∷ ps) (u ∷ us) s zero = s.0.1.1.0.1
words-fit (p ∷ ps) (u ∷ us) s (suc i) = words-fit ps us s.1 i

pub memory-typed : (m : Memory) (vs : List Val) → Is Row.the_row m vs → MemoryTyped m
memory-typed m vs is =
    let tables = is.1.1.1.1 in
    record {
      prg = tables.0.1.0.1;
      chr = tables.1.0.1.0.1;
      prg_words = words-fit m.prg_pages tables.0.0 tables.0.1.1;
      chr_words = words-fit m.chr_pages tables.1.0.0 tables.1.0.1.1;
    }
