-- L15: which entries of the two page tables a CPU write changes, as a mask, a number and the least of them.
use Rattle.std.specs.Prelude.{ℕ, suc, ◌+◌, ◌*◌, Bool, cond, List, [], ◌∷◌, eqb, length}
use Rattle.memory.specs.declared.Memory.{Memory}
use Rattle.memory.specs.declared.changes.Changed.{Changed}
use Rattle.memory.specs.declared.changes.Changes.{Changes}
use Rattle.memory.specs.declared.page.Page.{Page}

-- R6: all 32 bits count, so another flag is another entry
abbrev pub same : Page → Page → Bool
same a b = eqb a.0 b.0

-- 1 where two entries differ
abbrev pub differ : Page → Page → ℕ
differ a b = cond (same a b) 0 1

-- bit i is set where entry i differs
unfoldable pub changed : List Page → List Page → ℕ
changed [] new = 0
changed (a ∷ old) [] = 0
changed (a ∷ old) (b ∷ new) = changed old new * 2 + differ a b

-- how many entries differ
unfoldable pub count_changed : List Page → List Page → ℕ
count_changed [] new = 0
count_changed (a ∷ old) [] = 0
count_changed (a ∷ old) (b ∷ new) = count_changed old new + differ a b

-- the first entry that differs; where none does, the table's length, 64 or 16
unfoldable pub lowest_changed : List Page → List Page → ℕ
lowest_changed [] new = 0
lowest_changed (a ∷ old) [] = suc (length old)
lowest_changed (a ∷ old) (b ∷ new) = cond (same a b) (suc (lowest_changed old new)) 0

-- what a CPU write answers of each table: mask, count and lowest
abbrev pub table_changes : List Page → List Page → Changes ℕ
table_changes old new = record { mask = changed old new; count = count_changed old new; lowest = lowest_changed old new }

unfoldable pub prg_changes : List Page → List Page → Changes ℕ
prg_changes old new = table_changes old new

unfoldable pub chr_changes : List Page → List Page → Changes ℕ
chr_changes old new = table_changes old new

-- L15: the answer for both tables
unfoldable pub changes : Memory → Memory → Changed
changes old new =
    record { prg = prg_changes old.prg_pages new.prg_pages; chr = chr_changes old.chr_pages new.chr_pages }

-- N21: a refused write's answer
abbrev pub no_changes : Changed
no_changes = record { prg = record { mask = 0; count = 0; lowest = 0 }; chr = record { mask = 0; count = 0; lowest = 0 } }
