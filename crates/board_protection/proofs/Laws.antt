-- Write protection as steps of the memory; that the edition without it is the Rust's; and that the other differs from it in the flags of
-- work RAM alone, where it is as F800 says.
use Prim.Native.Nat.{ℕ, ◌+◌, ◌/◌, ◌≤◌, ◌<◌}
use mathlib.Core.Path.{◌≡◌, refl}
use mathlib.Core.Bool.{Bool, true, false, ◌&&◌, ◌||◌}
use native.Mathlib.Omega.{arith}
use lib.Dec.{leb}
use lib.ListN.{length, get_or}
use Rattle.memory.specs.declared.Memory.{Memory}
use Rattle.memory.specs.Page.{unmapped}
use Rattle.memory_map.specs.Windows.{each_page, with_flag, set_writable, set_prg_writable}
use Rattle.memory_map.proofs.Laws.Memory.{each-other, each_same}
use Rattle.board_chip.specs.declared.namco163.Board.{Board}
use Rattle.board_chip.specs.declared.namco163.Namco163.{Namco163}
use Rattle.board_chip.specs.Namco163.{is163}
use Rattle.board_registers.specs.Writes.{remaps}
use Rattle.board_banking.specs.Banking.{update_banks}
use Rattle.board_protection.specs.Protection.{unprotected, protect_parts, remap_banks, remaps_in, FlagsAlone}

-- ---- four steps `set_prg_writable` of 2,048 bytes, part by part

pub parts_are : (v : ℕ) (m : Memory) → protect_parts v m
    ≡ set_prg_writable (set_prg_writable (set_prg_writable (set_prg_writable m 0x6000 2048 (unprotected v 0)) 0x6800 2048 (unprotected v 1))
    0x7000 2048 (unprotected v 2)) 0x7800 2048 (unprotected v 3)
unfolding protect_parts set_prg_writable set_writable each_page
parts_are v m = refl

-- what a step at 6000..7FFF keeps, protection keeps
pub protect-keeps : (P : Memory → Type 0)
    → ((m : Memory) (addr : ℕ) (w : Bool) → 0x6000 ≤ addr → addr ≤ 0x7800 → P m → P (set_prg_writable m addr 2048 w))
    → (v : ℕ) (m : Memory) → P m → P (protect_parts v m)
protect-keeps P step v m p =
    rw (parts_are v m)
    (step _ 0x7800 _ (omega arith) (omega arith)
    (step _ 0x7000 _ (omega arith) (omega arith)
    (step _ 0x6800 _ (omega arith) (omega arith) (step m 0x6000 _ (omega arith) (omega arith) p))))

-- ---- the Rust's edition

pub old-tables : (n : Namco163) (m : Memory) → remap_banks false n m ≡ update_banks n m
unfolding remap_banks
old-tables n m = refl

or-false : (t : Bool) → (t || false) ≡ t
or-false true = refl
or-false false = refl

pub old-writes : (old new : Board) (a : ℕ) → remaps_in false old new a ≡ remaps old new a
unfolding remaps_in
old-writes old new a = or-false (remaps old new a)

-- ---- and in the other one a board that is no 163

and-false : (t : Bool) → (t && false) ≡ false
and-false true = refl
and-false false = refl

pub other-tables : (protects : Bool) (n : Namco163) (m : Memory) → is163 n.board ≡ false → remap_banks protects n m ≡ update_banks n m
unfolding remap_banks
other-tables true n m e = rw e
other-tables false n m e = refl

pub other-writes : (protects : Bool) (old new : Board) (a : ℕ) → is163 new ≡ false → remaps_in protects old new a ≡ remaps old new a
unfolding remaps_in
other-writes protects old new a e = rw (e, and-false (leb 0xF800 a), and-false protects) (or-false (remaps old new a))

-- ---- a 163 that F800 protects

pub new-tables : (n : Namco163) (m : Memory) → is163 n.board ≡ true
    → remap_banks true n m ≡ protect_parts n.regs.prg_ram_protect (update_banks n m)
unfolding remap_banks
new-tables n m e = rw e

-- entry 24 + i has the flag of part i / 2, and no other entry is altered
pub part-flag : (v : ℕ) (m : Memory) → length m.prg_pages ≡ 64 → (i : ℕ) → i < 8
    → get_or (protect_parts v m).prg_pages (24 + i) unmapped ≡ with_flag (unprotected v (i / 2)) (get_or m.prg_pages (24 + i) unmapped)
unfolding protect_parts
part-flag v m l i h = each_same 64 (λ i old. with_flag (unprotected v (i / 2)) old) 24 8 m.prg_pages i (omega arith) l h

pub part-else : (v : ℕ) (m : Memory) (j : ℕ) → ((i : ℕ) → i < 8 → j ≡ 24 + i → ⊥)
    → get_or (protect_parts v m).prg_pages j unmapped ≡ get_or m.prg_pages j unmapped
unfolding protect_parts
part-else v m j out = each-other 64 _ 24 8 m.prg_pages j (λ i h e. out i h (omega arith))

-- ---- the editions beside each other, by the same registers

pub parts-alone : (v : ℕ) (m : Memory) → length m.prg_pages ≡ 64 → FlagsAlone m (protect_parts v m)
unfolding protect_parts
parts-alone v m l =
    record {
      layout = refl;
      used = refl;
      chr = refl;
      else = part-else v m;
      flag = λ i. unprotected v (i / 2);
      work = part-flag v m l;
    }

-- on a 163 the tables differ in flags of work RAM alone; on any other board, `other-tables`, in nothing
pub flags-alone : (n : Namco163) (m : Memory) → is163 n.board ≡ true → length (update_banks n m).prg_pages ≡ 64
    → FlagsAlone (update_banks n m) (remap_banks true n m)
flags-alone n m e l = rw (new-tables n m e) (parts-alone n.regs.prg_ram_protect (update_banks n m) l)

-- the Rust's remappings are remappings in either edition; what F800 adds is a 163's
pub more-writes : (protects : Bool) (old new : Board) (a : ℕ) → remaps old new a ≡ true → remaps_in protects old new a ≡ true
unfolding remaps_in
more-writes protects old new a e = rw e
