-- L19 to L23: the edition in which F800 protects work RAM of a 163. The page tables are the Rust's `update_banks`, and then the flags at
-- 6000 by parts of 2,048 bytes. In the other edition both definitions are the Rust's.
use Rattle.std.specs.Prelude.{ℕ, ◌+◌, ◌/◌, ◌<◌, ◌≡◌, Bool, cond, not, ◌&&◌, ◌||◌, eqb, leb, get_or}
use Rattle.memory.specs.declared.Memory.{Memory}
use Rattle.memory.specs.Memory.{with_prg_pages}
use Rattle.memory.specs.Page.{unmapped, has_bit}
use Rattle.memory_map.specs.Windows.{each_page, with_flag}
use Rattle.board_chip.specs.declared.namco163.Board.{Board}
use Rattle.board_chip.specs.declared.namco163.Namco163.{Namco163}
use Rattle.board_chip.specs.Namco163.{is163}
use Rattle.board_registers.specs.Writes.{remaps}
use Rattle.board_banking.specs.Banking.{update_banks}

-- L20: whether part k of work RAM takes stores, v being the byte of F800: its high four bits are 0100, and bit k is clear
abbrev pub unprotected : ℕ → ℕ → Bool
unprotected v k = eqb (v / 16) 4 && not (has_bit k v)

-- L20: the eight entries of 6000..7FFF, two to a part; an unmapped one stays so (M5)
unfoldable pub protect_parts : ℕ → Memory → Memory
protect_parts v m = with_prg_pages m (each_page 64 (λ i old. with_flag (unprotected v (i / 2)) old) 24 8 m.prg_pages)

-- L20: the page tables by the registers, in either edition; only a 163 is held to F800
unfoldable pub remap_banks : Bool → Namco163 → Memory → Memory
remap_banks protects n m =
    let u = update_banks n m in cond (protects && is163 n.board) (protect_parts n.regs.prg_ram_protect u) u

-- L21: which writes make the tables anew: the Rust's (L14), and where F800 protects also each to F800..FFFF after which it is a 163
unfoldable pub remaps_in : Bool → Board → Board → ℕ → Bool
remaps_in protects old new a = remaps old new a || (protects && (leb 0xF800 a && is163 new))

-- ---- the editions beside each other: L23

-- k is m but for flags of the entries of 6000..7FFF
pub record FlagsAlone (m k : Memory) : Type 0 where
  pub layout : k.layout ≡ m.layout
  pub used : k.battery_ext_len ≡ m.battery_ext_len
  pub chr : k.chr_pages ≡ m.chr_pages
  pub else : (j : ℕ) → ((i : ℕ) → i < 8 → j ≡ 24 + i → ⊥) → get_or k.prg_pages j unmapped ≡ get_or m.prg_pages j unmapped
  pub flag : ℕ → Bool
  pub work : (i : ℕ) → i < 8 → get_or k.prg_pages (24 + i) unmapped ≡ with_flag (flag i) (get_or m.prg_pages (24 + i) unmapped)
