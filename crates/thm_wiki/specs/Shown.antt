-- What the board shows, in the wiki's terms: which page a slot selects, and the page entries that a page stands for in this cartridge.
use Rattle.std.specs.Prelude.{ℕ, ◌+◌, ◌*◌, ◌/◌, ◌%◌, ◌<◌, ◌≡◌, Bool, true, false, cond, ◌&&◌, leb, ℤ, pos, negsuc, get_or}
use Rattle.memory.specs.declared.Memory.{Memory}
use Rattle.memory.specs.declared.page.Page.{Page}
use Rattle.memory.specs.declared.layout.Src.TheVariants.{PrgRom, PrgRam, Chr, CiRam}
use Rattle.memory.specs.Memory.{region_in}
use Rattle.memory.specs.Page.{unmapped}
use Rattle.memory_map.specs.Windows.{window_base, region_page, with_flag}
use Rattle.memory_map.specs.Mirroring.{ciram_banks, nametable_page}
use Rattle.board_chip.specs.declared.namco163.Board.{Board}
use Rattle.board_chip.specs.declared.namco163.Namco163.{Namco163}
use Rattle.board_chip.specs.declared.namco163.Regs.{Regs}
use Rattle.board_chip.specs.Namco163.{is163}
use Rattle.board_chip.specs.Detection.{prg_ram_readable, prg_ram_writable}
use Rattle.board_protection.specs.Protection.{unprotected}
use Rattle.thm_wiki.specs.Registers.{WikiPage, chr_page, nametable}
use Rattle.thm_wiki.specs.Counter.{WikiIrq}

-- ---- the board's registers in the wiki's terms

-- the counter: bit 15 is the enable
abbrev pub irq_of : Regs → WikiIrq
irq_of r = record { count = r.irq_counter % 0x8000; enabled = leb 0x8000 r.irq_counter; raised = r.irq_pending }

-- the page that slot k selects
abbrev pub slot_shows : Namco163 → ℕ → WikiPage
slot_shows n k = cond (get_or n.nt_bank_enable k false) (nametable (get_or n.chr_banks k 0)) (chr_page (get_or n.chr_banks k 0))

-- ---- the entries of a page; a page beyond the ROM counts by M1, of which the wiki says nothing

-- of 1 KiB
abbrev pub entry_of : Memory → WikiPage → Page
entry_of m (chr_page p) = region_page (region_in m Chr) (window_base (region_in m Chr).len 1024 (pos p))
entry_of m (nametable p) = region_page (region_in m CiRam) (window_base (region_in m CiRam).len 1024 (pos p))

-- KiB i of an 8 KiB PRG-ROM page
abbrev pub prg_entry : Memory → ℤ → ℕ → Page
prg_entry m b i = region_page (region_in m PrgRom) (window_base (region_in m PrgRom).len 8192 b + 1024 * i)

-- KiB i of work RAM at 6000, with its flag, where the board shows it
abbrev pub ram_entry : Memory → Bool → Bool → ℕ → Page
ram_entry m shown writable i =
    cond shown (with_flag writable (region_page (region_in m PrgRam) (window_base (region_in m PrgRam).len 8192 (pos 0) + 1024 * i))) unmapped

-- whether it takes stores, v being the protect byte: where F800 protects a 163 by parts of 2 KiB (L20), and else by the board (L13)
abbrev pub ram_writable : Bool → Board → ℕ → ℕ → Bool
ram_writable protects b v i = cond (protects && is163 b) (unprotected v (i / 2)) (prg_ram_writable b v)

-- ---- the entries are those of the registers, in either edition: L13, L20

pub record Mapped (protects : Bool) (n : Namco163) (m : Memory) : Type 0 where
  -- the 1 KiB windows, twelve on a 163 and eight on another board
  pub chr : (k : ℕ) → k < cond (is163 n.board) 12 8 → get_or m.chr_pages k unmapped ≡ entry_of m (slot_shows n k)
  -- the nametables again at 3000, on a 163
  pub again : is163 n.board ≡ true → (k : ℕ) → k < 4 → get_or m.chr_pages (12 + k) unmapped ≡ entry_of m (slot_shows n (8 + k))
  -- and by the mirroring on another board, at 2000 and at 3000
  pub mirrored : is163 n.board ≡ false → (i : ℕ) → i < 8
      → get_or m.chr_pages (8 + i) unmapped ≡ nametable_page (region_in m CiRam) (get_or (ciram_banks n.mirroring) (i % 4) 0)
  -- 8000, A000 and C000, by k from 0; the last bank at E000; work RAM at 6000
  pub prg : (k : ℕ) → k < 3 → (i : ℕ) → i < 8
      → get_or m.prg_pages (32 + 8 * k + i) unmapped ≡ prg_entry m (pos (get_or n.prg_banks k 0)) i
  pub last : (i : ℕ) → i < 8 → get_or m.prg_pages (56 + i) unmapped ≡ prg_entry m (negsuc 0) i
  pub ram : (i : ℕ) → i < 8
      → get_or m.prg_pages (24 + i) unmapped
      ≡ ram_entry m (prg_ram_readable n.board) (ram_writable protects n.board n.regs.prg_ram_protect i) i
