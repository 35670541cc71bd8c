-- L13: the Rust's `update_banks`, the page tables by the registers and the layout alone, as steps of the memory, in the Rust's order.
use Rattle.std.specs.Prelude.{ℕ, zero, suc, ◌+◌, ◌*◌, ◌/◌, Bool, true, false, cond, List, ltb, pos, negsuc, get_or}
use Rattle.memory.specs.declared.Memory.{Memory}
use Rattle.memory.specs.declared.layout.Region.{Region}
use Rattle.memory.specs.declared.layout.Src.{Src}
use Rattle.memory.specs.declared.page.Page.{Page}
use Rattle.memory.specs.declared.layout.Src.TheVariants.{PrgRom, PrgRam, Chr, CiRam}
use Rattle.memory_map.specs.Windows.{map_pages, map_prg, map_chr, unmap_prg, set_prg_writable}
use Rattle.memory_map.specs.Mirroring.{set_mirroring}
use Rattle.board_chip.specs.declared.namco163.Namco163.{Namco163}
use Rattle.board_chip.specs.Namco163.{is163, prg_window, chr_window}
use Rattle.board_chip.specs.Detection.{prg_ram_readable, prg_ram_writable}

-- L13: the region that a CHR slot shows, by its CIRAM flag
abbrev pub slot_src : Bool → Src
slot_src true = CiRam
slot_src false = Chr

-- L13: where a slot of 0000..2FFF is shown, `show` being the mapping of a window: at its address, and if it is one of 2000..2FFF again in
-- 3000..3FFF
abbrev pub in_slot : {A : Type 0} → (ℕ → A → A) → ℕ → A → A
in_slot show slot a =
    let addr = slot * chr_window in
    let low = show addr a in
    cond (ltb slot 8) low (show (addr + 0x1000) low)

-- a bank in a slot, as steps of the memory
unfoldable pub map_slot : Memory → ℕ → ℕ → Bool → Memory
map_slot m slot bank ciram = in_slot (λ addr n. map_chr n addr chr_window (pos bank) (slot_src ciram)) slot m

-- the same as steps of the PPU's table alone, for the code, which hands on no more than the table: `slot-alone` says that it is `map_slot`
unfoldable pub slot_pages : Region → ℕ → ℕ → List Page → List Page
slot_pages r slot bank = in_slot (λ addr. map_pages 16 r chr_window (pos bank) (addr / 1024)) slot

-- the first k slots
unfoldable pub map_slots : Namco163 → ℕ → Memory → Memory
map_slots n zero m = m
map_slots n (suc k) m = map_slot (map_slots n k m) k (get_or n.chr_banks k 0) (get_or n.nt_bank_enable k false)

-- L13: twelve slots on a 163; eight on another board, whose nametables come from its mirroring (M7)
unfoldable pub map_chr_table : Namco163 → Memory → Memory
map_chr_table n m = cond (is163 n.board) (map_slots n 12 m) (set_mirroring (map_slots n 8 m) n.mirroring)

-- L13: a PRG-ROM bank in a window
abbrev pub map_bank : Memory → ℕ → ℕ → Memory
map_bank m addr bank = map_prg m addr prg_window (pos bank) PrgRom

-- L13: the three bank registers at 8000, A000 and C000, and the last bank at E000
unfoldable pub map_rom : Namco163 → Memory → Memory
map_rom n m =
    let bank = get_or n.prg_banks in
    map_prg (map_bank (map_bank (map_bank m 0x8000 (bank 0 0)) 0xA000 (bank 1 0)) 0xC000 (bank 2 0)) 0xE000 prg_window (negsuc 0) PrgRom

-- L13: work RAM at 6000, with its flag (M5), or nothing
unfoldable pub map_work_ram : Namco163 → Memory → Memory
map_work_ram n m =
    cond (prg_ram_readable n.board)
    (set_prg_writable (map_prg m 0x6000 prg_window (pos 0) PrgRam) 0x6000 prg_window (prg_ram_writable n.board n.regs.prg_ram_protect))
    (unmap_prg m 0x6000 prg_window)

-- L13: `update_banks`
unfoldable pub update_banks : Namco163 → Memory → Memory
update_banks n m = map_work_ram n (map_rom n (map_chr_table n m))
