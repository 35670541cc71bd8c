-- M15: `update_banks` with the Rust's rule for the flag of a window (`rust_set_prg_writable`), which makes no exception of an unmapped entry.
use Rattle.std.specs.Prelude.{cond, pos}
use Rattle.memory.specs.declared.Memory.{Memory}
use Rattle.memory.specs.declared.layout.Src.TheVariants.{PrgRam}
use Rattle.memory_map.specs.Windows.{map_prg, unmap_prg, rust_set_prg_writable}
use Rattle.board_chip.specs.declared.namco163.Namco163.{Namco163}
use Rattle.board_chip.specs.Namco163.{prg_window}
use Rattle.board_chip.specs.Detection.{prg_ram_readable, prg_ram_writable}
use Rattle.board_banking.specs.Banking.{map_chr_table, map_rom}

-- L13: work RAM at 6000 with its flag, or nothing
unfoldable pub rust_map_work_ram : Namco163 → Memory → Memory
rust_map_work_ram n m =
    cond (prg_ram_readable n.board)
    (rust_set_prg_writable (map_prg m 0x6000 prg_window (pos 0) PrgRam) 0x6000 prg_window (prg_ram_writable n.board n.regs.prg_ram_protect))
    (unmap_prg m 0x6000 prg_window)

-- the Rust's `update_banks`
unfoldable pub rust_update_banks : Namco163 → Memory → Memory
rust_update_banks n m = rust_map_work_ram n (map_rom n (map_chr_table n m))
