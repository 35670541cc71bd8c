-- The longest arena follows from the limits of its regions.
use Prim.Native.Nat.{◌+◌, ◌*◌}
use mathlib.Core.Path.{◌≡◌, refl}
use Rattle.limits.specs.Limits.{prg_rom_pages, prg_ram_pages, battery_pages, chr_pages, ciram_pages, arena_most}

pub arena-most : 1024 * (1 + prg_rom_pages + prg_ram_pages + battery_pages + chr_pages + ciram_pages) ≡ arena_most
arena-most = refl
