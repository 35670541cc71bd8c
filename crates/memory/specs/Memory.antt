-- R8: the memory without its bytes: its regions and its two tables.
use Rattle.std.specs.Prelude.{List}
use Rattle.memory.specs.declared.Memory.{Memory}
use Rattle.memory.specs.declared.layout.Region.{Region}
use Rattle.memory.specs.declared.layout.Src.{Src}
use Rattle.memory.specs.declared.page.Page.{Page}
use Rattle.memory.specs.Layout.{region_of}

-- `Memory::region`
abbrev pub region_in : Memory → Src → Region
region_in m s = region_of m.layout m.battery_ext_len s

-- the memory with another table
abbrev pub with_prg_pages : Memory → List Page → Memory
with_prg_pages m t = record { layout = m.layout; battery_ext_len = m.battery_ext_len; prg_pages = t; chr_pages = m.chr_pages }

abbrev pub with_chr_pages : Memory → List Page → Memory
with_chr_pages m t = record { layout = m.layout; battery_ext_len = m.battery_ext_len; prg_pages = m.prg_pages; chr_pages = t }
