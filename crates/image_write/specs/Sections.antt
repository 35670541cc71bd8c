-- H1: where the sections of an image start, in bytes; `image_bytes` (Image.antt) is the end of the last. src/sections.rt has the same as
-- constants. proofs/Whole.antt `places` says that each starts where the widths of the parts before it end.
use Rattle.std.specs.Prelude.{ℕ}

-- the board: registers and board numbers, detection, CIRAM flags, CHR banks, PRG banks
abbrev pub chip_at : ℕ
chip_at = 0

-- the sound RAM
abbrev pub ram_at : ℕ
ram_at = 23

-- the sound port and the sound clock
abbrev pub port_at : ℕ
port_at = 151

-- the channel outputs
abbrev pub levels_at : ℕ
levels_at = 153

-- `out`
abbrev pub out_at : ℕ
out_at = 165

-- the phases
abbrev pub phases_at : ℕ
phases_at = 169

-- the PRG entries
abbrev pub prg_pages_at : ℕ
prg_pages_at = 193

-- the CHR entries
abbrev pub chr_pages_at : ℕ
chr_pages_at = 281

-- the page counts, the CHR-RAM flag and whether the reserve is used
abbrev pub layout_at : ℕ
layout_at = 303
