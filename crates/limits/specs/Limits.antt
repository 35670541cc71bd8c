-- The numbers of R1 and R9, each once. src/lib.rt has as constants those that the code compares with.
use Rattle.std.specs.Prelude.{ℕ, ◌/◌, ◌^◌}

-- ---- the sound: R9

-- the update counter: every 15th clock is an update (S1)
abbrev pub update_most : ℕ
update_most = 14

-- the current channel
abbrev pub channel_most : ℕ
channel_most = 7

-- the sound port's address
abbrev pub address_most : ℕ
address_most = 127

-- every phase is below it
abbrev pub phase_limit : ℕ
phase_limit = 2 ^ 24

-- a channel output: a byte of 255 at volume 15 (S6)
abbrev pub level_most : ℕ
level_most = 3825

-- R11: a signed one, 7 at volume 15 above zero and 8 at volume 15 below it (S14)
abbrev pub signed_most : ℕ
signed_most = 105

abbrev pub signed_least : ℕ
signed_least = 120

-- the bits of `out`: those of the float of `level_most`, and of a plain sum of eight (S15)
abbrev pub out_most : ℕ
out_most = 0x456F1000

abbrev pub sum_most : ℕ
sum_most = 0x46EF1000

-- R11: the same of signed levels, above zero and, without the sign, below it
abbrev pub signed_out_most : ℕ
signed_out_most = 0x42D20000

abbrev pub signed_out_least : ℕ
signed_out_least = 0x42F00000

abbrev pub signed_sum_most : ℕ
signed_sum_most = 0x44520000

abbrev pub signed_sum_least : ℕ
signed_sum_least = 0x44700000

-- the bits of negative zero: the sign alone
abbrev pub minus_zero : ℕ
minus_zero = 0x80000000

-- ---- the registers: R9

-- a PRG bank
abbrev pub bank_most : ℕ
bank_most = 63

-- ---- the sizes of a load in bytes: R1

abbrev pub prg_rom_limit : ℕ
prg_rom_limit = 524288

abbrev pub prg_ram_limit : ℕ
prg_ram_limit = 131072

abbrev pub battery_limit : ℕ
battery_limit = 1024

abbrev pub chr_limit : ℕ
chr_limit = 262144

abbrev pub ciram_limit : ℕ
ciram_limit = 4096

-- the same in pages (R2)

abbrev pub prg_rom_pages : ℕ
prg_rom_pages = prg_rom_limit / 1024

abbrev pub prg_ram_pages : ℕ
prg_ram_pages = prg_ram_limit / 1024

abbrev pub battery_pages : ℕ
battery_pages = battery_limit / 1024

abbrev pub chr_pages : ℕ
chr_pages = chr_limit / 1024

abbrev pub ciram_pages : ℕ
ciram_pages = ciram_limit / 1024

-- ---- the arena and the page tables

-- R9, L5: the battery bytes that a 163 uses: its sound RAM
abbrev pub used_most : ℕ
used_most = 128

-- R4: the longest arena in bytes; `arena-most` says that it is the zero page and each region at its limit
abbrev pub arena_most : ℕ
arena_most = 923648

-- R8: how many entries the page tables have
abbrev pub prg_entries : ℕ
prg_entries = 64

abbrev pub chr_entries : ℕ
chr_entries = 16
