-- The outside definition of the registers: mappers 019 and 210 as docs/WIKI.md has them, written without the Rust. What a board shows is a
-- function of the values last written.
use Rattle.std.specs.Prelude.{ℕ, ◌-◌, ◌/◌, ◌%◌, ◌^◌, Bool, true, cond, not, ◌&&◌, List, eqb, leb, ltb, get_or, set, replicate}

abbrev pub wiki_bit : ℕ → ℕ → Bool
wiki_bit k v = eqb (v / 2 ^ k % 2) 1

-- the values last written: to the twelve registers of 8000..DFFF (W8), 800 addresses each, and to E000, E800, F000 and F800 (W11, W12)
pub record WikiRegs : Type 0 where
  pub windows : List ℕ
  pub upper : List ℕ

unfoldable pub wiki_write : WikiRegs → ℕ → ℕ → WikiRegs
wiki_write w a v =
    cond (ltb a 0x8000) w
    (cond (ltb a 0xE000) (record { windows = set w.windows ((a - 0x8000) / 0x800) v; upper = w.upper })
    (record { windows = w.windows; upper = set w.upper ((a - 0xE000) / 0x800) v }))

-- 0 before any write
abbrev pub no_regs : WikiRegs
no_regs = record { windows = replicate 12 0; upper = replicate 4 0 }

-- ---- mapper 019

-- W2: what a window of 1 KiB can show: a page of CHR-ROM, or the first or second KiB of nametable RAM
pub data WikiPage : Type 0 where
  chr_page : ℕ → WikiPage
  nametable : ℕ → WikiPage

-- W10: whether window k allows nametable RAM, by the value of E800
unfoldable pub wiki_allowed : ℕ → ℕ → Bool
wiki_allowed e800 k = cond (ltb k 4) (not (wiki_bit 6 e800)) (cond (ltb k 8) (not (wiki_bit 7 e800)) true)

-- W8, W9: what value v selects in window k
unfoldable pub wiki_selects : ℕ → ℕ → ℕ → WikiPage
wiki_selects e800 k v = cond (leb 0xE0 v && wiki_allowed e800 k) (nametable (v % 2)) (chr_page v)

-- the value of E800, and what window k shows by it
abbrev pub wiki_e800 : WikiRegs → ℕ
wiki_e800 w = get_or w.upper 1 0

abbrev pub wiki_shows : WikiRegs → ℕ → WikiPage
wiki_shows w k = wiki_selects (wiki_e800 w) k (get_or w.windows k 0)

-- W11: the PRG page at 8000, A000 and C000, by k from 0
abbrev pub wiki_prg_page : WikiRegs → ℕ → ℕ
wiki_prg_page w k = get_or w.upper k 0 % 64

-- W11: bit 6 of E000 turns the sound off
abbrev pub wiki_silent : WikiRegs → Bool
wiki_silent w = wiki_bit 6 (get_or w.upper 0 0)

-- W12: whether part k of work RAM, of 2 KiB, takes stores
abbrev pub wiki_unprotected : WikiRegs → ℕ → Bool
wiki_unprotected w k = eqb (get_or w.upper 3 0 / 16) 4 && not (wiki_bit k (get_or w.upper 3 0))

-- ---- mapper 210

-- W13: the eight windows show CHR alone
abbrev pub wiki_shows210 : WikiRegs → ℕ → WikiPage
wiki_shows210 w k = chr_page (get_or w.windows k 0)

-- W14: a 175's enable of work RAM, bit 0 of C000; a 340's mirroring bits, 6 and 7 of E000
abbrev pub wiki_ram_enabled : WikiRegs → Bool
wiki_ram_enabled w = wiki_bit 0 (get_or w.windows 8 0)

abbrev pub wiki_mirroring : WikiRegs → ℕ
wiki_mirroring w = get_or w.upper 0 0 / 64
