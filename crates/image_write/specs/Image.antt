-- H1, H2: the image. The widths of its fields and a state's values for them, in H1's order, as lists of parts.
use Rattle.std.specs.Prelude.{ℕ, ◌+◌, ◌-◌, ◌*◌, ◌/◌, ◌%◌, cond, List, [], ◌∷◌, ◌++◌, map, eqb, ltb, Float, get_or, replicate}
use Rattle.std.specs.Float.{binary32}
use Rattle.std.specs.Float.Ieee.{to_bits}
use Rattle.bits.specs.Fields.{pack, bit, times, each}
use Rattle.bits.specs.Words.{bytes_of}
use Rattle.bits.specs.declared.cursor.Cursor.{Cursor}
use Rattle.limits.specs.Limits.{used_most, prg_entries, chr_entries, minus_zero}
use Rattle.memory.specs.declared.Memory.{Memory}
use Rattle.memory.specs.declared.page.Page.{Page}
use Rattle.memory.specs.Mirroring.{mirroring_num}
use Rattle.memory.specs.Page.{offset_of, writable_of}
use Rattle.sound.specs.declared.audio.Audio.{Audio}
use Rattle.board_chip.specs.declared.namco163.Namco163.{Namco163}
use Rattle.board_chip.specs.Namco163.{board_num}
use Rattle.board_state.specs.declared.State.{State}
use Rattle.sound.specs.Levels.{whole_part}
use Rattle.sound.specs.Range.{size_bits}

-- H1: the length of an image
abbrev pub image_bytes : ℕ
image_bytes = 307

-- ---- the board: H1 from bit 0

abbrev pub chip_widths : List (List ℕ)
chip_widths =
    (16 ∷ 1 ∷ 1 ∷ 1 ∷ 8 ∷ 2 ∷ 16 ∷ 8 ∷ [])
    ∷ (1 ∷ 3 ∷ 1 ∷ [])
    ∷ replicate 12 1
    ∷ replicate 12 8
    ∷ replicate 3 6
    ∷ []

abbrev pub chip_fields : Namco163 → List (List ℕ)
chip_fields n =
    (n.regs.irq_counter
    ∷ bit n.regs.irq_pending
    ∷ bit n.regs.nt_select_lo
    ∷ bit n.regs.nt_select_hi
    ∷ n.regs.prg_ram_protect
    ∷ board_num n.board
    ∷ n.mapper_num
    ∷ n.submapper_num
    ∷ [])
    ∷ (bit n.auto_detect_board ∷ mirroring_num n.mirroring ∷ bit n.prg_ram_written_to ∷ [])
    ∷ map bit n.nt_bank_enable
    ∷ n.chr_banks
    ∷ n.prg_banks
    ∷ []

-- ---- the sound: H1 from bit 184

abbrev pub sound_widths : List (List ℕ)
sound_widths = replicate 128 8 ∷ (7 ∷ 1 ∷ 1 ∷ 4 ∷ 3 ∷ []) ∷ replicate 8 12 ∷ (32 ∷ []) ∷ replicate 8 24 ∷ []

-- H1, H11: a channel output as its whole number; below zero 4096 less its size, which is two's complement in 12 bits
unfoldable pub level_num : Float → ℕ
level_num x = cond (ltb (to_bits binary32 x) minus_zero) (whole_part (size_bits x)) (4096 - whole_part (size_bits x))

abbrev pub sound_fields : Audio → List (List ℕ)
sound_fields a =
    a.ram
    ∷ (a.addr ∷ bit a.auto_increment ∷ bit a.disabled ∷ a.update_counter ∷ a.current_channel ∷ [])
    ∷ map level_num a.channel_out
    ∷ (to_bits binary32 a.out ∷ [])
    ∷ a.phase_ext
    ∷ []

-- ---- the memory: H1 from bit 1544

abbrev pub page_widths : List ℕ
page_widths = 10 ∷ 1 ∷ []

abbrev pub page_fields : Page → List ℕ
page_fields p = offset_of p / 1024 ∷ bit (writable_of p) ∷ []

-- H12: of a count of PRG-RAM pages the low seven bits, which stand among the bytes, and the high bit, which the byte of options has
abbrev pub ram_low : ℕ → ℕ
ram_low pages = pages % 128

abbrev pub ram_high : ℕ → ℕ
ram_high pages = pages / 128

-- and the count of both
abbrev pub ram_pages : ℕ → ℕ → ℕ
ram_pages high low = 128 * high + low

abbrev pub layout_widths : List ℕ
layout_widths = 10 ∷ 7 ∷ 1 ∷ 9 ∷ 1 ∷ 3 ∷ 1 ∷ []

abbrev pub layout_fields : Memory → List ℕ
layout_fields m =
    m.layout.prg_rom
    ∷ ram_low m.layout.prg_ram
    ∷ m.layout.battery_ext
    ∷ m.layout.chr
    ∷ bit m.layout.chr_writable
    ∷ m.layout.ciram
    ∷ bit (eqb m.battery_ext_len used_most)
    ∷ []

abbrev pub memory_widths : List (List ℕ)
memory_widths = times prg_entries page_widths ∷ times chr_entries page_widths ∷ layout_widths ∷ []

abbrev pub memory_fields : Memory → List (List ℕ)
memory_fields m = each page_fields m.prg_pages ∷ each page_fields m.chr_pages ∷ layout_fields m ∷ []

-- ---- the whole: H1

-- part k of a list of parts
abbrev pub part : List (List ℕ) → ℕ → List ℕ
part ps k = get_or ps k []

abbrev pub part_widths : List (List ℕ)
part_widths = chip_widths ++ (sound_widths ++ memory_widths)

abbrev pub part_fields : State → List (List ℕ)
part_fields s = chip_fields s.chip ++ (sound_fields s.chip.audio ++ memory_fields s.memory)

-- parts one behind the other
unfoldable pub joined : List (List ℕ) → List ℕ
joined [] = []
joined (x ∷ xs) = x ++ joined xs

-- the widths of all fields, in H1's order
unfoldable pub widths : List ℕ
widths = joined part_widths

-- and a state's values for them
unfoldable pub fields : State → List ℕ
fields s = joined (part_fields s)

-- H1: the image of a state, its fields without gaps, the most significant bit first
unfoldable pub image_of : State → List ℕ
image_of s = bytes_of image_bytes (pack widths (fields s))

-- a place at the start of a byte
abbrev pub byte_at : ℕ → Cursor
byte_at k = record { acc = 0; n = 0; at = k }
