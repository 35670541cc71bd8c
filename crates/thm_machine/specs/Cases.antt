-- T1 to T12 as one table, by their loads and calls. Each line has what the definitions give and what it has to be.
use Rattle.std.specs.Prelude.{ℕ, ◌+◌, ◌*◌, ◌/◌, ◌%◌, ◌^◌, true, false, List, [], ◌∷◌, ◌++◌, map, get_or, replicate}
use Rattle.std.specs.Float.{nan, binary32}
use Rattle.std.specs.Float.Ieee.{to_bits}
use Rattle.bits.specs.Fields.{bit}
use Rattle.memory.specs.declared.layout.MemoryLayout.{MemoryLayout}
use Rattle.memory.specs.Layout.{layout_of, arena_len, arena_pages}
use Rattle.memory.specs.Page.{unmapped}
use Rattle.sound.specs.Levels.{whole}
use Rattle.sound_wave.specs.Channel.{length_of, level_of}
use Rattle.sound_wave.specs.Mix.{mix_of}
use Rattle.board_state.specs.declared.State.{State}
use Rattle.call_cpu.specs.Calls.{WriteAnswer}
use Rattle.call_cpu.specs.Calls.{cpu_write}
use Rattle.call_load.specs.Cartridge.{Loaded}
use Rattle.board_state.specs.State.{no_options}
use Rattle.call_load.specs.Cartridge.{load_answer}
use Rattle.call_run.specs.Run.{clocks, run_gave}

-- T0: layout P, with another reserve in T12
abbrev pub sizes_p : ℕ → MemoryLayout
sizes_p reserve = record { prg_rom = 32768; prg_ram = 8192; battery_ext = reserve; chr = 8192; chr_writable = false; ciram = 2048 }

-- T0: the bytes of its arena
abbrev pub bytes_p : ℕ
bytes_p = 53248

-- T0: a load of P as mapper 19, known to the database, and its state
abbrev pub load_p : ℕ → Loaded
load_p reserve = load_answer 19 0 0 true (sizes_p reserve) no_options bytes_p

abbrev pub p : State
p = (load_p 128).state

-- L7: a CPU write, its arena as load leaves it
abbrev pub write : State → ℕ → ℕ → WriteAnswer
write s addr v = cpu_write s (replicate bytes_p 0) addr v

abbrev pub after : State → ℕ → ℕ → State
after s addr v = (write s addr v).state

-- R6: an entry for an arena page, without and with the writable flag
abbrev pub page : ℕ → ℕ
page k = k * 1024

abbrev pub page_w : ℕ → ℕ
page_w k = 2 ^ 31 + k * 1024

abbrev pub prg : State → ℕ → ℕ
prg s k = (get_or s.memory.prg_pages k unmapped).0

abbrev pub chr : State → ℕ → ℕ
chr s k = (get_or s.memory.chr_pages k unmapped).0

-- L15: a write's answer: its number, the mask, the count and the lowest page of each table
abbrev pub answered : WriteAnswer → ℕ → ℕ → ℕ → ℕ → ℕ → ℕ → List (ℕ × ℕ)
answered w mask count lowest chr_mask chr_count chr_lowest =
    (w.refusal, 0) ∷ (w.changed.prg.mask, mask) ∷ (w.changed.prg.count, count) ∷ (w.changed.prg.lowest, lowest)
    ∷ (w.changed.chr.mask, chr_mask) ∷ (w.changed.chr.count, chr_count) ∷ (w.changed.chr.lowest, chr_lowest)
    ∷ []

-- T1 to T4: pages by register writes
abbrev pub pages : List (ℕ × ℕ)
pages =
    let bank = write p 0xE000 0x3F in
    let ciram = write p 0x8000 0xE1 in
    let selected = write (after p 0xE800 0x40) 0x8000 0xE1 in
    let last = write p 0x8000 0xDF in
    ((load_p 128).refusal, 0) ∷ (arena_pages (layout_of (sizes_p 128)), 52) ∷ (arena_len (layout_of (sizes_p 128)), bytes_p)
    ∷ (prg p 56, page 25) ∷ (prg bank.state 32, page 25)
    ∷ (chr ciram.state 0, page_w 51) ∷ (bit (get_or ciram.state.chip.nt_bank_enable 0 false), 1)
    ∷ (get_or ciram.state.chip.chr_banks 0 0, 1)
    ∷ (chr selected.state 0, page 34) ∷ (bit (get_or selected.state.chip.nt_bank_enable 0 true), 0)
    ∷ (get_or selected.state.chip.chr_banks 0 0, 0xE1)
    ∷ (chr last.state 0, page 40)
    ∷ answered bank 0xFF00000000 8 32 0 0 16
    ++ answered ciram 0 0 64 1 1 0
    ++ answered selected 0 0 64 1 1 0
    ++ answered last 0 0 64 1 1 0

-- T5 to T7: P with its counter written, low half first; and silent, so that 32,767 clocks make no sample
abbrev pub counting : ℕ → State
counting c = after (after p 0x5000 (c % 256)) 0x5800 (c / 256)

abbrev pub silent : ℕ → State
silent c = after (counting c) 0xE000 0x40

abbrev pub counter : State → ℕ
counter s = s.chip.regs.irq_counter

abbrev pub line : State → ℕ
line s = bit s.chip.regs.irq_pending

-- T5 to T7: the counter; that it never moves is `never-moves` of proofs/Cases.antt
abbrev pub counters : List (ℕ × ℕ)
counters =
    let one = run_gave (counting 0xFFFE) 1 [] in
    let before = (clocks 32766 (silent 0x8000)).state in
    let low = run_gave (counting 0x7FFE) 1 [] in
    let top = run_gave (counting 0xFFFF) 1 [] in
    (one.refusal, 0) ∷ (counter one.state, 0xFFFF) ∷ (line one.state, 1) ∷ (one.rise, 1)
    ∷ (counter before, 0xFFFE) ∷ (line before, 0) ∷ (line (clocks 32767 (silent 0x8000)).state, 1)
    ∷ (counter low.state, 0x7FFE) ∷ (line low.state, 0) ∷ (low.rise, 0)
    ∷ (counter top.state, 0xFFFF) ∷ (line top.state, 0) ∷ (top.rise, 0)
    ∷ []

-- T8 to T10: by definitions of the sound; T11: runs of the loaded state
abbrev pub sounds : List (ℕ × ℕ)
sounds =
    let short = run_gave p 14 [] in
    let one = run_gave p 15 (nan ∷ []) in
    (length_of 0xFC, 4) ∷ (length_of 0xFF, 4) ∷ (length_of 0x00, 256) ∷ (length_of 0x03, 256)
    ∷ (level_of 0 15, 3720) ∷ (level_of 7 15, 3825) ∷ (level_of 8 15, 0) ∷ (level_of 15 15, 105)
    ∷ (to_bits binary32 (mix_of (map whole (9 ∷ 9 ∷ 9 ∷ 9 ∷ 9 ∷ 1 ∷ 0 ∷ 0 ∷ [])) 2 false), 0x3EAAAAAB)
    ∷ (short.refusal, 0) ∷ (short.made, 0) ∷ (short.state.chip.audio.update_counter, 14)
    ∷ (one.refusal, 0) ∷ (one.made, 1) ∷ (one.state.chip.audio.update_counter, 0) ∷ (to_bits binary32 (get_or one.samples 0 nan), 0)
    ∷ []

-- T12: a reserve of 1 loads, one of 0 is refused by 6
abbrev pub reserves : List (ℕ × ℕ)
reserves = ((load_p 1).refusal, 0) ∷ (arena_len (layout_of (sizes_p 1)), bytes_p) ∷ ((load_p 0).refusal, 6) ∷ []

unfoldable pub table : List (ℕ × ℕ)
table = pages ++ (counters ++ (sounds ++ reserves))
