-- Instances, computed: T3 and its neighbours, where board and wiki agree; and the shortest lists that were found where they depart.
use Prim.Native.Nat.{ℕ}
use mathlib.Core.Path.{◌≡◌, refl}
use mathlib.Core.Bool.{true, false}
use mathlib.Core.List.{List, [], ◌∷◌, map}
use lib.IntN.{pos}
use lib.ListN.{get_or, replicate, set}
use Rattle.limits.specs.Every.{every}
use Rattle.memory.specs.Layout.{layout_of, arena_order, pages_before, first_page, region_of}
use Rattle.memory_map.specs.Mirroring.{nametable_page, mirror_pages, set_mirroring}
use Rattle.memory_map.specs.New.{unmapped_memory, new_memory}
use Rattle.memory_map.specs.Windows.{banks_of, window_base, region_page, each_page, show_pages, map_pages, set_writable, map_prg, map_chr}
use Rattle.memory_map.specs.Windows.{set_prg_writable}
use Rattle.sound.specs.Registers.{advanced, written}
use Rattle.sound_wave.specs.Channel.{base_addr, nibble_at, next_phase, level_at}
use Rattle.board_chip.specs.declared.namco163.Namco163.{Namco163}
use Rattle.board_chip.specs.Detection.{may_change, maybe_set_board, prg_ram_writable}
use Rattle.board_chip.specs.Load.{board_at_load, detecting_at_load, chip_at_load}
use Rattle.board_chr.specs.Slots.{sets_ciram, write_slot, write_nametable, write_c800}
use Rattle.board_prg.specs.Banks.{detect_e000, high_bits_e000, write_e000, write_e800, write_f800}
use Rattle.board_registers.specs.Writes.{write_sound_data, write_chip, remaps}
use Rattle.board_banking.specs.Banking.{map_slot, map_slots, map_chr_table, map_rom, map_work_ram, update_banks}
use Rattle.board_protection.specs.Protection.{protect_parts, remap_banks, remaps_in}
use Rattle.board_state.specs.declared.State.{State}
use Rattle.call_cpu.specs.Calls.{write_register}
use Rattle.call_load.specs.Cartridge.{memory_at_load, fresh_state}
use Rattle.thm_machine.specs.Cases.{sizes_p, page, page_w, prg}
use Rattle.thm_wiki.specs.Registers.{chr_page, nametable, no_regs, wiki_write, wiki_allowed, wiki_selects, wiki_shows, wiki_shows210}
use Rattle.thm_wiki.specs.Registers.{wiki_prg_page, wiki_ram_enabled, wiki_unprotected}
use Rattle.thm_wiki.specs.Sound.{wiki_phase, wiki_next_phase, wiki_output}
use Rattle.thm_wiki.specs.Port.{sound_write}
use Rattle.thm_wiki.specs.Machine.{write, step}
use Rattle.thm_wiki.specs.Notes.{same_phases, note, start, steps}
use Rattle.thm_wiki.specs.Shown.{slot_shows}

-- ---- a known 163, and a 175

abbrev a163 : Namco163
a163 = chip_at_load 19 0 0 true

abbrev a175 : Namco163
a175 = chip_at_load 210 1 0 true

-- E800 = 40, 8000 = E1: CHR page E1 in both (T3); and E800 = C0 before it
pub case-3 : (slot_shows (write_chip (write_chip a163 0xE800 0x40) 0x8000 0xE1) 0 ≡ chr_page 0xE1)
    × (wiki_shows (steps start (write 0xE800 0x40 ∷ write 0x8000 0xE1 ∷ [])).machine.regs 0 ≡ chr_page 0xE1)
unfolding steps step wiki_write wiki_selects wiki_allowed write_chip write_slot sets_ciram write_e800 chip_at_load board_at_load
case-3 = (refl, refl)

pub case-c0 : (slot_shows (write_chip (write_chip a163 0xE800 0xC0) 0x8000 0xE1) 0 ≡ chr_page 0xE1)
    × (wiki_shows (steps start (write 0xE800 0xC0 ∷ write 0x8000 0xE1 ∷ [])).machine.regs 0 ≡ chr_page 0xE1)
unfolding steps step wiki_write wiki_selects wiki_allowed write_chip write_slot sets_ciram write_e800 chip_at_load board_at_load
case-c0 = (refl, refl)

-- E800 = C1, E000 = 05: PRG page 5 at 8000
pub case-c1 : (get_or (write_chip (write_chip a163 0xE800 0xC1) 0xE000 0x05).prg_banks 0 0 ≡ 5)
    × (wiki_prg_page (steps start (write 0xE800 0xC1 ∷ write 0xE000 0x05 ∷ [])).machine.regs 0 ≡ 5)
unfolding steps step wiki_write write_chip write_e800 write_e000 detect_e000 high_bits_e000 chip_at_load board_at_load
case-c1 = (refl, refl)

-- a 175: 8000 = E1, E000 = 05: CHR page E1, PRG page 5
pub case-175 :
    ((slot_shows (write_chip (write_chip a175 0x8000 0xE1) 0xE000 0x05) 0 ≡ chr_page 0xE1)
    × (get_or (write_chip (write_chip a175 0x8000 0xE1) 0xE000 0x05).prg_banks 0 0 ≡ 5))
    × ((wiki_shows210 (steps start (write 0x8000 0xE1 ∷ write 0xE000 0x05 ∷ [])).machine.regs 0 ≡ chr_page 0xE1)
    × (wiki_prg_page (steps start (write 0x8000 0xE1 ∷ write 0xE000 0x05 ∷ [])).machine.regs 0 ≡ 5))
unfolding steps step wiki_write write_chip write_slot sets_ciram write_e000 detect_e000 high_bits_e000 maybe_set_board may_change chip_at_load
    board_at_load detecting_at_load
case-175 = ((refl, refl), (refl, refl))

-- F800 = 41 in the edition where it protects: no store to work RAM before it, and after it to each part but the first
abbrev protecting : State
protecting = fresh_state 19 0 0 true (sizes_p 128) (record { f800_protects = true; signed_levels = false; plain_sum = false })

abbrev work_ram : State → List ℕ
work_ram s = map (prg s) (24 ∷ 25 ∷ 26 ∷ 27 ∷ 28 ∷ 29 ∷ 30 ∷ 31 ∷ [])

pub case-41 : (work_ram protecting ≡ map page (41 ∷ 42 ∷ 43 ∷ 44 ∷ 45 ∷ 46 ∷ 47 ∷ 48 ∷ []))
    × ((work_ram (write_register protecting 0xF800 0x41)
    ≡ page 41 ∷ page 42 ∷ page_w 43 ∷ page_w 44 ∷ page_w 45 ∷ page_w 46 ∷ page_w 47 ∷ page_w 48 ∷ [])
    × (map (wiki_unprotected (steps start (write 0xF800 0x41 ∷ [])).machine.regs) (0 ∷ 1 ∷ 2 ∷ 3 ∷ []) ≡ false ∷ true ∷ true ∷ true ∷ []))
unfolding steps step wiki_write fresh_state memory_at_load new_memory unmapped_memory set_mirroring mirror_pages nametable_page layout_of arena_order
    pages_before first_page region_of banks_of window_base region_page each_page show_pages map_pages set_writable map_prg map_chr set_prg_writable
    chip_at_load board_at_load detecting_at_load maybe_set_board may_change remaps map_slot map_slots map_chr_table map_rom map_work_ram update_banks
    protect_parts remap_banks remaps_in write_register write_chip write_f800
case-41 = (refl, (refl, refl))

-- ---- departures

-- W10: the select bits act when a slot is written. 8000 = E1, E800 = 40.
pub select-departs : (slot_shows (write_chip (write_chip a163 0x8000 0xE1) 0xE800 0x40) 0 ≡ nametable 1)
    × (wiki_shows (steps start (write 0x8000 0xE1 ∷ write 0xE800 0x40 ∷ [])).machine.regs 0 ≡ chr_page 0xE1)
unfolding steps step wiki_write wiki_selects wiki_allowed write_chip write_slot sets_ciram write_e800 chip_at_load board_at_load
select-departs = (refl, refl)

-- W12: before any write of F800 the wiki protects all of work RAM, and this board none of it in the edition where F800 does not protect
pub protect-departs : wiki_unprotected no_regs 0 ≡ false
protect-departs = refl

-- W14: on a 175 C800..DFFF set the enable too. C800 = 01.
pub enable-departs : (prg_ram_writable (write_chip a175 0xC800 0x01).board (write_chip a175 0xC800 0x01).regs.prg_ram_protect ≡ true)
    × (wiki_ram_enabled (steps start (write 0xC800 0x01 ∷ [])).machine.regs ≡ false)
unfolding steps step wiki_write write_chip write_c800 write_nametable maybe_set_board may_change chip_at_load board_at_load detecting_at_load
enable-departs = (refl, refl)

-- W16: a data write to a phase byte moves the wiki's phase and not the board's, and that is noted. F800 = 7D, 4800 = 08.
pub phase-departs : (get_or (write_chip (write_chip a163 0xF800 0x7D) 0x4800 0x08).audio.phase_ext 7 0 ≡ 0)
    × ((wiki_phase (steps start (write 0xF800 0x7D ∷ write 0x4800 0x08 ∷ [])).machine.sound.ram 0x78 ≡ 0x80000)
    × ((steps start (write 0xF800 0x7D ∷ write 0x4800 0x08 ∷ [])).notes.phases ≡ true))
unfolding steps step note sound_write same_phases every write_chip write_sound_data write_f800 maybe_set_board may_change written advanced chip_at_load
    board_at_load detecting_at_load
phase-departs = (refl, (refl, refl))

-- and so another level: sound bytes 04 = 0F, 7C = F0, 7D = 08 and 7F = 0F, at the first update of channel 7
abbrev waves : List ℕ
waves = set (set (set (set (replicate 128 0) 0x04 0x0F) 0x7C 0xF0) 0x7D 0x08) 0x7F 0x0F

pub level-departs : (level_at waves (base_addr 7) (next_phase waves (base_addr 7) 0) false ≡ pos 3720)
    × (wiki_output waves 0x78 (wiki_next_phase waves 0x78) ≡ pos 105)
unfolding level_at nibble_at next_phase
level-departs = (refl, refl)
