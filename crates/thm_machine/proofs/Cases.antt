-- T1 to T12 in one computed test (A6), and that the counters of T7 never move.
use Prim.Native.Nat.{ℕ, ◌<◌}
use mathlib.Core.Path.{◌≡◌, refl, ap, ◌∙◌}
use mathlib.Core.Bool.{Bool, true, false}
use mathlib.Core.Logic.{◌⊎◌, inl, inr}
use lib.Ieee.{is_nan, to_bits, of_bits, of_fields, of_int, round, units, odd, size, span, climb, add, sum, mul, div}
use Rattle.limits.specs.Every.{every}
use Rattle.memory.specs.Layout.{within_limits, layout_of, arena_order, pages_before, pages_of_all, first_page, arena_pages, arena_len, region_of}
use Rattle.memory.specs.Changes.{changed, count_changed, lowest_changed, prg_changes, chr_changes, changes}
use Rattle.memory.specs.Range.{layout_ok, used_ok, entry_ok, memory_ok}
use Rattle.memory_map.specs.Windows.{banks_of, window_base, region_page, each_page, show_pages, map_pages, unmap_pages, set_writable, map_prg}
use Rattle.memory_map.specs.Windows.{map_chr, unmap_prg, set_prg_writable}
use Rattle.memory_map.specs.Mirroring.{nametable_page, mirror_pages, set_mirroring}
use Rattle.memory_map.specs.New.{unmapped_memory, new_memory}
use Rattle.sound.specs.Levels.{whole_part}
use Rattle.sound.specs.Range.{out_low, out_high, out_ok, level_ok, audio_ok}
use Rattle.sound.specs.Registers.{advanced, written}
use Rattle.sound_wave.specs.Channel.{nibble_at, next_phase, level_at}
use Rattle.sound_wave.specs.Mix.{sum_from, sum_of, mix_of, output_of}
use Rattle.sound_clock.specs.Cases.{right}
use Rattle.sound_clock.specs.Clock.{next_channel, update_channel, updated, sound_clock}
use Rattle.board_chip.specs.Namco163.{is163}
use Rattle.board_chip.specs.Detection.{may_change, maybe_set_board}
use Rattle.board_chip.specs.Load.{board_at_load, detecting_at_load, mirroring_at_load, chip_at_load}
use Rattle.board_chip.specs.Clock.{clock_counter}
use Rattle.board_chr.specs.Slots.{sets_ciram, write_slot, write_nametable, write_c000, write_c800}
use Rattle.board_prg.specs.Banks.{mirroring_e000, detect_e000, high_bits_e000, write_e000, write_e800, write_f000, write_f800}
use Rattle.board_registers.specs.Writes.{write_sound_data, write_counter_low, write_counter_high, write_work_ram, write_chip, remaps}
use Rattle.board_banking.specs.Banking.{map_slot, map_slots, map_chr_table, map_rom, map_work_ram, update_banks}
use Rattle.board_protection.specs.Protection.{remap_banks, remaps_in}
use Rattle.board_state.specs.declared.State.{State}
use Rattle.board_state.specs.None.{no_state}
use Rattle.board_state.specs.State.{chip_ok, in_range}
use Rattle.call_refusals.specs.Refusals.{first_of}
use Rattle.call_cpu.specs.Calls.{write_register, cpu_write}
use Rattle.call_load.specs.Cartridge.{memory_at_load, fresh_state, load_answer}
use Rattle.call_run.specs.Clock.{sound_sample, chip_clock, state_clock, counter_run}
use Rattle.call_run.specs.Run.{clocks, made, run_gave}
use Rattle.call_run.proofs.clock.Laws.{low-stops, top-stops, stopped}
use Rattle.call_run.proofs.run.Laws.{sounds-state, silent-state}
use Rattle.cut.specs.Counter.{moves, next_counter, rises_from}
use Rattle.cut.specs.Machine.{tick, ticks}
use Rattle.thm_machine.specs.Cases.{table}

pub cases : right table ≡ true
unfolding right table every within_limits layout_of arena_order pages_before pages_of_all first_page arena_pages arena_len region_of
    changed count_changed lowest_changed prg_changes chr_changes changes layout_ok used_ok entry_ok memory_ok
    banks_of window_base region_page each_page show_pages map_pages unmap_pages set_writable map_prg map_chr unmap_prg set_prg_writable
    nametable_page mirror_pages set_mirroring unmapped_memory new_memory whole_part out_low out_high out_ok level_ok audio_ok advanced written
    nibble_at next_phase level_at sum_from sum_of mix_of output_of next_channel update_channel updated sound_clock
    may_change maybe_set_board board_at_load detecting_at_load mirroring_at_load chip_at_load clock_counter
    sets_ciram write_slot write_nametable write_c000 write_c800 mirroring_e000 detect_e000 high_bits_e000 write_e000 write_e800 write_f000 write_f800
    write_sound_data write_counter_low write_counter_high write_work_ram write_chip remaps map_slot map_slots map_chr_table map_rom map_work_ram update_banks
    remap_banks remaps_in
    no_state chip_ok in_range first_of write_register cpu_write memory_at_load fresh_state load_answer
    sound_sample chip_clock state_clock made run_gave moves next_counter rises_from tick ticks
    is_nan to_bits of_bits of_fields of_int round units odd size span climb add sum mul div
cases = refl

-- T7: 7FFE and FFFF stay, and so does any other counter below 8000
pub never-moves : (n : ℕ) (s : State) → (s.chip.regs.irq_counter < 0x8000) ⊎ (s.chip.regs.irq_counter ≡ 0xFFFF)
    → (clocks n s).state.chip.regs ≡ s.chip.regs
never-moves n s h = by (is163 s.chip.board) refl (still h)
  where
    still : (s.chip.regs.irq_counter < 0x8000) ⊎ (s.chip.regs.irq_counter ≡ 0xFFFF) → counter_run n s.chip.regs ≡ s.chip.regs
    still (inl l) = (stopped n s.chip.regs (low-stops s.chip.regs.irq_counter l)).regs
    still (inr e) = (stopped n s.chip.regs (top-stops s.chip.regs.irq_counter e)).regs

    by : (t : Bool) → is163 s.chip.board ≡ t → counter_run n s.chip.regs ≡ s.chip.regs
        → (clocks n s).state.chip.regs ≡ s.chip.regs
    by true e q = ap (λ (x : State). x.chip.regs) (sounds-state n s e) ∙ q
    by false e q = ap (λ (x : State). x.chip.regs) (silent-state n s e) ∙ q
