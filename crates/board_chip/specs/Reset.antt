-- C7, C8: the Rust's `reset`.
use Rattle.std.specs.Prelude.{ℕ, true, false, List, slice_set}
use Rattle.sound.specs.Audio.{fresh, with_choice}
use Rattle.board_chip.specs.declared.namco163.Regs.{Regs}
use Rattle.board_chip.specs.declared.namco163.Namco163.{Namco163}
use Rattle.board_chip.specs.declared.reset.ResetKind.{ResetKind}
use Rattle.board_chip.specs.declared.reset.ResetKind.TheVariants.{Soft, Hard}
use Rattle.board_chip.specs.Namco163.{with_regs, with_audio, with_written, with_slots}

-- N3: the host's number of a kind
abbrev pub kind_num : ResetKind → ℕ
kind_num Soft = 0
kind_num Hard = 1

-- L1, C7: the Rust's `Regs::default`
abbrev pub no_regs : Regs
no_regs = record { irq_counter = 0; irq_pending = false; nt_select_lo = false; nt_select_hi = false; prg_ram_protect = 0 }

-- C7: what a reset of each kind makes of the registers
abbrev pub reset_regs : ResetKind → Regs → Regs
reset_regs Soft r = r
reset_regs Hard r = no_regs

-- C7: slots 8..11 set to one value
abbrev pub set_nametables : {A : Type 0} → A → List A → List A
set_nametables v l = slice_set (slice_set (slice_set (slice_set l 8 v) 9 v) 10 v) 11 v

-- C7: `Namco163::reset`; every field that is not named here keeps its value (C8), and the new sound has the choices of the old (S17)
unfoldable pub reset_chip : Namco163 → ResetKind → Namco163
reset_chip n k =
    with_audio
    (with_written
    (with_slots (with_regs n (reset_regs k n.regs)) (set_nametables true n.nt_bank_enable) (set_nametables 0 n.chr_banks))
    false)
    (with_choice fresh n.audio.signed_levels n.audio.plain_sum)
