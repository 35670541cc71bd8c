-- R8, R9: the state, and all that is known of it: when it is in range, as the test that N2 makes and, beside it, as the facts that the test
-- gives; what the types of the fields say; and both together. The sound's part is in sound/specs/Range.antt, the memory's in
-- memory/specs/Range.antt, and every number in limits/specs/Limits.antt.
use Rattle.std.specs.Prelude.{ℕ, ◌^◌, ◌≤◌, ◌<◌, ◌≡◌, Bool, false, ◌&&◌, ◌||◌, List, ◌⊎◌, eqb, leb, length, get_or}
use Rattle.limits.specs.Limits.{bank_most}
use Rattle.limits.specs.Every.{every}
use Rattle.memory.specs.Range.{memory_ok, MemoryInRange, MemoryTyped, Bytes}
use Rattle.sound.specs.Range.{audio_ok, InRange as AudioInRange, Typed as AudioTyped}
use Rattle.board_chip.specs.declared.namco163.Namco163.{Namco163}
use Rattle.board_state.specs.declared.Options.{Options}
use Rattle.board_state.specs.declared.State.{State}

-- ---- the mapper: R9

abbrev pub mapper_ok : ℕ → Bool
mapper_ok k = eqb k 19 || eqb k 210

abbrev pub MapperIn : ℕ → Type 0
MapperIn k = (k ≡ 19) ⊎ (k ≡ 210)

-- ---- the banks: R9

abbrev pub bank_test : List ℕ → ℕ → Bool
bank_test banks i = leb (get_or banks i 0) bank_most

abbrev pub BanksIn : List ℕ → Type 0
BanksIn banks = (i : ℕ) → get_or banks i 0 ≤ bank_most

-- ---- the registers: R9; the types of the other fields say their range

unfoldable pub chip_ok : Namco163 → Bool
chip_ok n =
    mapper_ok n.mapper_num
    && (every 3 (bank_test n.prg_banks)
    && audio_ok n.audio)

pub record ChipInRange (n : Namco163) : Type 0 where
  pub mapper : MapperIn n.mapper_num
  pub banks : BanksIn n.prg_banks
  pub audio : AudioInRange n.audio

-- ---- the state: R9; N2 is that the test fails

unfoldable pub in_range : State → Bool
in_range s =
    chip_ok s.chip
    && memory_ok s.memory

pub record InRange (s : State) : Type 0 where
  pub chip : ChipInRange s.chip
  pub memory : MemoryInRange s.memory

-- ---- what the types of the fields say of every state: R8

pub record ChipTyped (n : Namco163) : Type 0 where
  pub counter : n.regs.irq_counter < 2 ^ 16
  pub protect : n.regs.prg_ram_protect < 2 ^ 8
  pub mapper : n.mapper_num < 2 ^ 16
  pub submapper : n.submapper_num < 2 ^ 8
  pub flags : length n.nt_bank_enable ≡ 12
  pub chr : length n.chr_banks ≡ 12
  pub chr_bytes : Bytes n.chr_banks
  pub prg : length n.prg_banks ≡ 3
  pub audio : AudioTyped n.audio

pub record Typed (s : State) : Type 0 where
  pub chip : ChipTyped s.chip
  pub memory : MemoryTyped s.memory

-- ---- both: an owned state that has passed the test

pub record Known (s : State) : Type 0 where
  pub typed : Typed s
  pub range : InRange s

-- ---- L19, S13: a load without options
abbrev pub no_options : Options
no_options = record { f800_protects = false; signed_levels = false; plain_sum = false }

-- H10: whether an option is set
abbrev pub any_option : Options → Bool
any_option o = o.f800_protects || (o.signed_levels || o.plain_sum)

-- S17: what a state holds of its load's options
abbrev pub options_in : State → Options
options_in s =
    record {
      f800_protects = s.f800_protects;
      signed_levels = s.chip.audio.signed_levels;
      plain_sum = s.chip.audio.plain_sum;
    }

-- ---- the state with other registers

abbrev pub with_chip : State → Namco163 → State
with_chip s n = record { chip = n; memory = s.memory; f800_protects = s.f800_protects }
