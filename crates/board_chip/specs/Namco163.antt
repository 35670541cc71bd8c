-- R8: the board's fields, and the board with some of them replaced.
use Rattle.std.specs.Prelude.{◌≡◌, ℕ, ◌≤◌, Bool, true, false, List, Result, MatchResult}
use Rattle.memory.specs.declared.mirroring.Mirroring.{Mirroring}
use Rattle.sound.specs.declared.audio.Audio.{Audio}
use Rattle.board_chip.specs.declared.namco163.Board.{Board}
use Rattle.board_chip.specs.declared.namco163.Board.TheVariants.{Unknown, Namco163 as Is163, Namco175, Namco340}
use Rattle.board_chip.specs.declared.namco163.NoBoard.{NoBoard}
use Rattle.board_chip.specs.declared.namco163.Regs.{Regs}
use Rattle.board_chip.specs.declared.namco163.Namco163.{Namco163}

-- M3: the sizes of the windows
abbrev pub prg_window : ℕ
prg_window = 8192

abbrev pub chr_window : ℕ
chr_window = 1024

-- H1, F16: the number of each board
abbrev pub board_num : Board → ℕ
board_num Unknown = 0
board_num Is163 = 1
board_num Namco175 = 2
board_num Namco340 = 3

-- H1: the board with a number, or an error with a number that no board has
abbrev pub Numbered : ℕ → Result Board NoBoard → Type 0
Numbered n r = MatchResult r (λ b. board_num b ≡ n) (λ e. (e.0 ≡ n) × (4 ≤ n))

-- the Rust's `self.board == Board::..`
abbrev pub is163 : Board → Bool
is163 Unknown = false
is163 Is163 = true
is163 Namco175 = false
is163 Namco340 = false

abbrev pub is175 : Board → Bool
is175 Unknown = false
is175 Is163 = false
is175 Namco175 = true
is175 Namco340 = false

abbrev pub is340 : Board → Bool
is340 Unknown = false
is340 Is163 = false
is340 Namco175 = false
is340 Namco340 = true

-- ---- the board with one field of R8 replaced, and the registers likewise

abbrev pub with_board : Namco163 → Board → Namco163
with_board n b =
    record {
      regs = n.regs;
      board = b;
      mapper_num = n.mapper_num;
      submapper_num = n.submapper_num;
      audio = n.audio;
      auto_detect_board = n.auto_detect_board;
      mirroring = n.mirroring;
      prg_ram_written_to = n.prg_ram_written_to;
      nt_bank_enable = n.nt_bank_enable;
      chr_banks = n.chr_banks;
      prg_banks = n.prg_banks;
    }

abbrev pub with_mirroring : Namco163 → Mirroring → Namco163
with_mirroring n m =
    record {
      regs = n.regs;
      board = n.board;
      mapper_num = n.mapper_num;
      submapper_num = n.submapper_num;
      audio = n.audio;
      auto_detect_board = n.auto_detect_board;
      mirroring = m;
      prg_ram_written_to = n.prg_ram_written_to;
      nt_bank_enable = n.nt_bank_enable;
      chr_banks = n.chr_banks;
      prg_banks = n.prg_banks;
    }

abbrev pub with_regs : Namco163 → Regs → Namco163
with_regs n r =
    record {
      regs = r;
      board = n.board;
      mapper_num = n.mapper_num;
      submapper_num = n.submapper_num;
      audio = n.audio;
      auto_detect_board = n.auto_detect_board;
      mirroring = n.mirroring;
      prg_ram_written_to = n.prg_ram_written_to;
      nt_bank_enable = n.nt_bank_enable;
      chr_banks = n.chr_banks;
      prg_banks = n.prg_banks;
    }

abbrev pub with_audio : Namco163 → Audio → Namco163
with_audio n a =
    record {
      regs = n.regs;
      board = n.board;
      mapper_num = n.mapper_num;
      submapper_num = n.submapper_num;
      audio = a;
      auto_detect_board = n.auto_detect_board;
      mirroring = n.mirroring;
      prg_ram_written_to = n.prg_ram_written_to;
      nt_bank_enable = n.nt_bank_enable;
      chr_banks = n.chr_banks;
      prg_banks = n.prg_banks;
    }

abbrev pub with_written : Namco163 → Bool → Namco163
with_written n w =
    record {
      regs = n.regs;
      board = n.board;
      mapper_num = n.mapper_num;
      submapper_num = n.submapper_num;
      audio = n.audio;
      auto_detect_board = n.auto_detect_board;
      mirroring = n.mirroring;
      prg_ram_written_to = w;
      nt_bank_enable = n.nt_bank_enable;
      chr_banks = n.chr_banks;
      prg_banks = n.prg_banks;
    }

-- the CIRAM flags and the banks of the twelve slots
abbrev pub with_slots : Namco163 → List Bool → List ℕ → Namco163
with_slots n flags banks =
    record {
      regs = n.regs;
      board = n.board;
      mapper_num = n.mapper_num;
      submapper_num = n.submapper_num;
      audio = n.audio;
      auto_detect_board = n.auto_detect_board;
      mirroring = n.mirroring;
      prg_ram_written_to = n.prg_ram_written_to;
      nt_bank_enable = flags;
      chr_banks = banks;
      prg_banks = n.prg_banks;
    }

abbrev pub with_prg_banks : Namco163 → List ℕ → Namco163
with_prg_banks n banks =
    record {
      regs = n.regs;
      board = n.board;
      mapper_num = n.mapper_num;
      submapper_num = n.submapper_num;
      audio = n.audio;
      auto_detect_board = n.auto_detect_board;
      mirroring = n.mirroring;
      prg_ram_written_to = n.prg_ram_written_to;
      nt_bank_enable = n.nt_bank_enable;
      chr_banks = n.chr_banks;
      prg_banks = banks;
    }

-- the counter and the line
abbrev pub with_counter : Regs → ℕ → Bool → Regs
with_counter r c p =
    record {
      irq_counter = c;
      irq_pending = p;
      nt_select_lo = r.nt_select_lo;
      nt_select_hi = r.nt_select_hi;
      prg_ram_protect = r.prg_ram_protect;
    }

abbrev pub with_selects : Regs → Bool → Bool → Regs
with_selects r lo hi =
    record {
      irq_counter = r.irq_counter;
      irq_pending = r.irq_pending;
      nt_select_lo = lo;
      nt_select_hi = hi;
      prg_ram_protect = r.prg_ram_protect;
    }

abbrev pub with_protect : Regs → ℕ → Regs
with_protect r v =
    record {
      irq_counter = r.irq_counter;
      irq_pending = r.irq_pending;
      nt_select_lo = r.nt_select_lo;
      nt_select_hi = r.nt_select_hi;
      prg_ram_protect = v;
    }
