-- L1 to L4: the registers of a fresh board.
use Rattle.std.specs.Prelude.{ℕ, ◌/◌, ◌%◌, Bool, true, false, cond, not, replicate, ◌==◌}
use Rattle.memory.specs.declared.mirroring.Mirroring.{Mirroring}
use Rattle.memory.specs.declared.mirroring.Mirroring.TheVariants.{Vertical, Horizontal, FourScreen}
use Rattle.sound.specs.Audio.{fresh}
use Rattle.board_chip.specs.declared.namco163.Board.{Board}
use Rattle.board_chip.specs.declared.namco163.Board.TheVariants.{Unknown, Namco163 as Is163, Namco175, Namco340}
use Rattle.board_chip.specs.declared.namco163.Namco163.{Namco163}
use Rattle.board_chip.specs.Reset.{no_regs}

-- L3, L4: the board of a mapper and submapper
unfoldable pub board_at_load : ℕ → ℕ → Board
board_at_load mapper sub =
    cond (mapper == 19) Is163 (cond (mapper == 210) (cond (sub == 1) Namco175 (cond (sub == 2) Namco340 Unknown)) Unknown)

-- L3, L4: whether it detects; a 210 that is Unknown does so even if the game is known. No other mapper is loaded (N4); the Rust's match has
-- an arm for it.
unfoldable pub detecting_at_load : ℕ → ℕ → Bool → Bool
detecting_at_load mapper sub known =
    cond (mapper == 19) (not known) (cond (mapper == 210) (cond (sub == 1) false (cond (sub == 2) false true)) false)

-- L2: the mirroring by the iNES flags
unfoldable pub mirroring_at_load : ℕ → Mirroring
mirroring_at_load flags = cond (flags / 8 % 2 == 1) FourScreen (cond (flags % 2 == 1) Vertical Horizontal)

-- L1: `Namco163::load` but for the mapping
unfoldable pub chip_at_load : ℕ → ℕ → ℕ → Bool → Namco163
chip_at_load mapper sub flags known =
    record {
      regs = no_regs;
      board = board_at_load mapper sub;
      mapper_num = mapper;
      submapper_num = sub;
      audio = fresh;
      auto_detect_board = detecting_at_load mapper sub known;
      mirroring = mirroring_at_load flags;
      prg_ram_written_to = false;
      nt_bank_enable = replicate 12 false;
      chr_banks = replicate 12 0;
      prg_banks = replicate 3 0;
    }
