-- N21: the state of a refused load or image.
use Rattle.std.specs.Prelude.{false, replicate}
use Rattle.memory.specs.declared.mirroring.Mirroring.TheVariants.{Vertical}
use Rattle.memory.specs.Page.{unmapped}
use Rattle.sound.specs.Audio.{fresh, with_channel}
use Rattle.board_chip.specs.declared.namco163.Board.TheVariants.{Unknown}
use Rattle.board_chip.specs.Reset.{no_regs}
use Rattle.board_state.specs.declared.State.{State}

-- N21: a refused load or image reading was given no state; it answers this one, out of range by mapper and CIRAM, and 0 in all else
unfoldable pub no_state : State
no_state =
    record {
      chip =
          record {
            regs = no_regs;
            board = Unknown;
            mapper_num = 0;
            submapper_num = 0;
            audio = with_channel fresh 0;
            auto_detect_board = false;
            mirroring = Vertical;
            prg_ram_written_to = false;
            nt_bank_enable = replicate 12 false;
            chr_banks = replicate 12 0;
            prg_banks = replicate 3 0;
          };
      memory =
          record {
            layout = record { prg_rom = 0; prg_ram = 0; battery_ext = 0; chr = 0; chr_writable = false; ciram = 0 };
            battery_ext_len = 0;
            prg_pages = replicate 64 unmapped;
            chr_pages = replicate 16 unmapped;
          };
      f800_protects = false;
    }
