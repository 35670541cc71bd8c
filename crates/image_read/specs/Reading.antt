-- H1, N1, N2: image reading. The state that an image's fields make, and which images are accepted.
use Rattle.std.specs.Prelude.{ℕ, zero, suc, ◌-◌, ◌*◌, Bool, cond, not, ◌&&◌, List, [], ◌∷◌, map, eqb, leb, ℤ, pos, negsuc, Float}
use Rattle.std.specs.Prelude.{length, get_or, take, drop, Result}
use Rattle.std.specs.Float.{binary32}
use Rattle.std.specs.Float.Ieee.{of_bits}
use Rattle.bits.specs.Fields.{unpack}
use Rattle.bits.specs.Words.{word_of}
use Rattle.limits.specs.Limits.{used_most}
use Rattle.memory.specs.declared.Memory.{Memory}
use Rattle.memory.specs.declared.mirroring.Mirroring.{Mirroring}
use Rattle.memory.specs.declared.mirroring.Mirroring.TheVariants.{Vertical, Horizontal, SingleScreenA, SingleScreenB, FourScreen}
use Rattle.memory.specs.declared.page.Page.{Page}
use Rattle.memory.specs.Page.{page_of}
use Rattle.sound.specs.declared.audio.Audio.{Audio}
use Rattle.sound.specs.Levels.{whole_z}
use Rattle.board_chip.specs.declared.namco163.Board.{Board}
use Rattle.board_chip.specs.declared.namco163.Board.TheVariants.{Unknown, Namco163 as Is163, Namco175, Namco340}
use Rattle.board_chip.specs.declared.namco163.Namco163.{Namco163}
use Rattle.board_chip.specs.declared.namco163.Regs.{Regs}
use Rattle.board_state.specs.declared.Options.{Options}
use Rattle.board_state.specs.declared.State.{State}
use Rattle.board_state.specs.State.{in_range}
use Rattle.call_refusals.specs.Refusals.{Check, unless_refused}
use Rattle.board_state.specs.None.{no_state}
use Rattle.refusals.specs.declared.Refusal.{Refusal}
use Rattle.call_refusals.specs.declared.known.KnownState.{KnownState}
use Rattle.refusals.specs.Refusal.{answered}
use Rattle.image_write.specs.Image.{image_bytes, ram_pages, part, part_widths, widths}
use Rattle.image_write.specs.Options.{option_widths}
use Rattle.image_write.specs.Writing.{image_check}

-- ---- fields back to what they were made of: H1

-- a yes/no of its bit: whether it is 1
abbrev pub is_set : ℕ → Bool
is_set v = eqb v 1

-- H1: a board by its number
abbrev pub board_numbered : ℕ → Board
board_numbered zero = Unknown
board_numbered (suc zero) = Is163
board_numbered (suc (suc zero)) = Namco175
board_numbered (suc (suc (suc k))) = Namco340

-- H1: a mirroring by its number; an image with 5, 6 or 7 is refused (`fields_ok`)
abbrev pub mirroring_numbered : ℕ → Mirroring
mirroring_numbered zero = Vertical
mirroring_numbered (suc zero) = Horizontal
mirroring_numbered (suc (suc zero)) = SingleScreenA
mirroring_numbered (suc (suc (suc zero))) = SingleScreenB
mirroring_numbered (suc (suc (suc (suc k)))) = FourScreen

-- H1: entries by page number and flag
unfoldable pub pages_of : List ℕ → List Page
pages_of [] = []
pages_of (n ∷ []) = []
pages_of (n ∷ w ∷ vs) = page_of (1024 * n) (is_set w) ∷ pages_of vs

-- ---- the parts of a list of fields, and the state that they make: H1

-- fields in parts of these lengths
unfoldable pub cut_into : List (List ℕ) → List ℕ → List (List ℕ)
cut_into [] vs = []
cut_into (p ∷ ps) vs = take (length p) vs ∷ cut_into ps (drop (length p) vs)

-- H11: the whole number of an output's 12 bits, two's complement where levels are signed
abbrev pub level_from : Bool → ℕ → ℤ
level_from signed n = cond (signed && leb 2048 n) (negsuc (4095 - n)) (pos n)

-- and the output
abbrev pub output_from : Bool → ℕ → Float
output_from signed n = whole_z (level_from signed n)

-- the sound of its five parts, RAM, port and sound clock, outputs, `out`, phases, and of its choices
abbrev pub audio_from : List ℕ → List ℕ → List ℕ → List ℕ → List ℕ → Options → Audio
audio_from ram port outputs out phases options =
    record {
      ram = ram;
      addr = get_or port 0 0;
      auto_increment = is_set (get_or port 1 0);
      disabled = is_set (get_or port 2 0);
      update_counter = get_or port 3 0;
      current_channel = get_or port 4 0;
      channel_out = map (output_from options.signed_levels) outputs;
      out = of_bits binary32 (get_or out 0 0);
      phase_ext = phases;
      signed_levels = options.signed_levels;
      plain_sum = options.plain_sum;
    }

-- the registers, the first five fields of the first part
abbrev pub regs_from : List ℕ → Regs
regs_from regs =
    record {
      irq_counter = get_or regs 0 0;
      irq_pending = is_set (get_or regs 1 0);
      nt_select_lo = is_set (get_or regs 2 0);
      nt_select_hi = is_set (get_or regs 3 0);
      prg_ram_protect = get_or regs 4 0;
    }

-- the board of its five parts: registers and board numbers, detection, CIRAM flags, CHR banks, PRG banks; and its sound
abbrev pub chip_from : List ℕ → List ℕ → List ℕ → List ℕ → List ℕ → Audio → Namco163
chip_from regs detection flags chr prg audio =
    record {
      regs = regs_from regs;
      board = board_numbered (get_or regs 5 0);
      mapper_num = get_or regs 6 0;
      submapper_num = get_or regs 7 0;
      audio = audio;
      auto_detect_board = is_set (get_or detection 0 0);
      mirroring = mirroring_numbered (get_or detection 1 0);
      prg_ram_written_to = is_set (get_or detection 2 0);
      nt_bank_enable = map is_set flags;
      chr_banks = chr;
      prg_banks = prg;
    }

-- the memory of its three parts, PRG entries, CHR entries, layout, and of the high bit of the count of PRG-RAM pages (H12)
abbrev pub memory_from : List ℕ → List ℕ → List ℕ → ℕ → Memory
memory_from prg chr layout high =
    record {
      layout =
          record {
            prg_rom = get_or layout 0 0;
            prg_ram = ram_pages high (get_or layout 1 0);
            battery_ext = get_or layout 2 0;
            chr = get_or layout 3 0;
            chr_writable = is_set (get_or layout 4 0);
            ciram = get_or layout 5 0;
          };
      battery_ext_len = used_most * get_or layout 6 0;
      prg_pages = pages_of prg;
      chr_pages = pages_of chr;
    }

-- H9, H11: the options of their fields
abbrev pub options_from : List ℕ → Options
options_from fs =
    record { f800_protects = is_set (get_or fs 0 0); signed_levels = is_set (get_or fs 1 0); plain_sum = is_set (get_or fs 2 0) }

-- H12: and the high bit of the count of PRG-RAM pages
abbrev pub high_from : List ℕ → ℕ
high_from fs = get_or fs 3 0

-- H9: the bits that mean nothing
abbrev pub unused_from : List ℕ → ℕ
unused_from fs = get_or fs 4 0

-- the state of the thirteen parts, the options and the high bit
unfoldable pub state_from : List (List ℕ) → Options → ℕ → State
state_from ps options high =
    record {
      chip =
          chip_from (part ps 0) (part ps 1) (part ps 2) (part ps 3) (part ps 4)
          (audio_from (part ps 5) (part ps 6) (part ps 7) (part ps 8) (part ps 9) options);
      memory = memory_from (part ps 10) (part ps 11) (part ps 12) high;
      f800_protects = options.f800_protects;
    }

-- the state of all fields and of those of the byte of options
unfoldable pub state_of : List ℕ → List ℕ → State
state_of vs options = state_from (cut_into part_widths vs) (options_from options) (high_from options)

-- ---- which images are accepted: N1, N2

-- R9, R11: the mirroring is at most 4 and the state is in range, so the mapper is 19 or 210, the update counter at most 14, each output and
-- `out` in the range of the choices, each page number that of an arena page, each page count at most R1's, CIRAM at least 1, and the
-- reserve used only where it has a page; and no option bit is set that means nothing
unfoldable pub fields_ok : List ℕ → List ℕ → Bool
fields_ok vs options =
    leb (get_or (part (cut_into part_widths vs) 1) 1 0) 4
    && (eqb (unused_from options) 0
    && in_range (state_of vs options))

-- the fields of the bytes before the options
unfoldable pub fields_of : List ℕ → List ℕ
fields_of body = unpack widths (word_of body)

-- H9: the options of their byte
abbrev pub options_of : ℕ → List ℕ
options_of byte = unpack option_widths byte

-- H9: the bytes before the options, and the byte of options; a shorter image has zeros there
abbrev pub body_in : List ℕ → List ℕ
body_in img = take image_bytes img

abbrev pub byte_in : List ℕ → ℕ
byte_in img = get_or img image_bytes 0

-- H3: the state that an accepted image holds
abbrev pub state_in : List ℕ → State
state_in img = state_of (fields_of (body_in img)) (options_of (byte_in img))

-- R9: whether its fields are in range
abbrev pub image_ok : List ℕ → Bool
image_ok img = fields_ok (fields_of (body_in img)) (options_of (byte_in img))

-- N2: some field is out of range
abbrev pub fields_check : List ℕ → Check
fields_check img = record { number = 2; holds = not (image_ok img) }

-- N20: image reading is refused by 1, then 2
abbrev pub read_checks : List ℕ → List Check
read_checks img = image_check (length img) ∷ fields_check img ∷ []

-- N0, N21: what a read answers
pub record ReadImage : Type 0 where
  pub refusal : ℕ
  pub state : State

-- N21: a refused read was given no state: it answers the one that a refused load answers
abbrev pub refused_read : ℕ → ReadImage
refused_read q = record { refusal = q; state = no_state }

-- the answer as its number and its state
abbrev pub read_answer : Result KnownState Refusal → ReadImage
read_answer = answered refused_read (λ (k : KnownState). record { refusal = 0; state = k.state })

unfoldable pub read_image : List ℕ → ReadImage
read_image img = unless_refused (read_checks img) refused_read (record { refusal = 0; state = state_in img })

-- the same of an image in two pieces, once its length has passed
unfoldable pub read_body : List ℕ → ℕ → ReadImage
read_body body byte =
    let vs = fields_of body in let options = options_of byte in
    cond (fields_ok vs options) (record { refusal = 0; state = state_of vs options }) (refused_read 2)
