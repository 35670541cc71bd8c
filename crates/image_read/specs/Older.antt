-- H12: reading as it was before the byte of options had the high bit of the count of PRG-RAM pages. `older-images` (proofs/Older.antt) says
-- that an image which was accepted then reads to the same state now.
use Rattle.std.specs.Prelude.{ℕ, Bool, not, ◌&&◌, List, [], ◌∷◌, eqb, leb, length, get_or}
use Rattle.bits.specs.Fields.{unpack}
use Rattle.board_state.specs.declared.State.{State}
use Rattle.board_state.specs.State.{in_range}
use Rattle.call_refusals.specs.Refusals.{Check, unless_refused}
use Rattle.image_write.specs.Image.{part, part_widths}
use Rattle.image_write.specs.Writing.{image_check}
use Rattle.image_read.specs.Reading.{ReadImage, cut_into, options_from, state_from, fields_of, body_in, byte_in, refused_read}

-- the fields of the byte of options: five bits meant nothing
abbrev pub older_options : ℕ → List ℕ
older_options byte = unpack (1 ∷ 1 ∷ 1 ∷ 5 ∷ []) byte

-- the state: the seven bits were the whole count
abbrev pub older_state : List ℕ → State
older_state img = state_from (cut_into part_widths (fields_of (body_in img))) (options_from (older_options (byte_in img))) 0

-- R9, R12: and at most so many pages were in range
abbrev pub older_most : ℕ
older_most = 64

abbrev pub older_in_range : State → Bool
older_in_range s = leb s.memory.layout.prg_ram older_most && in_range s

unfoldable pub older_ok : List ℕ → Bool
older_ok img =
    leb (get_or (part (cut_into part_widths (fields_of (body_in img))) 1) 1 0) 4
    && (eqb (get_or (older_options (byte_in img)) 3 0) 0
    && older_in_range (older_state img))

-- N20: refused by 1, then 2
abbrev pub older_checks : List ℕ → List Check
older_checks img = image_check (length img) ∷ record { number = 2; holds = not (older_ok img) } ∷ []

unfoldable pub read_older : List ℕ → ReadImage
read_older img = unless_refused (older_checks img) refused_read (record { refusal = 0; state = older_state img })
