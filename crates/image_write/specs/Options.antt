-- H9 to H12: the byte of options behind an image, the image at each of its two lengths, and which of them holds a state.
use Rattle.std.specs.Prelude.{ℕ, ◌≡◌, Bool, false, cond, not, ◌&&◌, ◌||◌, List, [], ◌∷◌, ◌++◌, eqb}
use Rattle.bits.specs.Fields.{pack, bit}
use Rattle.limits.specs.Limits.{prg_ram_pages}
use Rattle.board_state.specs.declared.Options.{Options}
use Rattle.board_state.specs.declared.State.{State}
use Rattle.board_state.specs.State.{any_option, options_in}
use Rattle.image_write.specs.Image.{image_bytes, ram_high, image_of}

-- H9: the length of an image with its options
abbrev pub options_image_bytes : ℕ
options_image_bytes = 308

-- H9, H11, H12: whether F800 protects, whether levels are signed, whether they are summed plainly, the high bit of the count of PRG-RAM
-- pages, and the bits that mean nothing
abbrev pub option_widths : List ℕ
option_widths = 1 ∷ 1 ∷ 1 ∷ 1 ∷ 4 ∷ []

-- of options and a count of PRG-RAM pages
abbrev pub option_fields : Options → ℕ → List ℕ
option_fields o pages = bit o.f800_protects ∷ bit o.signed_levels ∷ bit o.plain_sum ∷ ram_high pages ∷ 0 ∷ []

-- H9: the byte itself, the most significant bit first
unfoldable pub options_byte : State → ℕ
options_byte s = pack option_widths (option_fields (options_in s) s.memory.layout.prg_ram)

-- H10: the image of a state in n bytes
unfoldable pub image_at : ℕ → State → List ℕ
image_at n s = cond (eqb n options_image_bytes) (image_of s ++ (options_byte s ∷ [])) (image_of s)

-- H10, H12: whether options and a count of PRG-RAM pages need the byte: an option is set, or the count is the only one in range that the
-- seven bits do not hold
abbrev pub needs_byte : Options → ℕ → Bool
needs_byte o pages = any_option o || eqb pages prg_ram_pages

-- whether a state needs it: a bit of its options is set
abbrev pub option_set : State → Bool
option_set s = needs_byte (options_in s) s.memory.layout.prg_ram

-- H10, N1: n bytes hold an image, `set` being whether a bit of its options is set
unfoldable pub room_for : Bool → ℕ → Bool
room_for set n = eqb n options_image_bytes || (eqb n image_bytes && not set)

-- the same by cases: what `room_for` is proved to say, both ways
pub data Room (set : Bool) (n : ℕ) : Type 0 where
  short : n ≡ image_bytes → set ≡ false → Room set n
  long : n ≡ options_image_bytes → Room set n
