-- H1: the parts of an image as they lie in its bytes, and as the words that the code reads them in.
use Rattle.std.specs.Prelude.{ℕ, ◌-◌, List, [], ◌∷◌, ◌++◌, take, drop, replicate}
use Rattle.bits.specs.Fields.{unpack}
use Rattle.bits.specs.Words.{word_of}
use Rattle.memory.specs.declared.Memory.{Memory}
use Rattle.sound.specs.declared.audio.Audio.{Audio}
use Rattle.board_chip.specs.declared.namco163.Namco163.{Namco163}
use Rattle.board_state.specs.declared.Options.{Options}
use Rattle.board_state.specs.declared.State.{State}
use Rattle.image_write.specs.Image.{image_bytes, part, chip_widths, sound_widths, memory_widths}
use Rattle.image_write.specs.Sections.{ram_at, port_at, levels_at, out_at, phases_at, prg_pages_at, chr_pages_at, layout_at}
use Rattle.image_read.specs.declared.head.Head.{Head}
use Rattle.image_read.specs.Reading.{audio_from, chip_from, memory_from}

-- the fields of widths ws in the k bytes from a place on
unfoldable pub fields_at : List ℕ → List ℕ → ℕ → ℕ → List ℕ
fields_at ws img at k = unpack ws (word_of (take k (drop at img)))

-- the board's parts, of the words that hold them
abbrev pub head_parts : Head → List (List ℕ)
head_parts h =
    unpack (part chip_widths 0) h.regs
    ∷ unpack (part chip_widths 1) h.detection
    ∷ unpack (part chip_widths 2) h.flags
    ∷ (unpack (replicate 6 8) h.chr_first ++ unpack (replicate 6 8) h.chr_last)
    ∷ unpack (part chip_widths 4) h.prg
    ∷ []

-- the board, of its words
abbrev pub chip_of : Head → Audio → Namco163
chip_of h audio = let p = head_parts h in chip_from (part p 0) (part p 1) (part p 2) (part p 3) (part p 4) audio

-- the sound, given the bits of `out` and the options
unfoldable pub sound_at : List ℕ → ℕ → Options → Audio
sound_at img bits options =
    audio_from
    (fields_at (part sound_widths 0) img ram_at (port_at - ram_at))
    (fields_at (part sound_widths 1) img port_at (levels_at - port_at))
    (fields_at (part sound_widths 2) img levels_at (out_at - levels_at))
    (bits ∷ [])
    (fields_at (part sound_widths 4) img phases_at (prg_pages_at - phases_at))
    options

-- the memory, given the high bit of its count of PRG-RAM pages
unfoldable pub memory_at : List ℕ → ℕ → Memory
memory_at img high =
    memory_from
    (fields_at (part memory_widths 0) img prg_pages_at (chr_pages_at - prg_pages_at))
    (fields_at (part memory_widths 1) img chr_pages_at (layout_at - chr_pages_at))
    (fields_at (part memory_widths 2) img layout_at (image_bytes - layout_at))
    high

-- the state, given the board's words, the bits of `out`, the options and that bit
abbrev pub state_at : List ℕ → Head → ℕ → Options → ℕ → State
state_at img h bits options high =
    record { chip = chip_of h (sound_at img bits options); memory = memory_at img high; f800_protects = options.f800_protects }
