-- K1 to K7, H4 to H6: what each of a C host's calls with a directory of blocks answers and leaves, refused calls too: what it answers and
-- leaves of image and arena by `Gives`, and the directory's places afterwards. What registering does is directory's.
use Rattle.std.specs.Prelude.{ℕ, ◌+◌, ◌*◌, ◌^◌, List, [], ◌∷◌, length}
use Rattle.memory.specs.declared.layout.MemoryLayout.{MemoryLayout}
use Rattle.board_state.specs.declared.Options.{Options}
use Rattle.board_state.specs.declared.State.{State}
use Rattle.call_refusals.specs.Refusals.{Check, first_of, unless_refused, unless_kept, load_checks}
use Rattle.image_write.specs.Writing.{room_check}
use Rattle.image_read.specs.Reading.{state_in}
use Rattle.directory.specs.Calls.{Found, word_at, found_of, lookup}
use Rattle.call_blocks.specs.Blocks.{directory_check, with_directory, cpu_write_drops, places_check, load_drops}
use Rattle.host_state.specs.HostState.{Gives, unaltered, write_gives}
use Rattle.host_blocks.specs.HostBlocks.{stored_drops}
use Rattle.host.specs.Host.{on_image, cpu_own, load_needs_byte, load_gives}

-- ---- lookup: K4, H6

-- the length in bits 8..31 and the number in bits 32..63; 0 for none, and the refusal number alone where it is refused
abbrev pub found_word : Found → ℕ
found_word f = f.refusal + f.len * 2 ^ 8 + f.number * 2 ^ 32

unfoldable pub host_lookup : List ℕ → ℕ → ℕ
host_lookup d start = found_word (lookup d start)

-- the same without the tests
unfoldable pub host_find : List ℕ → ℕ → ℕ
host_find d start = found_word (found_of (word_at start d))

-- ---- load: K7; refused by N1, then by the number of places, then by a load's own checks

abbrev pub load_blocks_checks : List ℕ → List ℕ → List ℕ → ℕ → MemoryLayout → Options → List Check
load_blocks_checks img arena d mapper sizes options =
    room_check (load_needs_byte sizes options) (length img) ∷ places_check d ∷ load_checks mapper sizes (length arena)

unfoldable pub host_load_blocks : List ℕ → List ℕ → List ℕ → ℕ → ℕ → ℕ → ℕ → MemoryLayout → Options → Gives
host_load_blocks img arena d mapper sub flags known sizes options =
    unless_refused (load_blocks_checks img arena d mapper sizes options) (unaltered img arena)
    (load_gives (length img) arena mapper sub flags known sizes options)

unfoldable pub host_load_places : List ℕ → List ℕ → List ℕ → ℕ → MemoryLayout → Options → List ℕ
host_load_places img arena d mapper sizes options =
    unless_kept (room_check (load_needs_byte sizes options) (length img) ∷ []) d (load_drops d mapper sizes arena)

-- ---- CPU write: K5; N1, N2 of the image and of the directory, N7, N8

abbrev pub blocks_own : List ℕ → State → List ℕ → ℕ → List Check
blocks_own d s arena addr = directory_check d ∷ cpu_own s arena addr

unfoldable pub host_write_blocks : List ℕ → List ℕ → List ℕ → ℕ → ℕ → Gives
host_write_blocks img arena d addr v =
    let s = state_in img in
    unless_refused (on_image img (blocks_own d s arena addr)) (unaltered img arena) (write_gives (length img) s arena addr v)

unfoldable pub host_write_places : List ℕ → List ℕ → List ℕ → ℕ → ℕ → List ℕ
host_write_places img arena d addr v = unless_kept (on_image img []) d (cpu_write_drops d (state_in img) arena addr v)

-- ---- after a store of the host's own: K5; N1, N2 of the image and of the directory

unfoldable pub host_stored : List ℕ → List ℕ → ℕ
host_stored img d = first_of (on_image img (with_directory d []))

unfoldable pub host_stored_places : List ℕ → List ℕ → ℕ → List ℕ
host_stored_places img d offset = unless_kept (on_image img []) d (stored_drops d (state_in img) offset)
