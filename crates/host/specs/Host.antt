-- H4 to H6: what each of a C host's calls answers and leaves on an image, refused calls too. What it does on the image's state is
-- host_state's.
use Rattle.std.specs.Prelude.{ℕ, Bool, not, List, [], ◌∷◌, eqb, length}
use Rattle.memory.specs.declared.layout.MemoryLayout.{MemoryLayout}
use Rattle.memory.specs.Layout.{pages_for, arena_len}
use Rattle.board_state.specs.declared.Options.{Options}
use Rattle.board_state.specs.declared.State.{State}
use Rattle.call_refusals.specs.Refusals.{Check, unless_refused, kind_check, arena_check, address_check, load_checks}
use Rattle.call_load.specs.Cartridge.{fresh_state, load_arena}
use Rattle.image_write.specs.Options.{image_at, needs_byte}
use Rattle.image_write.specs.Writing.{room_check, image_check}
use Rattle.image_read.specs.Reading.{state_in, fields_check}
use Rattle.host_state.specs.HostState.{Gives, unaltered, reset_gives, read_gives, write_gives, run_own, run_gives}

-- N20: a call on an image is refused by N1, then by N2, then by its own checks
abbrev pub on_image : List ℕ → List Check → List Check
on_image img own = image_check (length img) ∷ fields_check img ∷ own

-- ---- load: it writes an image and reads none (H4)

-- H5: each number but 0 is yes
abbrev pub yes : ℕ → Bool
yes n = not (eqb n 0)

-- R1: the sizes of a load
abbrev pub sizes_of : ℕ → ℕ → ℕ → ℕ → ℕ → ℕ → MemoryLayout
sizes_of rom ram battery chr writable ciram =
    record { prg_rom = rom; prg_ram = ram; battery_ext = battery; chr = chr; chr_writable = yes writable; ciram = ciram }

-- L19, S13: the options of a load
abbrev pub options_of : ℕ → ℕ → ℕ → Options
options_of protects signed plain =
    record { f800_protects = yes protects; signed_levels = yes signed; plain_sum = yes plain }

-- H4, H6: an accepted load: the image of the fresh state in n bytes (H10), and the arena filled with zeros
abbrev pub load_gives : ℕ → List ℕ → ℕ → ℕ → ℕ → ℕ → MemoryLayout → Options → Gives
load_gives n arena mapper sub flags known sizes options =
    record {
      word = 0;
      image = image_at n (fresh_state mapper sub flags (yes known) sizes options);
      lent = load_arena mapper sizes arena;
    }

-- H10, N22: whether its image needs the byte of options, by the options and the pages of PRG-RAM that it asks for
abbrev pub load_needs_byte : MemoryLayout → Options → Bool
load_needs_byte sizes options = needs_byte options (pages_for sizes.prg_ram)

-- N20: refused by N1, then by a load's own checks
abbrev pub host_load_checks : List ℕ → List ℕ → ℕ → MemoryLayout → Options → List Check
host_load_checks img arena mapper sizes options =
    room_check (load_needs_byte sizes options) (length img) ∷ load_checks mapper sizes (length arena)

unfoldable pub host_load : List ℕ → List ℕ → ℕ → ℕ → ℕ → ℕ → MemoryLayout → Options → Gives
host_load img arena mapper sub flags known sizes options =
    unless_refused (host_load_checks img arena mapper sizes options) (unaltered img arena)
    (load_gives (length img) arena mapper sub flags known sizes options)

-- ---- the calls that read an image: H4, N20

unfoldable pub host_reset : List ℕ → ℕ → Gives
host_reset img kind = unless_refused (on_image img (kind_check kind ∷ [])) (unaltered img []) (reset_gives (length img) (state_in img) kind)

-- N7 and N8
abbrev pub cpu_own : State → List ℕ → ℕ → List Check
cpu_own s arena addr = arena_check (arena_len s.memory.layout) (length arena) ∷ address_check addr ∷ []

unfoldable pub host_read : List ℕ → List ℕ → ℕ → Gives
host_read img arena addr =
    let s = state_in img in unless_refused (on_image img (cpu_own s arena addr)) (unaltered img arena) (read_gives (length img) s arena addr)

unfoldable pub host_write : List ℕ → List ℕ → ℕ → ℕ → Gives
host_write img arena addr v =
    let s = state_in img in unless_refused (on_image img (cpu_own s arena addr)) (unaltered img arena) (write_gives (length img) s arena addr v)

unfoldable pub host_run : List ℕ → List ℕ → ℕ → Gives
host_run img samples n =
    let s = state_in img in unless_refused (on_image img (run_own s samples n)) (unaltered img samples) (run_gives (length img) s samples n)
