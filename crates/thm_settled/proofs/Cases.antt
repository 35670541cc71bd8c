-- Lists from a load that show why each condition of the claims is there, each for all loads of its kind, computed on the registers: D is a
-- detecting 163 (mapper 19, in no database), U an Unknown (mapper 210, submapper 0).
use Prim.Native.Nat.{ℕ, ◌^◌, ◌<◌}
use mathlib.Core.Path.{◌≡◌, refl, ap, ap₂, ◌∙◌}
use mathlib.Core.Bool.{Bool, true, false, ◌&&◌}
use mathlib.Core.List.{List, [], ◌∷◌}
use native.Mathlib.Omega.{arith}
use borrow.Author.Tests.{leb-true, ltb-true}
use lib.Dec.{leb, ltb}
use lib.Ieee.{Float}
use Rattle.cut.specs.Calls.{Call, other, Gave, noted}
use Rattle.limits.proofs.Every.{and_left, and_right}
use Rattle.board_chip.specs.declared.namco163.Board.{Board}
use Rattle.board_chip.specs.declared.namco163.Board.TheVariants.{Namco163 as Is163, Namco175, Namco340}
use Rattle.board_chip.specs.declared.namco163.Namco163.{Namco163}
use Rattle.board_chip.specs.declared.reset.ResetKind.TheVariants.{Soft}
use Rattle.board_chip.specs.Detection.{may_change, maybe_set_board}
use Rattle.board_chip.specs.Load.{board_at_load, detecting_at_load, chip_at_load}
use Rattle.board_chip.specs.Reset.{reset_chip}
use Rattle.board_chr.specs.Slots.{write_nametable, write_c000}
use Rattle.board_prg.specs.Banks.{detect_e000, high_bits_e000, write_e000}
use Rattle.board_registers.specs.Writes.{write_sound_data, write_work_ram, write_chip}
use Rattle.call_cpu.specs.Calls.{write_register}
use Rattle.call_load.specs.Cartridge.{chosen, fresh_state}
use Rattle.thm_machine.specs.Calls.{Held, Other, cpu_write, reset, Answer, ArgTyped}
use Rattle.thm_machine.specs.Paper.{checks, answers}
use Rattle.thm_machine.specs.Board.{other_gives}
use Rattle.thm_machine.specs.Start.{Loaded, loaded}
use Rattle.thm_machine.proofs.Keeps.{keeps-other}
use Rattle.thm_machine.proofs.Start.{load-starts}
use Rattle.thm_range.specs.Fit.{Fit}
use Rattle.thm_range.proofs.Calls.{cpu-accepted, reset-accepted, other_fits, load_fits}
use Rattle.thm_settled.specs.Settled.{type_of, written, after}

-- ---- lists of writes and soft resets, and what they make of the registers

pub data Move : Type 0 where
  put : ℕ → ℕ → Move
  soft : Move

abbrev pub call_of : Move → Other
call_of (put a v) = cpu_write a v
call_of soft = reset 0

abbrev pub calls : List Move → List (Call Float Other)
calls [] = []
calls (m ∷ ms) = other (call_of m) ∷ calls ms

abbrev moved : Move → Namco163 → Namco163
moved (put a v) n = write_chip n a v
moved soft n = reset_chip n Soft

abbrev all_moved : List Move → Namco163 → Namco163
all_moved [] n = n
all_moved (m ∷ ms) n = all_moved ms (moved m n)

-- writes of bytes from 4800 on, and resets: each is accepted
abbrev fine : Move → Bool
fine (put a v) = leb 0x4800 a && ltb v 256
fine soft = true

abbrev all_fine : List Move → Bool
all_fine [] = true
all_fine (m ∷ ms) = fine m && all_fine ms

move-typed : (m : Move) → fine m ≡ true → ArgTyped (call_of m)
move-typed (put a v) w = ltb-true v 256 (and_right (leb 0x4800 a) (ltb v 256) w)
move-typed soft w = tt

one-move : (m : Move) (h : Held) → Fit h → fine m ≡ true → (other_gives (call_of m) h).state.state.chip ≡ moved m h.state.chip
unfolding answers checks write_register
one-move (put a v) h f w =
    ap (λ (g : Gave Held Answer). g.state.state.chip) (keeps-other (cpu_write a v) h)
    ∙ rw (cpu-accepted h f a (leb-true 0x4800 a (and_left (leb 0x4800 a) (ltb v 256) w)))
one-move soft h f w =
    ap (λ (g : Gave Held Answer). g.state.state.chip) (keeps-other (reset 0) h) ∙ rw (reset-accepted h f 0 (omega arith))

moves : (ms : List Move) (h : Held) → Fit h → all_fine ms ≡ true → (after (calls ms) h).state.chip ≡ all_moved ms h.state.chip
unfolding noted
moves [] h f w = refl
moves (m ∷ ms) h f w =
    let this = and_left (fine m) (all_fine ms) w in
    moves ms (other_gives (call_of m) h).state (other_fits (call_of m) h (move-typed m this) f) (and_right (fine m) (all_fine ms) w)
    ∙ ap (all_moved ms) (one-move m h f this)

-- a field of the registers after such a list from a load
field : {A : Type 0} (of : Namco163 → A) (l : Loaded) → l.submapper < 2 ^ 8 → (ms : List Move) → all_fine ms ≡ true
    → of (after (calls ms) (loaded l)).state.chip
    ≡ of (all_moved ms (chosen (chip_at_load l.mapper l.submapper l.flags l.known) l.options))
unfolding fresh_state
field of l sub ms w =
    ap of (moves ms (loaded l) (load_fits l sub) w ∙ ap (λ (h : Held). all_moved ms h.state.chip) (load-starts l))

-- ---- the lists

abbrev pub D : Loaded → Type 0
D l = (l.mapper ≡ 19) × (l.known ≡ false)

abbrev pub U : Loaded → Type 0
U l = (l.mapper ≡ 210) × (l.submapper ≡ 0)

module _ {A : Type 0} (of : Namco163 → A) (l : Loaded) (sub : l.submapper < 2 ^ 8) (ms : List Move) (w : all_fine ms ≡ true) where
  of-d : D l → of (after (calls ms) (loaded l)).state.chip
      ≡ of (all_moved ms (chosen (chip_at_load 19 l.submapper l.flags false) l.options))
  of-d d =
      field of l sub ms w
      ∙ ap₂ (λ (mapper : ℕ) (known : Bool). of (all_moved ms (chosen (chip_at_load mapper l.submapper l.flags known) l.options)))
      d.0 d.1

  of-u : U l → of (after (calls ms) (loaded l)).state.chip
      ≡ of (all_moved ms (chosen (chip_at_load 210 0 l.flags l.known) l.options))
  of-u u =
      field of l sub ms w ∙ ap₂ (λ (mapper submapper : ℕ). of (all_moved ms (chosen (chip_at_load mapper submapper l.flags l.known) l.options)))
      u.0 u.1

abbrev type : Namco163 → Board
type n = n.board

-- Without the written flag a type that was found does not stay, nor is mapper 19 always a 163: D by E000 = 80 is a 340, and by 4800 = 00 a
-- 163 again.
pub without-the-flag : (l : Loaded) → l.submapper < 2 ^ 8 → D l
    → (type_of (after (calls (put 0xE000 0x80 ∷ [])) (loaded l)) ≡ Namco340)
    × (type_of (after (calls (put 0xE000 0x80 ∷ put 0x4800 0x00 ∷ [])) (loaded l)) ≡ Is163)
unfolding write_chip write_e000 detect_e000 high_bits_e000 write_sound_data maybe_set_board may_change chip_at_load board_at_load detecting_at_load
without-the-flag l sub d = (
  of-d type l sub (put 0xE000 0x80 ∷ []) refl d,
  of-d type l sub (put 0xE000 0x80 ∷ put 0x4800 0x00 ∷ []) refl d,
)

-- Across a reset a settled 340 does not stay: D by E000 = 80 and 6000 = 01 is one, and after a soft reset C000 = 01 makes it a 175.
pub across-a-reset : (l : Loaded) → l.submapper < 2 ^ 8 → D l
    → let first = calls (put 0xE000 0x80 ∷ put 0x6000 0x01 ∷ []) in
    (type_of (after first (loaded l)) ≡ Namco340)
    × ((written (after first (loaded l)) ≡ true)
    × (type_of (after (calls (put 0xE000 0x80 ∷ put 0x6000 0x01 ∷ soft ∷ put 0xC000 0x01 ∷ [])) (loaded l)) ≡ Namco175))
unfolding write_chip write_e000 detect_e000 high_bits_e000 write_work_ram write_c000 write_nametable reset_chip maybe_set_board may_change chip_at_load
    board_at_load detecting_at_load
across-a-reset l sub d = (
  of-d type l sub (put 0xE000 0x80 ∷ put 0x6000 0x01 ∷ []) refl d,
  (
    of-d (λ (n : Namco163). n.prg_ram_written_to) l sub (put 0xE000 0x80 ∷ put 0x6000 0x01 ∷ []) refl d,
    of-d type l sub (put 0xE000 0x80 ∷ put 0x6000 0x01 ∷ soft ∷ put 0xC000 0x01 ∷ []) refl d,
  ),
)

-- Of the other types none settles: U by C000 = 01 is a 175, which 6000 = 01 notes as written; 4800 = 00 makes it a 163, and E000 = 80 that
-- a 340.
pub other-types : (l : Loaded) → l.submapper < 2 ^ 8 → U l
    → (type_of (after (calls (put 0xC000 0x01 ∷ put 0x6000 0x01 ∷ [])) (loaded l)) ≡ Namco175)
    × ((type_of (after (calls (put 0xC000 0x01 ∷ put 0x6000 0x01 ∷ put 0x4800 0x00 ∷ [])) (loaded l)) ≡ Is163)
    × (type_of (after (calls (put 0xC000 0x01 ∷ put 0x6000 0x01 ∷ put 0x4800 0x00 ∷ put 0xE000 0x80 ∷ [])) (loaded l)) ≡ Namco340))
unfolding write_chip write_e000 detect_e000 high_bits_e000 write_sound_data write_work_ram write_c000 write_nametable maybe_set_board may_change
    chip_at_load board_at_load detecting_at_load
other-types l sub u = (
  of-u type l sub (put 0xC000 0x01 ∷ put 0x6000 0x01 ∷ []) refl u,
  (
    of-u type l sub (put 0xC000 0x01 ∷ put 0x6000 0x01 ∷ put 0x4800 0x00 ∷ []) refl u,
    of-u type l sub (put 0xC000 0x01 ∷ put 0x6000 0x01 ∷ put 0x4800 0x00 ∷ put 0xE000 0x80 ∷ []) refl u,
  ),
)

-- In which order the flag and the type come does not matter: D by 6000 = 01 and E000 = 80 is settled at once, and 4800 = 00 leaves it.
pub either_order : (l : Loaded) → l.submapper < 2 ^ 8 → D l
    → (type_of (after (calls (put 0x6000 0x01 ∷ put 0xE000 0x80 ∷ [])) (loaded l)) ≡ Namco340)
    × (type_of (after (calls (put 0x6000 0x01 ∷ put 0xE000 0x80 ∷ put 0x4800 0x00 ∷ [])) (loaded l)) ≡ Namco340)
unfolding write_chip write_e000 detect_e000 high_bits_e000 write_sound_data write_work_ram maybe_set_board may_change chip_at_load board_at_load
    detecting_at_load
either_order l sub d = (
  of-d type l sub (put 0x6000 0x01 ∷ put 0xE000 0x80 ∷ []) refl d,
  of-d type l sub (put 0x6000 0x01 ∷ put 0xE000 0x80 ∷ put 0x4800 0x00 ∷ []) refl d,
)
