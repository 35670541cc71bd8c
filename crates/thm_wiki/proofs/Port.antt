-- The sound port is the wiki's: its reads, its writes and its address (W15), the bit that turns the sound off (W11), and what a CPU read of
-- it answers (L8). Assumes nothing.
use Prim.Native.Nat.{ℕ, ◌+◌, ◌/◌, ◌%◌, ◌≤◌, ◌<◌}
use mathlib.Core.Path.{◌≡◌, refl, ap}
use mathlib.Core.Bool.{Bool, true, false, cond}
use mathlib.Core.List.{List}
use mathlib.Core.Logic.{⊎_elim}
use native.Mathlib.Nat.{eq-or-lt_of_le}
use native.Mathlib.Omega.{arith}
use borrow.Author.Tests.{eq-eqb, ne_eqb, lt-ltb, le-ltb, le-leb, lt-leb}
use lib.ListN.{get_or, set}
use Rattle.sound.specs.declared.audio.Audio.{Audio}
use Rattle.sound.specs.Audio.{with_ram as audio_ram, with_addr, with_disabled}
use Rattle.sound.specs.Registers.{peeked, advanced, read_of, written}
use Rattle.sound.proofs.registers.Laws.{inside, past}
use Rattle.memory_bytes.specs.Bytes.{prg_peek}
use Rattle.board_chip.specs.declared.namco163.Namco163.{Namco163}
use Rattle.std.specs.Prelude.{Some}
use Rattle.board_chip.specs.Reads.{served, byte_or}
use Rattle.board_state.specs.declared.State.{State}
use Rattle.call_cpu.specs.Calls.{cpu_byte}
use Rattle.thm_wiki.specs.Registers.{wiki_bit}
use Rattle.thm_wiki.specs.Sound.{WikiSound}
use Rattle.thm_wiki.specs.Port.{wiki_address, wiki_auto, wiki_advance, with_ram, with_port, with_silent, wiki_moved, sound_write}
use Rattle.thm_wiki.proofs.Tests.{le-or-lt}

-- ---- the board's port: W11, W15

-- an access moves the address as the wiki's does
pub advance-agrees : (a : Audio) → a.addr < 128 → (advanced a).addr ≡ wiki_advance a.auto_increment a.addr
unfolding advanced
advance-agrees a h = go a.auto_increment
  where
    go : (b : Bool) → (cond b (with_addr a ((a.addr + 1) % 128) a.auto_increment) a).addr ≡ wiki_advance b a.addr
    go true =
        ⊎_elim
        (λ (e : a.addr ≡ 0x7F). rw e)
        (λ (l : a.addr < 0x7F). rw (ne_eqb a.addr 0x7F (λ e. omega arith)) (omega arith))
        (eq-or-lt_of_le {n = a.addr} {m = 0x7F} (omega arith))
    go false = refl

-- 4800..4FFF reads the byte at the address, and writes it before the address moves
pub read-agrees : (a : Audio) (addr : ℕ) → 0x4800 ≤ addr → addr ≤ 0x4FFF → read_of a addr
    ≡ record { byte = get_or a.ram a.addr 0; audio = advanced a }
unfolding read_of peeked
read-agrees a addr l h = rw (inside 0x4800 0x4FFF addr l h)

pub write-agrees : (a : Audio) (addr val : ℕ) → 0x4800 ≤ addr → addr ≤ 0x4FFF
    → written a addr val ≡ advanced (audio_ram a (set a.ram a.addr val))
unfolding written
write-agrees a addr val l h = rw (inside 0x4800 0x4FFF addr l h)

-- E000..E7FF turns the sound off by bit 6
pub silent-agrees : (a : Audio) (at v : ℕ) → 0xE000 ≤ at → at < 0xE800 → written a at v ≡ with_disabled a (wiki_bit 6 v)
unfolding written
silent-agrees a at v l h = rw (past 0x4800 0x4FFF at (omega arith) (omega arith), inside 0xE000 0xE7FF at l (omega arith))

-- F800..FFFF sets the address and the auto-increment
pub port-agrees : (a : Audio) (addr val : ℕ) → 0xF800 ≤ addr → addr ≤ 0xFFFF → val < 256
    → written a addr val ≡ with_addr a (wiki_address val) (wiki_auto val)
unfolding written
port-agrees a addr val l h v =
    rw (
      past 0x4800 0x4FFF addr (omega arith) (omega arith),
      past 0xE000 0xE7FF addr (omega arith) (omega arith),
      inside 0xF800 0xFFFF addr l h,
    )
    (⊎_elim
    (λ (b : 128 ≤ val). rw (eq-eqb (val / 128) 1 (omega arith), le-leb 128 val b))
    (λ (b : val < 128). rw (ne_eqb (val / 128) 1 (λ e. omega arith), lt-leb 128 val b))
    (le-or-lt 128 val))

-- and what is past the CPU's addresses does nothing
pub written-else : (a : Audio) (at v : ℕ) → 0xFFFF < at → written a at v ≡ a
unfolding written
written-else a at v h =
    rw (
      past 0x4800 0x4FFF at (omega arith) (omega arith),
      past 0xE000 0xE7FF at (omega arith) (omega arith),
      past 0xF800 0xFFFF at (omega arith) h,
    )

-- what a CPU read of the data port answers
port-served : (n : Namco163) (a : ℕ) → 0x4800 ≤ a → a < 0x5000 → served n a ≡ Some (get_or n.audio.ram n.audio.addr 0)
unfolding served peeked
port-served n a l h = rw (le-ltb a 0x4800 l, lt-ltb a 0x5000 h, inside 0x4800 0x4FFF a l (omega arith))

pub port-byte : (s : State) (arena : List ℕ) (a : ℕ) → 0x4800 ≤ a → a < 0x5000
    → cpu_byte s arena a ≡ get_or s.chip.audio.ram s.chip.audio.addr 0
port-byte s arena a l h = ap (byte_or (prg_peek arena s.memory a)) (port-served s.chip a l h)

-- ---- the wiki's write, by the range of its address

pub sound-below : (w : WikiSound) (a v : ℕ) → a < 0x4800 → sound_write w a v ≡ w
unfolding sound_write
sound-below w a v h = rw (lt-ltb a 0x4800 h)

pub sound-data : (w : WikiSound) (a v : ℕ) → 0x4800 ≤ a → a < 0x5000
    → sound_write w a v ≡ wiki_moved (with_ram w (set w.ram w.addr v))
unfolding sound_write
sound-data w a v l h = rw (le-ltb a 0x4800 l, lt-ltb a 0x5000 h)

pub sound-between : (w : WikiSound) (a v : ℕ) → 0x5000 ≤ a → a < 0xE000 → sound_write w a v ≡ w
unfolding sound_write
sound-between w a v l h = rw (le-ltb a 0x4800 (omega arith), le-ltb a 0x5000 l, lt-ltb a 0xE000 h)

pub sound-silent : (w : WikiSound) (a v : ℕ) → 0xE000 ≤ a → a < 0xE800 → sound_write w a v ≡ with_silent w (wiki_bit 6 v)
unfolding sound_write
sound-silent w a v l h = rw (le-ltb a 0x4800 (omega arith), le-ltb a 0x5000 (omega arith), le-ltb a 0xE000 l, lt-ltb a 0xE800 h)

pub sound-pages : (w : WikiSound) (a v : ℕ) → 0xE800 ≤ a → a < 0xF800 → sound_write w a v ≡ w
unfolding sound_write
sound-pages w a v l h =
    rw (le-ltb a 0x4800 (omega arith), le-ltb a 0x5000 (omega arith), le-ltb a 0xE000 (omega arith), le-ltb a 0xE800 l, lt-ltb a 0xF800 h)

pub sound-port : (w : WikiSound) (a v : ℕ) → 0xF800 ≤ a → a < 0x10000 → sound_write w a v ≡ with_port w (wiki_address v) (wiki_auto v)
unfolding sound_write
sound-port w a v l h =
    rw (
      le-ltb a 0x4800 (omega arith),
      le-ltb a 0x5000 (omega arith),
      le-ltb a 0xE000 (omega arith),
      le-ltb a 0xE800 (omega arith),
      le-ltb a 0xF800 l,
      lt-ltb a 0x10000 h,
    )

pub sound-past : (w : WikiSound) (a v : ℕ) → 0x10000 ≤ a → sound_write w a v ≡ w
unfolding sound_write
sound-past w a v l =
    rw (
      le-ltb a 0x4800 (omega arith),
      le-ltb a 0x5000 (omega arith),
      le-ltb a 0xE000 (omega arith),
      le-ltb a 0xE800 (omega arith),
      le-ltb a 0xF800 (omega arith),
      le-ltb a 0x10000 l,
    )
