-- L1, L8, L11, C1: a call leaves the entries those of the registers: it maps them anew, or changes no register that they depend on.
-- Assumes nothing.
use Prim.Native.Nat.{ℕ, ◌%◌, ◌≤◌, ◌<◌}
use mathlib.Core.Path.{◌≡◌, refl, sym, ap, ◌∙◌}
use mathlib.Core.Bool.{Bool, true, false, cond, ◌||◌}
use native.Mathlib.Omega.{arith}
use borrow.Author.Tests.{lt-ltb, le-leb}
use lib.Dec.{ltb}
use lib.Ieee.{Float}
use lib.ListN.{get_or}
use Rattle.cut.specs.Machine.{Clocked}
use Rattle.limits.proofs.Each.{cond-holds}
use Rattle.memory.specs.declared.Memory.{Memory}
use Rattle.memory.specs.declared.layout.MemoryLayout.{MemoryLayout}
use Rattle.memory.specs.declared.layout.Src.TheVariants.{CiRam}
use Rattle.memory.specs.declared.mirroring.Mirroring.{Mirroring}
use Rattle.memory.specs.Memory.{region_in}
use Rattle.memory.specs.Range.{MemoryTyped}
use Rattle.memory_map.specs.Mirroring.{ciram_banks, nametable_page}
use Rattle.sound.specs.declared.audio.Audio.{Audio}
use Rattle.sound.specs.Registers.{read_of, written}
use Rattle.sound_clock.specs.Clock.{sound_clock}
use Rattle.board_chip.specs.declared.namco163.Board.{Board}
use Rattle.board_chip.specs.declared.namco163.Board.TheVariants.{Unknown, Namco163 as Is163, Namco175, Namco340}
use Rattle.board_chip.specs.declared.namco163.Namco163.{Namco163}
use Rattle.board_chip.specs.declared.namco163.Regs.{Regs}
use Rattle.board_chip.specs.Detection.{prg_ram_readable, prg_ram_writable}
use Rattle.board_chip.specs.Namco163.{is163, is175, is340, with_regs, with_audio, with_written, with_protect}
use Rattle.board_chip.specs.Clock.{clock_counter}
use Rattle.board_chip.specs.Load.{chip_at_load}
use Rattle.board_chip.specs.Reads.{after_read}
use Rattle.board_chr.specs.Slots.{write_slot, write_nametable}
use Rattle.board_prg.specs.Banks.{write_bank, high_bits_e000, write_e800}
use Rattle.board_registers.specs.Writes.{low_half, high_half, write_chip, remaps}
use Rattle.board_protection.specs.Protection.{remap_banks, remaps_in}
use Rattle.board_protection.proofs.Laws.{more-writes}
use Rattle.board_state.specs.declared.Options.{Options}
use Rattle.board_state.specs.declared.State.{State}
use Rattle.call_cpu.specs.Calls.{write_register}
use Rattle.call_run.specs.Clock.{chip_clock}
use Rattle.call_load.specs.Cartridge.{chosen, memory_at_load, fresh_state}
use Rattle.thm_range.proofs.Calls.{memory-load}
use Rattle.thm_wiki.specs.Shown.{ram_entry, ram_writable, Mapped}
use Rattle.thm_wiki.proofs.Tests.{never}
use Rattle.thm_wiki.proofs.Ranges.{Firm, by-firm}
use Rattle.thm_wiki.proofs.Shown.Tables.{remap-maps}

-- ---- what the entries depend on: L13, L20

pub record Same (protects : Bool) (n o : Namco163) : Type 0 where
  pub board : o.board ≡ n.board
  pub flags : o.nt_bank_enable ≡ n.nt_bank_enable
  pub chr : o.chr_banks ≡ n.chr_banks
  pub prg : o.prg_banks ≡ n.prg_banks
  pub mirroring : o.mirroring ≡ n.mirroring
  pub ram : (i : ℕ)
      → ram_writable protects o.board o.regs.prg_ram_protect i ≡ ram_writable protects n.board n.regs.prg_ram_protect i

pub mapped-same : (protects : Bool) (n o : Namco163) (m : Memory) → Same protects n o → Mapped protects n m → Mapped protects o m
mapped-same protects n o m s q =
    record {
      chr = λ k h. rw (s.flags, s.chr) (q.chr k (rw s.board at h));
      again = λ e k h. rw (s.flags, s.chr) (q.again (rw s.board at e) k h);
      mirrored = λ e i h.
          q.mirrored (rw s.board at e) i h
          ∙ ap (λ (k : Mirroring). nametable_page (region_in m CiRam) (get_or (ciram_banks k) (i % 4) 0)) (sym s.mirroring);
      prg = rw s.prg q.prg;
      last = q.last;
      ram = λ i h.
          q.ram i h
          ∙ (ap (λ (t : Bool). ram_entry m t (ram_writable protects n.board n.regs.prg_ram_protect i) i)
          (sym (ap prg_ram_readable s.board))
          ∙ ap (λ (t : Bool). ram_entry m (prg_ram_readable o.board) t i) (sym (s.ram i)));
    }

-- L6: what a step leaves of the board
abbrev pub SameBoard : Namco163 → Namco163 → Type 0
SameBoard n o = (o.board ≡ n.board) × (o.auto_detect_board ≡ n.auto_detect_board)

-- the sound, the flag of L10 and the registers other than the protect byte count for nothing
apart : (protects : Bool) (n : Namco163) (r : Regs) (x : Audio) (w : Bool)
    → ((i : ℕ)
    → ram_writable protects n.board r.prg_ram_protect i ≡ ram_writable protects n.board n.regs.prg_ram_protect i)
    → Same protects n (with_regs (with_audio (with_written n w) x) r)
apart protects n r x w e = record { board = refl; flags = refl; chr = refl; prg = refl; mirroring = refl; ram = e }

-- ---- a write: L11, L21

-- what a write at a makes of the board n
record Stepped (protects : Bool) (a : ℕ) (n o : Namco163) : Type 0 where
  board : SameBoard n o
  quiet : remaps_in protects n.board o.board a ≡ false → Same protects n o

-- at 8000..F7FF the tables are made anew
anew : (old new : Board) (a : ℕ) → 0x8000 ≤ a → a < 0xF800 → remaps old new a ≡ true
unfolding remaps
anew old new a l h = rw (le-leb 0x8000 a l, lt-ltb a 0xF800 h)

moves : (protects : Bool) (a : ℕ) (n o : Namco163) → 0x8000 ≤ a → a < 0xF800 → SameBoard n o → Stepped protects a n o
moves protects a n o l h b =
    record {
      board = b;
      quiet = λ q. never (sym (more-writes protects n.board o.board a (anew n.board o.board a l h)) ∙ q);
    }

-- elsewhere no register changes that the entries depend on
stays : (protects : Bool) (a : ℕ) (n : Namco163) (r : Regs) (x : Audio) (w : Bool)
    → ((i : ℕ)
    → ram_writable protects n.board r.prg_ram_protect i ≡ ram_writable protects n.board n.regs.prg_ram_protect i)
    → Stepped protects a n (with_regs (with_audio (with_written n w) x) r)
stays protects a n r x w e = record { board = (refl, refl); quiet = λ q. apart protects n r x w e }

-- a 163's work RAM takes stores whatever the protect byte is, where F800 does not protect
writable-163 : (b : Board) (x y : ℕ) → is163 b ≡ true → prg_ram_writable b x ≡ prg_ram_writable b y
writable-163 Unknown x y e = refl
writable-163 Is163 x y e = refl
writable-163 Namco175 x y e = never (sym e)
writable-163 Namco340 x y e = refl

-- and where it does, a write to F800..FFFF makes the tables anew
port-anew : (old new : Board) (a : ℕ) → 0xF800 ≤ a → is163 new ≡ true → remaps_in true old new a ≡ true
unfolding remaps_in
port-anew old new a l e = rw (le-leb 0xF800 a l, e) (go (remaps old new a))
  where
    go : (t : Bool) → t || true ≡ true
    go true = refl
    go false = refl

slot-board : (n : Namco163) (a v : ℕ) → SameBoard n (write_slot n a v)
unfolding write_slot
slot-board n a v = (refl, refl)

nametable-board : (n : Namco163) (a v : ℕ) → SameBoard n (write_nametable n a v)
unfolding write_nametable
nametable-board n a v =
    cond-holds (SameBoard n) (is175 n.board) _ _ (refl, refl)
    (cond-holds (SameBoard n) (is163 n.board) _ _ (slot-board n a v) (refl, refl))

e000-board : (n : Namco163) (a v : ℕ) → SameBoard n (high_bits_e000 (write_bank n 0 v) a v)
unfolding high_bits_e000
e000-board n a v =
    cond-holds (SameBoard n) (is340 n.board) _ _ (refl, refl) (cond-holds (SameBoard n) (is163 n.board) _ _ (refl, refl) (refl, refl))

e800-board : (n : Namco163) (v : ℕ) → SameBoard n (write_e800 n v)
unfolding write_e800
e800-board n v = cond-holds (SameBoard n) (is163 n.board) _ _ (refl, refl) (refl, refl)

-- F800..FFFF: the protect byte is written on a 163 alone
port-steps : (protects : Bool) (n : Namco163) (a v : ℕ) (t : Bool) → 0xF800 ≤ a → is163 n.board ≡ t
    → Stepped protects a n (cond t (with_audio (with_regs n (with_protect n.regs v)) (written n.audio a v)) n)
port-steps true n a v true l e =
    record { board = (refl, refl); quiet = λ q. never (sym (port-anew n.board n.board a l e) ∙ q) }
port-steps false n a v true l e =
    stays false a n (with_protect n.regs v) (written n.audio a v) n.prg_ram_written_to
    (λ i. writable-163 n.board v n.regs.prg_ram_protect e)
port-steps protects n a v false l e = stays protects a n n.regs n.audio n.prg_ram_written_to (λ i. refl)

write-steps : (protects : Bool) (n : Namco163) (a v : ℕ) → Firm n a v → Stepped protects a n (write_chip n a v)
write-steps protects n a v s =
    let w = n.prg_ram_written_to in
    by-firm (Stepped protects a n) n a v s
    (record {
      below = λ h. stays protects a n n.regs n.audio w (λ i. refl);
      sound = λ l h. stays protects a n n.regs (written n.audio a v) w (λ i. refl);
      low = λ l h. stays protects a n (low_half n.regs v) n.audio w (λ i. refl);
      high = λ l h. stays protects a n (high_half n.regs v) n.audio w (λ i. refl);
      ram = λ l h. stays protects a n n.regs n.audio true (λ i. refl);
      chr = λ l h. moves protects a n _ l (omega arith) (slot-board n a v);
      nametable = λ l h. moves protects a n _ (omega arith) (omega arith) (nametable-board n a v);
      e000 = λ l h. moves protects a n _ (omega arith) (omega arith) (e000-board n a v);
      e800 = λ l h. moves protects a n _ (omega arith) (omega arith) (e800-board n v);
      f000 = λ l h. moves protects a n _ (omega arith) h (refl, refl);
      port = λ l. port-steps protects n a v (is163 n.board) l refl;
    })

pub firm-board : (n : Namco163) (a v : ℕ) → Firm n a v → SameBoard n (write_chip n a v)
firm-board n a v s = (write-steps false n a v s).board

pub write-mapped : (s : State) (a v : ℕ) → Firm s.chip a v → MemoryTyped s.memory
    → let protects = s.f800_protects in Mapped protects s.chip s.memory
    → Mapped protects (write_register s a v).chip (write_register s a v).memory
unfolding write_register
write-mapped s a v f t q =
    go (remaps_in s.f800_protects s.chip.board (write_chip s.chip a v).board a)
    (write-steps s.f800_protects s.chip a v f).quiet
  where
    go : (x : Bool) → (x ≡ false → Same s.f800_protects s.chip (write_chip s.chip a v))
        → let protects = s.f800_protects in let n = write_chip s.chip a v in
        Mapped protects n (cond x (remap_banks protects n s.memory) s.memory)
    go true same = remap-maps s.f800_protects (write_chip s.chip a v) s.memory t
    go false same = mapped-same s.f800_protects s.chip (write_chip s.chip a v) s.memory (same refl) q

-- ---- a read: L8; a clock: C1, C2; the load: L1

pub audio-mapped : (protects : Bool) (n : Namco163) (x : Audio) (m : Memory) → Mapped protects n m → Mapped protects (with_audio n x) m
audio-mapped protects n x m =
    mapped-same protects n (with_audio n x) m (apart protects n n.regs x n.prg_ram_written_to (λ i. refl))

pub read-holds : (P : Namco163 → Type 0) (n : Namco163) (a : ℕ) → ((x : Audio) → P (with_audio n x)) → P (after_read n a)
unfolding after_read
read-holds P n a p =
    let still = p n.audio in
    cond-holds P (ltb a 0x4800) _ _ still (cond-holds P (ltb a 0x5000) _ _ (p (read_of n.audio a).audio) still)

pub read_mapped : (protects : Bool) (n : Namco163) (a : ℕ) (m : Memory) → Mapped protects n m → Mapped protects (after_read n a) m
read_mapped protects n a m q = read-holds (λ (o : Namco163). Mapped protects o m) n a (λ x. audio-mapped protects n x m q)

pub read-board : (n : Namco163) (a : ℕ) → SameBoard n (after_read n a)
read-board n a = read-holds (SameBoard n) n a (λ x. (refl, refl))

pub clock-holds : (P : Namco163 → Type 0) (n : Namco163) → ((x : Audio) → P (with_audio (with_regs n (clock_counter n.regs)) x))
    → P (chip_clock n).state
unfolding chip_clock
clock-holds P n p =
    cond-holds (λ (c : Clocked Namco163 Float). P c.state) (is163 n.board) _ _ (p (sound_clock n.audio)) (p n.audio)

pub clock-mapped : (protects : Bool) (n : Namco163) (m : Memory) → Mapped protects n m → Mapped protects (chip_clock n).state m
unfolding clock_counter
clock-mapped protects n m q =
    clock-holds (λ (o : Namco163). Mapped protects o m) n
    (λ x. mapped-same protects n _ m (apart protects n (clock_counter n.regs) x n.prg_ram_written_to (λ i. refl)) q)

pub clock-board : (n : Namco163) → SameBoard n (chip_clock n).state
clock-board n = clock-holds (SameBoard n) n (λ x. (refl, refl))

pub load-mapped : (mapper sub flags : ℕ) (known : Bool) (sizes : MemoryLayout) (options : Options)
    → let s = fresh_state mapper sub flags known sizes options in Mapped s.f800_protects s.chip s.memory
unfolding fresh_state
load-mapped mapper sub flags known sizes options =
    remap-maps options.f800_protects (chosen (chip_at_load mapper sub flags known) options) (memory_at_load mapper sizes)
    (memory-load mapper sizes)
