-- A 163 beside the wiki's machine: what every step keeps, registers, counter and sound at once. Assumes nothing.
use Prim.Native.Nat.{ℕ, ◌-◌, ◌/◌, ◌%◌, ◌^◌, ◌≤◌, ◌<◌}
use mathlib.Core.Path.{◌≡◌, refl, sym, ap, ◌∙◌}
use mathlib.Core.Bool.{Bool, true, false, cond, not, ◌||◌}
use mathlib.Core.List.{List}
use mathlib.Core.Logic.{⊎_elim}
use native.Mathlib.Omega.{arith}
use lib.Dec.{ltb}
use lib.Ieee.{Float}
use lib.ListN.{length, get_or, set}
use lib.Seq.{get_or-set_same, get_or-set_other}
use Rattle.sound.specs.declared.audio.Audio.{Audio}
use Rattle.sound.specs.Audio.{with_ram as with_sound_ram}
use Rattle.sound.specs.Registers.{advanced, read_of, written}
use Rattle.board_chip.specs.declared.namco163.Board.TheVariants.{Namco163 as Is163}
use Rattle.board_chip.specs.declared.namco163.Namco163.{Namco163}
use Rattle.board_chip.specs.Namco163.{is163, with_regs, with_audio, with_selects}
use Rattle.board_chip.specs.Clock.{clock_counter}
use Rattle.board_chip.specs.Load.{board_at_load, chip_at_load}
use Rattle.board_state.specs.declared.Options.{Options}
use Rattle.call_load.specs.Cartridge.{chosen}
use Rattle.board_chip.specs.Reads.{after_read}
use Rattle.board_chr.specs.Slots.{write_slot, write_nametable}
use Rattle.board_prg.specs.Banks.{bit6, bit7, write_bank, high_bits_e000, write_e800}
use Rattle.board_registers.specs.Writes.{write_chip}
use Rattle.board_state.specs.State.{ChipTyped, ChipInRange}
use Rattle.cut.specs.Machine.{Clocked}
use Rattle.call_run.specs.Clock.{chip_clock}
use Rattle.thm_wiki.specs.Registers.{wiki_bit, wiki_write}
use Rattle.thm_wiki.specs.Counter.{WikiIrq, wiki_write_low, wiki_write_high, wiki_cycle}
use Rattle.thm_wiki.specs.Sound.{WikiSound}
use Rattle.thm_wiki.specs.Port.{wiki_address, wiki_auto, sound_write, sound_read, with_ram, wiki_moved}
use Rattle.thm_wiki.specs.Machine.{write, read, cycle, restore, step}
use Rattle.thm_wiki.specs.Notes.{Noted, note, next, start, same_phases}
use Rattle.thm_wiki.specs.Shown.{irq_of}
use Rattle.thm_wiki.proofs.Ranges.{taken, Firm, by-firm}
use Rattle.thm_wiki.proofs.Registers.{RegsBeside, regs-fresh, regs-below, regs-window, regs-upper, pages-set, pages-past}
use Rattle.thm_wiki.proofs.Registers.{f800-kept, f800-written}
use Rattle.thm_wiki.proofs.Counter.{cycle-agrees, low-agrees, high-agrees, irq-below, irq-low, irq-high, irq-above}
use Rattle.thm_wiki.proofs.Port.{write-agrees, silent-agrees, port-agrees, written-else, sound-below, sound-data, sound-between}
use Rattle.thm_wiki.proofs.Port.{sound-silent, sound-pages, sound-port, sound-past}
use Rattle.thm_wiki.proofs.Sound.{SoundBeside, sound-fresh, changed-kept, moved-kept, ram-kept, store_kept, port-kept, silent-kept}
use Rattle.thm_wiki.proofs.Sound.{cycle-kept}
use Rattle.thm_wiki.proofs.Tests.{le-or-lt}
use Rattle.thm_wiki.proofs.Notes.{cycle-notes}

pub record Stands (x : Noted) (n : Namco163) : Type 0 where
  pub board : n.board ≡ Is163
  pub regs : RegsBeside x.machine.regs x.notes.selects n.regs.nt_select_lo n.regs.nt_select_hi n.nt_bank_enable
      n.chr_banks n.prg_banks
  -- W12: the protect byte is what F800 was written with last
  pub protect : n.regs.prg_ram_protect ≡ get_or x.machine.regs.upper 3 0
  pub irq : irq_of n.regs ≡ x.machine.irq
  pub sound : SoundBeside x.machine.sound x.notes.phases x.notes.above x.notes.stray n.audio

-- ---- a load of mapper 19

pub stands-fresh : (sub flags : ℕ) (known : Bool) (options : Options) → Stands start (chosen (chip_at_load 19 sub flags known) options)
unfolding chip_at_load board_at_load
stands-fresh sub flags known options =
    record {
      board = refl;
      regs = regs-fresh;
      protect = refl;
      irq = refl;
      sound = sound-fresh options.signed_levels options.plain_sum;
    }

-- ---- a write

-- the registers of a 163 in 8000..FFFF
nametable-is : (n : Namco163) (a v : ℕ) → n.board ≡ Is163 → write_nametable n a v ≡ write_slot n a v
unfolding write_nametable
nametable-is n a v e = rw e

e000-is : (n : Namco163) (a v : ℕ) → n.board ≡ Is163
    → high_bits_e000 (write_bank n 0 v) a v ≡ with_audio (write_bank n 0 v) (written n.audio a v)
unfolding high_bits_e000
e000-is n a v e = rw e

e800-is : (n : Namco163) (v : ℕ) → n.board ≡ Is163 → write_e800 n v ≡ with_regs (write_bank n 1 v) (with_selects n.regs (bit6 v) (bit7 v))
unfolding write_e800
e800-is n v e = rw e

module _ (x : Noted) (n : Namco163) (a v : ℕ) (top : a < 2 ^ 16) (b : v < 256) (t : ChipTyped n) (r : ChipInRange n) (q : Stands x n) where
  abbrev w : WikiSound
  w = x.machine.sound

  -- the sound where a write leaves it
  sound-still : (u : WikiSound) → u ≡ w
      → SoundBeside u (not (same_phases w.ram u.ram) || x.notes.phases) x.notes.above x.notes.stray n.audio
  sound-still u e = rw e (changed-kept w x.notes.phases x.notes.above x.notes.stray n.audio q.sound
      (not (same_phases w.ram w.ram)))

  -- W15: a byte is stored, and the address moves
  sound-stored : 0x4800 ≤ a → a < 0x5000
      → SoundBeside (sound_write w a v) (not (same_phases w.ram (sound_write w a v).ram) || x.notes.phases) x.notes.above
      x.notes.stray (written n.audio a v)
  sound-stored l h =
      rw (sound-data w a v l h, write-agrees n.audio a v l (omega arith))
      (moved-kept (with_ram w (set w.ram w.addr v)) _ x.notes.above x.notes.stray
      (with_sound_ram n.audio (set n.audio.ram n.audio.addr v))
      (store_kept w x.notes.phases x.notes.above x.notes.stray n.audio q.sound v (omega (arith, r.audio.address))
      t.audio.ram_length)
      (omega (arith, r.audio.address)))

  -- W11: the sound is turned on or off
  sound-off : 0xE000 ≤ a → a < 0xE800
      → SoundBeside (sound_write w a v) (not (same_phases w.ram (sound_write w a v).ram) || x.notes.phases) x.notes.above
      x.notes.stray (written n.audio a v)
  sound-off l h =
      rw (sound-silent w a v l h, silent-agrees n.audio a v l h)
      (silent-kept w _ x.notes.above x.notes.stray n.audio
      (changed-kept w x.notes.phases x.notes.above x.notes.stray n.audio q.sound (not (same_phases w.ram w.ram)))
      (wiki_bit 6 v))

  -- W15: the address port
  sound-address : 0xF800 ≤ a
      → SoundBeside (sound_write w a v) (not (same_phases w.ram (sound_write w a v).ram) || x.notes.phases) x.notes.above
      x.notes.stray (written n.audio a v)
  sound-address l =
      ⊎_elim
      (λ (h : 0x10000 ≤ a). rw (written-else n.audio a v (omega arith)) (sound-still (sound_write w a v) (sound-past w a v h)))
      (λ (h : a < 0x10000).
      rw (sound-port w a v l h, port-agrees n.audio a v l (omega arith) b)
      (port-kept w _ x.notes.above x.notes.stray n.audio
      (changed-kept w x.notes.phases x.notes.above x.notes.stray n.audio q.sound (not (same_phases w.ram w.ram)))
      (wiki_address v) (wiki_auto v)))
      (le-or-lt 0x10000 a)

  pub write-stands : Firm n a v → Stands (next x (write a v)) (write_chip n a v)
  unfolding step note write_slot
  write-stands f =
      let m = x.machine in
      let z = x.notes in
      let lo = n.regs.nt_select_lo in
      let hi = n.regs.nt_select_hi in
      let flags = n.nt_bank_enable in
      let chr = n.chr_banks in
      let prg = n.prg_banks in
      let below : (h : a < 0x8000) → RegsBeside (wiki_write m.regs a v) _ lo hi flags chr prg =
      λ h. regs-below m.regs z.selects lo hi flags chr prg a v h q.regs in
      let same : (h : a < 0xF800) → n.regs.prg_ram_protect ≡ get_or (wiki_write m.regs a v).upper 3 0 =
      λ h. q.protect ∙ sym (f800-kept m.regs a v h) in
      by-firm (Stands (next x (write a v))) n a v f
      (record {
        below = λ h.
            record {
              board = q.board;
              regs = below (omega arith);
              protect = same (omega arith);
              irq = q.irq ∙ sym (irq-below m.irq a v (omega arith));
              sound = sound-still (sound_write w a v) (sound-below w a v h);
            };
        sound = λ l h.
            record {
              board = q.board;
              regs = below (omega arith);
              protect = same (omega arith);
              irq = q.irq ∙ sym (irq-below m.irq a v h);
              sound = sound-stored l h;
            };
        low = λ l h.
            record {
              board = q.board;
              regs = below (omega arith);
              protect = same (omega arith);
              irq =
                  low-agrees n.regs v t.counter b ∙ ap (λ (y : WikiIrq). wiki_write_low y v) q.irq
                  ∙ sym (irq-low m.irq a v l h);
              sound = sound-still (sound_write w a v) (sound-between w a v l (omega arith));
            };
        high = λ l h.
            record {
              board = q.board;
              regs = below (omega arith);
              protect = same (omega arith);
              irq =
                  high-agrees n.regs v t.counter b ∙ ap (λ (y : WikiIrq). wiki_write_high y v) q.irq
                  ∙ sym (irq-high m.irq a v l h);
              sound = sound-still (sound_write w a v) (sound-between w a v (omega arith) (omega arith));
            };
        ram = λ l h.
            record {
              board = q.board;
              regs = below h;
              protect = same (omega arith);
              irq = q.irq ∙ sym (irq-above m.irq a v l);
              sound = sound-still (sound_write w a v) (sound-between w a v (omega arith) (omega arith));
            };
        chr = λ l h. slot l (omega arith);
        nametable = λ l h. rw (nametable-is n a v q.board) (slot (omega arith) h);
        e000 = λ l h.
            rw (e000-is n a v q.board)
            (record {
              board = q.board;
              regs =
                  regs-upper m.regs z.selects lo hi lo hi flags chr prg (set prg 0 (v % 64)) a v 0 l (omega arith)
                  (q.regs.low ∙ ap (wiki_bit 6) (sym (get_or-set_other m.regs.upper 0 1 v 0 (λ e. omega arith))))
                  (q.regs.high ∙ ap (wiki_bit 7) (sym (get_or-set_other m.regs.upper 0 1 v 0 (λ e. omega arith))))
                  (pages-set prg m.regs.upper 0 v t.prg q.regs.upper (omega arith) q.regs.pages) q.regs;
              protect = same (omega arith);
              irq = q.irq ∙ sym (irq-above m.irq a v (omega arith));
              sound = sound-off l h;
            });
        e800 = λ l h.
            rw (e800-is n v q.board)
            (record {
              board = q.board;
              regs =
                  regs-upper m.regs z.selects lo hi (bit6 v) (bit7 v) flags chr prg (set prg 1 (v % 64)) a v 1
                  (omega arith) (omega arith)
                  (ap (wiki_bit 6) (sym (get_or-set_same m.regs.upper 1 v 0 (omega (arith, q.regs.upper)))))
                  (ap (wiki_bit 7) (sym (get_or-set_same m.regs.upper 1 v 0 (omega (arith, q.regs.upper)))))
                  (pages-set prg m.regs.upper 1 v t.prg q.regs.upper (omega arith) q.regs.pages) q.regs;
              protect = same (omega arith);
              irq = q.irq ∙ sym (irq-above m.irq a v (omega arith));
              sound = sound-still (sound_write w a v) (sound-pages w a v l (omega arith));
            });
        f000 = λ l h.
            record {
              board = q.board;
              regs =
                  regs-upper m.regs z.selects lo hi lo hi flags chr prg (set prg 2 (v % 64)) a v 2 (omega arith) (omega arith)
                  (q.regs.low ∙ ap (wiki_bit 6) (sym (get_or-set_other m.regs.upper 2 1 v 0 (λ e. omega arith))))
                  (q.regs.high ∙ ap (wiki_bit 7) (sym (get_or-set_other m.regs.upper 2 1 v 0 (λ e. omega arith))))
                  (pages-set prg m.regs.upper 2 v t.prg q.regs.upper (omega arith) q.regs.pages) q.regs;
              protect = same (omega arith);
              irq = q.irq ∙ sym (irq-above m.irq a v (omega arith));
              sound = sound-still (sound_write w a v) (sound-pages w a v (omega arith) h);
            };
        port = λ l.
            taken (Stands (next x (write a v))) (is163 n.board) _ _ (ap is163 q.board)
            (record {
              board = q.board;
              regs =
                  let i = (a - 0xE000) / 0x800 in
                  regs-upper m.regs z.selects lo hi lo hi flags chr prg prg a v i (omega arith) refl
                  (q.regs.low ∙ ap (wiki_bit 6) (sym (get_or-set_other m.regs.upper i 1 v 0 (λ e. omega arith))))
                  (q.regs.high ∙ ap (wiki_bit 7) (sym (get_or-set_other m.regs.upper i 1 v 0 (λ e. omega arith))))
                  (pages-past prg m.regs.upper i v (omega arith) q.regs.pages) q.regs;
              protect = sym (f800-written m.regs a v l top q.regs.upper);
              irq = q.irq ∙ sym (irq-above m.irq a v (omega arith));
              sound = sound-address l;
            });
      })
    where
      slot : 0x8000 ≤ a → a < 0xE000 → Stands (next x (write a v)) (write_slot n a v)
      slot l h =
          record {
            board = q.board;
            regs = regs-window x.machine.regs x.notes.selects n a v q.board l h q.regs t.flags t.chr;
            protect = q.protect ∙ sym (f800-kept x.machine.regs a v (omega arith));
            irq = q.irq ∙ sym (irq-above x.machine.irq a v (omega arith));
            sound = sound-still (sound_write w a v) (sound-between w a v (omega arith) h);
          }

-- ---- a read, a cycle, a battery restore

reads : (a : Audio) (at : ℕ) → (read_of a at).audio ≡ advanced a
unfolding read_of
reads a at = refl

pub read-stands : (x : Noted) (n : Namco163) (a : ℕ) → ChipInRange n → Stands x n → Stands (next x (read a)) (after_read n a)
unfolding step note after_read sound_read
read-stands x n a r q = go (ltb a 0x4800) (ltb a 0x5000)
  where
    go : (y z : Bool)
        → Stands
        (record {
          machine =
              record {
                regs = x.machine.regs;
                irq = x.machine.irq;
                sound = cond y x.machine.sound (cond z (wiki_moved x.machine.sound) x.machine.sound);
              };
          notes = x.notes;
        })
        (cond y n (cond z (with_audio n (read_of n.audio a).audio) n))
    go true z = q
    go false true =
        record {
          board = q.board;
          regs = q.regs;
          protect = q.protect;
          irq = q.irq;
          sound =
              rw (reads n.audio a)
              (moved-kept x.machine.sound x.notes.phases x.notes.above x.notes.stray n.audio q.sound
              (omega (arith, r.audio.address)));
        }
    go false false = q

pub cycle-stands : (x : Noted) (n : Namco163) → ChipTyped n → ChipInRange n → Stands x n → Stands (next x cycle) (chip_clock n).state
unfolding step chip_clock clock_counter
cycle-stands x n t r q =
    taken (λ (c : Clocked Namco163 Float). Stands (next x cycle) c.state) (is163 n.board) _ _ (ap is163 q.board)
    (record {
      board = q.board;
      regs = rw (cycle-notes x.machine x.notes).selects q.regs;
      protect = q.protect;
      irq = cycle-agrees n.regs t.counter ∙ ap wiki_cycle q.irq;
      sound = cycle-kept x.machine x.notes n.audio t.audio r.audio q.sound;
    })

pub restore-stands : (x : Noted) (n : Namco163) (bytes : List ℕ) → length bytes ≡ 128 → Stands x n
    → Stands (next x (restore bytes)) (with_audio n (with_sound_ram n.audio bytes))
unfolding step note
restore-stands x n bytes l q =
    record {
      board = q.board;
      regs = q.regs;
      protect = q.protect;
      irq = q.irq;
      sound =
          ram-kept x.machine.sound x.notes.phases x.notes.above x.notes.stray n.audio q.sound bytes bytes l
          (λ j f. refl);
    }
