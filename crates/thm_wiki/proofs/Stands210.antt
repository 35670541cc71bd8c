-- A 175 or a 340 that does not detect beside the wiki's machine: what every step keeps. Assumes nothing.
use Prim.Native.Nat.{ℕ, ◌-◌, ◌*◌, ◌/◌, ◌%◌, ◌≤◌, ◌<◌}
use mathlib.Core.Path.{◌≡◌, refl, sym, ap, ◌∙◌}
use mathlib.Core.Bool.{Bool, true, false, cond, ◌&&◌, ◌||◌}
use mathlib.Core.Logic.{◌⊎◌, inl, inr}
use native.Mathlib.Decide.{ℕ_discrete}
use native.Mathlib.Nat.{div-one}
use native.Mathlib.Omega.{arith}
use borrow.Author.Tests.{lt-ltb, le-ltb, le-leb, lt-leb, ltb-true, ltb-false, leb-false}
use lib.Dec.{leb, ltb}
use lib.ListN.{length, length-set, get_or, get_or-replicate, replicate, set}
use lib.Seq.{get_or-set_same, get_or-set_other}
use Rattle.memory.specs.declared.mirroring.Mirroring.{Mirroring}
use Rattle.sound.specs.declared.audio.Audio.{Audio}
use Rattle.sound.specs.Audio.{with_ram as with_sound_ram}
use Rattle.sound.specs.Registers.{advanced, read_of, written}
use Rattle.board_chip.specs.declared.namco163.Board.{Board}
use Rattle.board_chip.specs.declared.namco163.Board.TheVariants.{Namco175, Namco340}
use Rattle.board_chip.specs.declared.namco163.Namco163.{Namco163}
use Rattle.board_chip.specs.Namco163.{is163, is175, is340, with_regs, with_audio, with_mirroring, with_protect}
use Rattle.board_chip.specs.Detection.{prg_ram_writable}
use Rattle.board_chip.specs.Clock.{clock_counter}
use Rattle.board_chip.specs.Load.{board_at_load, detecting_at_load, mirroring_at_load, chip_at_load}
use Rattle.board_state.specs.declared.Options.{Options}
use Rattle.call_load.specs.Cartridge.{chosen}
use Rattle.board_chip.specs.Reads.{after_read}
use Rattle.board_chr.specs.Slots.{sets_ciram, write_slot, write_nametable}
use Rattle.board_prg.specs.Banks.{mirroring_e000, write_bank, high_bits_e000, write_e800}
use Rattle.board_registers.specs.Writes.{write_chip}
use Rattle.board_state.specs.State.{ChipTyped}
use Rattle.call_run.specs.Clock.{chip_clock}
use Rattle.thm_wiki.specs.Registers.{WikiRegs, no_regs, chr_page, wiki_bit, wiki_write, wiki_shows210, wiki_prg_page, wiki_mirroring}
use Rattle.thm_wiki.specs.Counter.{WikiIrq, wiki_write_low, wiki_write_high, wiki_cycle, irq_write}
use Rattle.thm_wiki.specs.Machine.{write, read, cycle, step}
use Rattle.thm_wiki.specs.Notes.{Noted, inside, note, next, start}
use Rattle.thm_wiki.specs.Shown.{irq_of}
use Rattle.thm_wiki.specs.Agrees.{selected_by}
use Rattle.thm_wiki.proofs.Tests.{same_test, never}
use Rattle.thm_wiki.proofs.Ranges.{firm-settled, by-firm}
use Rattle.thm_wiki.proofs.Registers.{shows, pages-set, pages-past}
use Rattle.thm_wiki.proofs.Counter.{cycle-agrees, low-agrees, high-agrees, irq-below, irq-low, irq-high, irq-above}
use Rattle.thm_wiki.proofs.Port.{write-agrees}
use Rattle.thm_wiki.proofs.Notes.{cycle-notes}

-- W14: a 340's mirroring is by bits 6 and 7 alone
mirroring-bits : (v : ℕ) → v < 256 → mirroring_e000 v ≡ mirroring_e000 (v / 64 * 64)
unfolding mirroring_e000
mirroring-bits v h = rw (same 1, same 2, same 3)
  where
    same : (k : ℕ) → ltb v (64 * k) ≡ ltb (v / 64 * 64) (64 * k)
    same k =
        same_test (ltb v (64 * k)) (ltb (v / 64 * 64) (64 * k))
        (λ p. lt-ltb (v / 64 * 64) (64 * k) (omega (arith, ltb-true v (64 * k) p)))
        (λ p. le-ltb (v / 64 * 64) (64 * k) (omega (arith, ltb-false v (64 * k) p)))

-- what the port keeps, of which no write on these boards moves the address
pub record PortStill (a : Audio) : Type 0 where
  pub addr : a.addr ≡ 0
  pub auto : a.auto_increment ≡ false

still-advanced : (a : Audio) → PortStill a → advanced a ≡ a
unfolding advanced
still-advanced a p = rw p.auto

still-written : (a : Audio) (at v : ℕ) → 0x4800 ≤ at → at < 0x5000 → PortStill a → PortStill (written a at v)
still-written a at v l h p =
    rw (
      write-agrees a at v l (omega arith),
      still-advanced (with_sound_ram a (set a.ram a.addr v)) (record { addr = p.addr; auto = p.auto }),
    )
    (record { addr = p.addr; auto = p.auto })

-- the windows and banks of a new board
fresh-chr : (k : ℕ) → k < 8 → shows (replicate 12 false) (replicate 12 0) k ≡ wiki_shows210 no_regs k
fresh-chr k h = rw (get_or-replicate 12 k false false (omega arith), get_or-replicate {A = ℕ} 12 k 0 0 (omega arith))

fresh-prg : (k : ℕ) → k < 3 → get_or (replicate 3 0) k 0 ≡ wiki_prg_page no_regs k
fresh-prg k h = rw (get_or-replicate {A = ℕ} 3 k 0 0 h, get_or-replicate {A = ℕ} 4 k 0 0 (omega arith))

module _ (b : Board) (m : Mirroring) (other : is163 b ≡ false) where
  pub record Stands210 (x : Noted) (n : Namco163) : Type 0 where
    pub settled : n.auto_detect_board ≡ false
    pub board : n.board ≡ b
    pub chr : (k : ℕ) → k < 8 → shows n.nt_bank_enable n.chr_banks k ≡ wiki_shows210 x.machine.regs k
    pub prg : (k : ℕ) → k < 3 → get_or n.prg_banks k 0 ≡ wiki_prg_page x.machine.regs k
    pub irq : irq_of n.regs ≡ x.machine.irq
    pub port : PortStill n.audio
    pub enabled : b ≡ Namco175 → prg_ram_writable b n.regs.prg_ram_protect ≡ wiki_bit 0 x.notes.enable
    pub gate : x.notes.past ≡ false → x.notes.enable ≡ get_or x.machine.regs.windows 8 0
    pub wired : b ≡ Namco175 → n.mirroring ≡ m
    pub selected : b ≡ Namco340 → n.mirroring ≡ selected_by m x
    pub windows : length x.machine.regs.windows ≡ 12
    pub upper : length x.machine.regs.upper ≡ 4

  -- ---- a write

  module _ (x : Noted) (n : Namco163) (a v : ℕ) (small : v < 256) (t : ChipTyped n) (q : Stands210 x n) where
    -- what the registers of the machine are after it, and what is noted, by the range
    regs-below : a < 0x8000 → wiki_write x.machine.regs a v ≡ x.machine.regs
    unfolding wiki_write
    regs-below h = rw (lt-ltb a 0x8000 h)

    regs-window : 0x8000 ≤ a → a < 0xE000 → wiki_write x.machine.regs a v
        ≡ record { windows = set x.machine.regs.windows ((a - 0x8000) / 0x800) v; upper = x.machine.regs.upper }
    unfolding wiki_write
    regs-window l h = rw (le-ltb a 0x8000 l, lt-ltb a 0xE000 h)

    regs-upper : 0xE000 ≤ a → wiki_write x.machine.regs a v
        ≡ record { windows = x.machine.regs.windows; upper = set x.machine.regs.upper ((a - 0xE000) / 0x800) v }
    unfolding wiki_write
    regs-upper l = rw (le-ltb a 0x8000 (omega arith), le-ltb a 0xE000 l)

    outside : (lo hi : ℕ) → (a < lo) ⊎ (hi ≤ a) → inside lo hi a ≡ false
    outside lo hi (inl h) = rw (lt-leb lo a h)
    outside lo hi (inr h) = rw (le-ltb a hi h) (go (leb lo a))
      where
        go : (y : Bool) → y && false ≡ false
        go true = refl
        go false = refl

    within : (lo hi : ℕ) → lo ≤ a → a < hi → inside lo hi a ≡ true
    within lo hi l h = rw (le-leb lo a l, lt-ltb a hi h)

    -- any write, by what its range makes of the registers
    written_stands : (o : Namco163) (u : WikiRegs) → wiki_write x.machine.regs a v ≡ u → o.auto_detect_board ≡ false → o.board ≡ b
        → ((k : ℕ) → k < 8 → shows o.nt_bank_enable o.chr_banks k ≡ wiki_shows210 u k)
        → ((k : ℕ) → k < 3 → get_or o.prg_banks k 0 ≡ wiki_prg_page u k)
        → irq_of o.regs ≡ irq_write x.machine.irq a v → PortStill o.audio
        → (b ≡ Namco175 → prg_ram_writable b o.regs.prg_ram_protect ≡ wiki_bit 0 (cond (inside 0xC000 0xE000 a) v x.notes.enable))
        → (cond (inside 0xC000 0xE000 a) (leb 0xC800 a) x.notes.past ≡ false
        → cond (inside 0xC000 0xE000 a) v x.notes.enable ≡ get_or u.windows 8 0)
        → (b ≡ Namco175 → o.mirroring ≡ m)
        → (b ≡ Namco340 → o.mirroring ≡ cond (inside 0xE000 0xE800 a || x.notes.mirrored) (mirroring_e000 (wiki_mirroring u * 64)) m)
        → length u.windows ≡ 12 → length u.upper ≡ 4 → Stands210 (next x (write a v)) o
    unfolding step note
    written_stands o u e s y c p r j en ga wi se lw lu =
        rw e
        (record {
          settled = s;
          board = y;
          chr = c;
          prg = p;
          irq = r;
          port = j;
          enabled = en;
          gate = ga;
          wired = wi;
          selected = se;
          windows = lw;
          upper = lu;
        })

    -- a write that leaves windows, mirroring and enable
    quiet : (o : Namco163) (u : WikiRegs) → wiki_write x.machine.regs a v ≡ u → u.windows ≡ x.machine.regs.windows
        → length u.upper ≡ 4 → (a < 0xC000) ⊎ (0xE000 ≤ a) → (a < 0xE000) ⊎ (0xE800 ≤ a)
        → o.auto_detect_board ≡ n.auto_detect_board → o.board ≡ n.board → o.mirroring ≡ n.mirroring
        → o.regs.prg_ram_protect ≡ n.regs.prg_ram_protect
        → o.nt_bank_enable ≡ n.nt_bank_enable → o.chr_banks ≡ n.chr_banks
        → ((k : ℕ) → k < 3 → get_or o.prg_banks k 0 ≡ wiki_prg_page u k)
        → get_or u.upper 0 0 ≡ get_or x.machine.regs.upper 0 0
        → irq_of o.regs ≡ irq_write x.machine.irq a v → PortStill o.audio → Stands210 (next x (write a v)) o
    quiet o u e w l c d s y i g f k p z r j =
        let none = outside 0xC000 0xE000 c in
        written_stands o u e (s ∙ q.settled) (y ∙ q.board) (λ h z. rw (f, k, w) (q.chr h z)) p r j
        (λ t. rw (g, none) (q.enabled t)) (λ t. rw (none, w) (q.gate (rw none at t))) (λ t. i ∙ q.wired t)
        (λ t. rw (i, outside 0xE000 0xE800 d, z) (q.selected t)) (ap length w ∙ q.windows) l

    -- a write below 8000
    low-write : (o : Namco163) → a < 0x8000 → o.auto_detect_board ≡ n.auto_detect_board → o.board ≡ n.board
        → o.mirroring ≡ n.mirroring → o.regs.prg_ram_protect ≡ n.regs.prg_ram_protect
        → o.nt_bank_enable ≡ n.nt_bank_enable → o.chr_banks ≡ n.chr_banks → o.prg_banks ≡ n.prg_banks
        → irq_of o.regs ≡ irq_write x.machine.irq a v → PortStill o.audio → Stands210 (next x (write a v)) o
    low-write o h s y i g f k p r j =
        quiet o x.machine.regs (regs-below h) refl q.upper (inl (omega arith)) (inl (omega arith)) s y i g f k
        (λ m z. rw p (q.prg m z)) refl r j

    -- and one to A000's or C000's page, or to F800 on
    upper-write : (o : Namco163) → 0xE800 ≤ a → o.auto_detect_board ≡ n.auto_detect_board → o.board ≡ n.board
        → o.mirroring ≡ n.mirroring → o.regs ≡ n.regs
        → o.nt_bank_enable ≡ n.nt_bank_enable → o.chr_banks ≡ n.chr_banks
        → ((k : ℕ) → k < 3 → get_or o.prg_banks k 0 ≡ get_or (set x.machine.regs.upper ((a - 0xE000) / 0x800) v) k 0 % 64)
        → o.audio ≡ n.audio → Stands210 (next x (write a v)) o
    upper-write o l s y i g f k p j =
        quiet o _ (regs-upper (omega arith)) refl (length-set x.machine.regs.upper ((a - 0xE000) / 0x800) v ∙ q.upper)
        (inr (omega arith)) (inr l) s y i (rw g) f k p
        (get_or-set_other x.machine.regs.upper ((a - 0xE000) / 0x800) 0 v 0 (λ e. omega arith))
        (rw g (q.irq ∙ sym (irq-above x.machine.irq a v (omega arith)))) (rw j q.port)

    -- W13: no nametable RAM in the windows
    no-ciram : sets_ciram n a v ≡ false
    unfolding sets_ciram
    no-ciram = rw (ap is163 q.board ∙ other) (go (leb 0xE0 v))
      where
        go : (y : Bool) → y && false ≡ false
        go true = refl
        go false = refl

    window-write : 0x8000 ≤ a → a < 0xC000 → Stands210 (next x (write a v)) (write_slot n a v)
    unfolding write_slot
    window-write l h =
        let at = (a - 0x8000) / 0x800 in
        let none = outside 0xC000 0xE000 (inl h) in
        written_stands _ _ (regs-window l (omega arith)) q.settled q.board (λ k z. by k z (ℕ_discrete k at)) q.prg
        (q.irq ∙ sym (irq-above x.machine.irq a v (omega arith))) q.port (λ e. rw none (q.enabled e))
        (λ e. rw none (q.gate (rw none at e) ∙ sym (get_or-set_other x.machine.regs.windows at 8 v 0 (λ z. omega arith)))) q.wired
        (λ e. rw (outside 0xE000 0xE800 (inl (omega arith))) (q.selected e))
        (length-set x.machine.regs.windows at v ∙ q.windows) q.upper
      where
        by : (k : ℕ) → k < 8 → Dec (k ≡ (a - 0x8000) / 0x800)
            → shows (write_slot n a v).nt_bank_enable (write_slot n a v).chr_banks k
            ≡ chr_page (get_or (set x.machine.regs.windows ((a - 0x8000) / 0x800) v) k 0)
        by k z (yes e) =
            rw (
              e,
              get_or-set_same n.nt_bank_enable ((a - 0x8000) / 0x800) (sets_ciram n a v) false (omega (arith, t.flags)),
              get_or-set_same n.chr_banks ((a - 0x8000) / 0x800) (cond (sets_ciram n a v) (v % 2) v) 0 (omega (arith, t.chr)),
              get_or-set_same x.machine.regs.windows ((a - 0x8000) / 0x800) v 0 (omega (arith, q.windows)),
              no-ciram,
            )
        by k z (no ne) =
            rw (
              get_or-set_other n.nt_bank_enable ((a - 0x8000) / 0x800) k (sets_ciram n a v) false ne,
              get_or-set_other n.chr_banks ((a - 0x8000) / 0x800) k (cond (sets_ciram n a v) (v % 2) v) 0 ne,
              get_or-set_other x.machine.regs.windows ((a - 0x8000) / 0x800) k v 0 ne,
            )
            (q.chr k z)

    -- W14: C000..C7FF sets the enable of a 175; C800..DFFF does so too, which is noted
    enable-write : 0xC000 ≤ a → a < 0xE000 → Stands210 (next x (write a v)) (write_nametable n a v)
    unfolding write_nametable
    enable-write l h = rw (ap is163 q.board ∙ other) (go (is175 n.board) refl)
      where
        u : WikiRegs
        u = record { windows = set x.machine.regs.windows ((a - 0x8000) / 0x800) v; upper = x.machine.regs.upper }

        kept : (k : ℕ) → k < 8 → shows n.nt_bank_enable n.chr_banks k
            ≡ chr_page (get_or (set x.machine.regs.windows ((a - 0x8000) / 0x800) v) k 0)
        kept k z =
            q.chr k z
            ∙ ap chr_page (sym (get_or-set_other x.machine.regs.windows ((a - 0x8000) / 0x800) k v 0 (λ e. omega arith)))

        here : inside 0xC000 0xE000 a ≡ true
        here = within 0xC000 0xE000 l h

        enables : b ≡ Namco175 → prg_ram_writable b v ≡ wiki_bit 0 (cond (inside 0xC000 0xE000 a) v x.notes.enable)
        enables e = rw (e, here, div-one v)

        gates : cond (inside 0xC000 0xE000 a) (leb 0xC800 a) x.notes.past ≡ false
            → cond (inside 0xC000 0xE000 a) v x.notes.enable ≡ get_or (set x.machine.regs.windows ((a - 0x8000) / 0x800) v) 8 0
        gates e =
            let g = leb-false 0xC800 a (rw here at e) in
            let i : (a - 0x8000) / 0x800 ≡ 8 = omega arith in
            rw (here, i) (sym (get_or-set_same x.machine.regs.windows 8 v 0 (omega (arith, q.windows))))

        mirror : b ≡ Namco340 → n.mirroring
            ≡ cond (inside 0xE000 0xE800 a || x.notes.mirrored) (mirroring_e000 (get_or x.machine.regs.upper 0 0 / 64 * 64)) m
        mirror e = rw (outside 0xE000 0xE800 (inl h)) (q.selected e)

        go : (y : Bool) → is175 n.board ≡ y → Stands210 (next x (write a v)) (cond y (with_regs n (with_protect n.regs v)) n)
        go true p =
            written_stands _ _ (regs-window (omega arith) h) q.settled q.board kept q.prg
            (q.irq ∙ sym (irq-above x.machine.irq a v (omega arith))) q.port enables gates q.wired mirror
            (length-set x.machine.regs.windows ((a - 0x8000) / 0x800) v ∙ q.windows) q.upper
        go false p =
            written_stands _ _ (regs-window (omega arith) h) q.settled q.board kept q.prg
            (q.irq ∙ sym (irq-above x.machine.irq a v (omega arith))) q.port
            (λ e. never (sym (ap is175 (q.board ∙ e)) ∙ p)) gates q.wired mirror
            (length-set x.machine.regs.windows ((a - 0x8000) / 0x800) v ∙ q.windows) q.upper

    -- W11, W14: the page at 8000, and a 340's mirroring
    e000-write : 0xE000 ≤ a → a < 0xE800 → Stands210 (next x (write a v)) (high_bits_e000 (write_bank n 0 v) a v)
    unfolding high_bits_e000
    e000-write l h = rw (ap is163 q.board ∙ other) (go (is340 n.board) refl)
      where
        zero : (a - 0xE000) / 0x800 ≡ 0
        zero = omega arith

        pages : (k : ℕ) → k < 3
            → get_or (set n.prg_banks 0 (v % 64)) k 0 ≡ get_or (set x.machine.regs.upper ((a - 0xE000) / 0x800) v) k 0 % 64
        pages = rw zero (pages-set n.prg_banks x.machine.regs.upper 0 v t.prg q.upper (omega arith) q.prg)

        none : inside 0xC000 0xE000 a ≡ false
        none = outside 0xC000 0xE000 (inr l)

        enable : b ≡ Namco175
            → prg_ram_writable b n.regs.prg_ram_protect ≡ wiki_bit 0 (cond (inside 0xC000 0xE000 a) v x.notes.enable)
        enable e = rw none (q.enabled e)

        gate : cond (inside 0xC000 0xE000 a) (leb 0xC800 a) x.notes.past ≡ false
            → cond (inside 0xC000 0xE000 a) v x.notes.enable ≡ get_or x.machine.regs.windows 8 0
        gate e = rw none (q.gate (rw none at e))

        go : (y : Bool) → is340 n.board ≡ y
            → Stands210 (next x (write a v)) (cond y (with_mirroring (write_bank n 0 v) (mirroring_e000 v)) (write_bank n 0 v))
        go true p =
            written_stands _ _ (regs-upper l) q.settled q.board q.chr pages
            (q.irq ∙ sym (irq-above x.machine.irq a v (omega arith))) q.port enable gate
            (λ e. never (sym p ∙ ap is340 (q.board ∙ e)))
            (λ e. rw (within 0xE000 0xE800 l h, zero, get_or-set_same x.machine.regs.upper 0 v 0 (omega (arith, q.upper)))
            (mirroring-bits v small))
            q.windows (length-set x.machine.regs.upper ((a - 0xE000) / 0x800) v ∙ q.upper)
        go false p =
            written_stands _ _ (regs-upper l) q.settled q.board q.chr pages
            (q.irq ∙ sym (irq-above x.machine.irq a v (omega arith))) q.port enable gate q.wired
            (λ e. never (sym (ap is340 (q.board ∙ e)) ∙ p))
            q.windows (length-set x.machine.regs.upper ((a - 0xE000) / 0x800) v ∙ q.upper)

    e800-is : write_e800 n v ≡ write_bank n 1 v
    unfolding write_e800
    e800-is = rw (ap is163 q.board ∙ other)

    pub write-stands : Stands210 (next x (write a v)) (write_chip n a v)
    write-stands =
        let above : 0x6000 ≤ a → irq_of n.regs ≡ irq_write x.machine.irq a v = λ l. q.irq ∙ sym (irq-above x.machine.irq a v l) in
        by-firm (Stands210 (next x (write a v))) n a v (firm-settled n a v q.settled)
        (record {
          below = λ h. low-write n (omega arith) refl refl refl refl refl refl refl
              (q.irq ∙ sym (irq-below x.machine.irq a v (omega arith))) q.port;
          sound = λ l h. low-write _ (omega arith) refl refl refl refl refl refl refl
              (q.irq ∙ sym (irq-below x.machine.irq a v h)) (still-written n.audio a v l h q.port);
          low = λ l h. low-write _ (omega arith) refl refl refl refl refl refl refl
              (low-agrees n.regs v t.counter small ∙ ap (λ (y : WikiIrq). wiki_write_low y v) q.irq
              ∙ sym (irq-low x.machine.irq a v l h)) q.port;
          high = λ l h. low-write _ (omega arith) refl refl refl refl refl refl refl
              (high-agrees n.regs v t.counter small ∙ ap (λ (y : WikiIrq). wiki_write_high y v) q.irq
              ∙ sym (irq-high x.machine.irq a v l h)) q.port;
          ram = λ l h. low-write _ h refl refl refl refl refl refl refl (above l) q.port;
          chr = window-write;
          nametable = enable-write;
          e000 = e000-write;
          e800 = λ l h.
              let i : (a - 0xE000) / 0x800 ≡ 1 = omega arith in
              rw e800-is
              (upper-write _ l refl refl refl refl refl refl
              (rw i (pages-set n.prg_banks x.machine.regs.upper 1 v t.prg q.upper (omega arith) q.prg)) refl);
          f000 = λ l h.
              let i : (a - 0xE000) / 0x800 ≡ 2 = omega arith in
              upper-write _ (omega arith) refl refl refl refl refl refl
              (rw i (pages-set n.prg_banks x.machine.regs.upper 2 v t.prg q.upper (omega arith) q.prg)) refl;
          port = λ l.
              rw (ap is163 q.board ∙ other)
              (upper-write n (omega arith) refl refl refl refl refl refl
              (pages-past n.prg_banks x.machine.regs.upper ((a - 0xE000) / 0x800) v (omega arith) q.prg) refl);
        })

  -- ---- a read, a cycle

  -- a step that leaves the registers but for the counter
  stays : (x y : Noted) (n o : Namco163) → y.machine.regs ≡ x.machine.regs → y.notes.enable ≡ x.notes.enable
      → y.notes.past ≡ x.notes.past
      → y.notes.mirrored ≡ x.notes.mirrored → o.auto_detect_board ≡ n.auto_detect_board → o.board ≡ n.board
      → o.mirroring ≡ n.mirroring → o.regs.prg_ram_protect ≡ n.regs.prg_ram_protect
      → o.nt_bank_enable ≡ n.nt_bank_enable → o.chr_banks ≡ n.chr_banks → o.prg_banks ≡ n.prg_banks
      → irq_of o.regs ≡ y.machine.irq → PortStill o.audio → Stands210 x n → Stands210 y o
  stays x y n o w v z i s d g p f c k r j q =
      record {
        settled = s ∙ q.settled;
        board = d ∙ q.board;
        chr = λ m h. rw (f, c, w) (q.chr m h);
        prg = λ m h. rw (k, w) (q.prg m h);
        irq = r;
        port = j;
        enabled = λ e. rw (p, v) (q.enabled e);
        gate = λ e. rw (v, w) (q.gate (sym z ∙ e));
        wired = λ e. g ∙ q.wired e;
        selected = λ e. rw (g, i, w) (q.selected e);
        windows = rw w q.windows;
        upper = rw w q.upper;
      }

  pub read-stands : (x : Noted) (n : Namco163) (a : ℕ) → Stands210 x n → Stands210 (next x (read a)) (after_read n a)
  unfolding step note after_read read_of
  read-stands x n a q = go (ltb a 0x4800) (ltb a 0x5000)
    where
      go : (y z : Bool) → Stands210 (next x (read a)) (cond y n (cond z (with_audio n (read_of n.audio a).audio) n))
      go true z = stays x (next x (read a)) n n refl refl refl refl refl refl refl refl refl refl refl q.irq q.port q
      go false true =
          stays x (next x (read a)) n _ refl refl refl refl refl refl refl refl refl refl refl q.irq
          (rw (still-advanced n.audio q.port) q.port) q
      go false false = stays x (next x (read a)) n n refl refl refl refl refl refl refl refl refl refl refl q.irq q.port q

  pub cycle-stands : (x : Noted) (n : Namco163) → ChipTyped n → Stands210 x n → Stands210 (next x cycle) (chip_clock n).state
  unfolding step chip_clock clock_counter
  cycle-stands x n t q =
      let k = cycle-notes x.machine x.notes in
      rw (ap is163 q.board ∙ other)
      (stays x (next x cycle) n _ refl k.enable k.past k.mirrored refl refl refl refl refl refl
      refl (cycle-agrees n.regs t.counter ∙ ap wiki_cycle q.irq) q.port q)

  -- ---- a load of mapper 210

  pub fresh-stands : (sub flags : ℕ) (known : Bool) (options : Options) → board_at_load 210 sub ≡ b → detecting_at_load 210 sub known ≡ false
      → mirroring_at_load flags ≡ m → Stands210 start (chosen (chip_at_load 210 sub flags known) options)
  unfolding chip_at_load
  fresh-stands sub flags known options is quiet wires =
      record {
        settled = quiet;
        board = is;
        chr = fresh-chr;
        prg = fresh-prg;
        irq = refl;
        port = record { addr = refl; auto = refl };
        enabled = λ e. ap (λ (o : Board). prg_ram_writable o 0) e;
        gate = λ e. refl;
        wired = λ e. wires;
        selected = λ e. wires;
        windows = refl;
        upper = refl;
      }
