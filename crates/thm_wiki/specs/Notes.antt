-- What is noted beside the wiki's machine, to say exactly where the board departs from it. No step of the machine looks at it.
use Rattle.std.specs.Prelude.{ℕ, ◌-◌, ◌*◌, ◌/◌, ◌%◌, ◌+◌, ◌≡◌, Bool, true, false, cond, not, ◌&&◌, ◌||◌, List, [], ◌∷◌, eqb, leb, ltb, get_or, set, replicate}
use Rattle.limits.specs.Every.{every}
use Rattle.thm_wiki.specs.Registers.{wiki_bit, wiki_allowed, wiki_e800}
use Rattle.thm_wiki.specs.Sound.{WikiSound, wiki_base, wiki_phase, wiki_sample, wiki_place, wiki_volume, wiki_at, wiki_next}
use Rattle.thm_wiki.specs.Port.{sound_write}
use Rattle.thm_wiki.specs.Machine.{Wiki, Act, write, read, cycle, restore, step, fresh}

pub record Notes : Type 0 where
  -- the value of E800 when each window was last written
  pub selects : List ℕ
  -- the value last written to C000..DFFF, and whether that was to C800..DFFF
  pub enable : ℕ
  pub past : Bool
  -- whether E000..E7FF was written, and whether with bit 7 set
  pub mirrored : Bool
  pub turned : Bool
  -- whether the data port or a battery restore changed a phase in the RAM
  pub phases : Bool
  -- of each channel's last update: 256 times the volume where the nibble was less than 8, else 0
  pub above : List ℕ
  -- and whether its sample lay in a phase byte, or a phase had been changed before
  pub stray : List Bool

abbrev pub no_notes : Notes
no_notes =
    record {
      selects = replicate 12 0;
      enable = 0;
      past = false;
      mirrored = false;
      turned = false;
      phases = false;
      above = replicate 8 0;
      stray = replicate 8 false;
    }

abbrev pub inside : ℕ → ℕ → ℕ → Bool
inside from end a = leb from a && ltb a end

-- W16: a byte holds part of a phase: bytes 1, 3 and 5 of a channel's registers
abbrev pub is_phase : ℕ → Bool
is_phase j = leb 0x40 j && (eqb (j % 8) 1 || (eqb (j % 8) 3 || eqb (j % 8) 5))

-- W16: two RAMs hold the same phases
unfoldable pub same_phases : List ℕ → List ℕ → Bool
same_phases ram other = every 8 (λ k. eqb (wiki_phase other (wiki_base k)) (wiki_phase ram (wiki_base k)))

-- the place of the next update's sample, in nibbles
abbrev pub next_place : WikiSound → ℕ
next_place w = wiki_place w.ram (wiki_at w) (wiki_next w)

-- after an update
abbrev pub note_update : WikiSound → Notes → Notes
note_update w t =
    record {
      selects = t.selects;
      enable = t.enable;
      past = t.past;
      mirrored = t.mirrored;
      turned = t.turned;
      phases = t.phases;
      above = set t.above w.turn (cond (leb 8 (wiki_sample w.ram (next_place w))) 0 (256 * wiki_volume w.ram (wiki_at w)));
      stray = set t.stray w.turn (is_phase (next_place w / 2) || t.phases);
    }

-- w is the machine before the step
unfoldable pub note : Wiki → Notes → Act → Notes
note w t (write a v) =
    record {
      selects = cond (inside 0x8000 0xE000 a) (set t.selects ((a - 0x8000) / 0x800) (wiki_e800 w.regs)) t.selects;
      enable = cond (inside 0xC000 0xE000 a) v t.enable;
      past = cond (inside 0xC000 0xE000 a) (leb 0xC800 a) t.past;
      mirrored = inside 0xE000 0xE800 a || t.mirrored;
      turned = (inside 0xE000 0xE800 a && wiki_bit 7 v) || t.turned;
      phases = not (same_phases w.sound.ram (sound_write w.sound a v).ram) || t.phases;
      above = t.above;
      stray = t.stray;
    }
note w t (read a) = t
note w t cycle = cond w.sound.silent t (cond (eqb (w.sound.timer + 1) 15) (note_update w.sound t) t)
note w t (restore bytes) =
    record {
      selects = t.selects;
      enable = t.enable;
      past = t.past;
      mirrored = t.mirrored;
      turned = t.turned;
      phases = not (same_phases w.sound.ram bytes) || t.phases;
      above = t.above;
      stray = t.stray;
    }

-- ---- the machine with its notes, and steps in order

pub record Noted : Type 0 where
  pub machine : Wiki
  pub notes : Notes

abbrev pub start : Noted
start = record { machine = fresh; notes = no_notes }

abbrev pub next : Noted → Act → Noted
next x a = record { machine = step x.machine a; notes = note x.machine x.notes a }

unfoldable pub steps : Noted → List Act → Noted
steps x [] = x
steps x (a ∷ acts) = steps (next x a) acts

-- ---- the departure of the select bits: W10

-- whether window k allowed nametable RAM when it was last written, and whether it does now
abbrev pub allowed_then : Noted → ℕ → Bool
allowed_then x k = wiki_allowed (get_or x.notes.selects k 0) k

abbrev pub allowed_now : Noted → ℕ → Bool
allowed_now x k = wiki_allowed (wiki_e800 x.machine.regs) k

-- its last value is less than E0, or its select bit is as it was then
abbrev pub Steady : Noted → ℕ → Type 0
Steady x k = leb 0xE0 (get_or x.machine.regs.windows k 0) ≡ true → allowed_now x k ≡ allowed_then x k
