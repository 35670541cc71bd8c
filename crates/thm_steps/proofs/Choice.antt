-- S17: no step of the chip changes the sound's choices.
use Prim.Native.Nat.{ℕ, ◌+◌}
use mathlib.Core.Path.{◌≡◌, refl, ◌∙◌}
use lib.Dec.{eqb, ltb}
use lib.Ieee.{Float}
use Rattle.limits.proofs.Each.{cond-holds}
use Rattle.cut.specs.Machine.{Clocked}
use Rattle.sound.specs.declared.audio.Audio.{Audio}
use Rattle.sound.specs.Registers.{within, advanced, read_of, written}
use Rattle.sound_clock.specs.Clock.{update_channel, updated, sound_clock}
use Rattle.board_chip.specs.declared.namco163.Namco163.{Namco163}
use Rattle.board_chip.specs.Namco163.{is163}
use Rattle.board_chip.specs.Detection.{may_change, maybe_set_board}
use Rattle.board_chip.specs.Reads.{after_read}
use Rattle.board_chr.specs.Slots.{write_slot}
use Rattle.board_registers.specs.Writes.{write_chip}
use Rattle.board_registers.proofs.Steps.{Steps, write-by}
use Rattle.call_run.specs.Clock.{chip_clock}

-- b has the choices of a
pub record SameChoice (a b : Audio) : Type 0 where
  pub signed : b.signed_levels ≡ a.signed_levels
  pub plain : b.plain_sum ≡ a.plain_sum

same : (a b : Audio) → b.signed_levels ≡ a.signed_levels → b.plain_sum ≡ a.plain_sum → SameChoice a b
same a b p q = record { signed = p; plain = q }

self : (a : Audio) → SameChoice a a
self a = same a a refl refl

then_same : {a b c : Audio} → SameChoice a b → SameChoice b c → SameChoice a c
then_same {a} {b} {c} p q = same a c (q.signed ∙ p.signed) (q.plain ∙ p.plain)

-- ---- the sound

advanced-choice : (a : Audio) → SameChoice a (advanced a)
unfolding advanced
advanced-choice a = cond-holds (SameChoice a) a.auto_increment _ _ (same a _ refl refl) (self a)

written-choice : (a : Audio) (addr v : ℕ) → SameChoice a (written a addr v)
unfolding written
written-choice a addr v =
    cond-holds (SameChoice a) (within 0x4800 0x4FFF addr) _ _ (then_same (same a _ refl refl) (advanced-choice _))
    (cond-holds (SameChoice a) (within 0xE000 0xE7FF addr) _ _ (same a _ refl refl)
    (cond-holds (SameChoice a) (within 0xF800 0xFFFF addr) _ _ (same a _ refl refl) (self a)))

pub clock-choice : (a : Audio) → SameChoice a (sound_clock a)
unfolding sound_clock updated update_channel
clock-choice a =
    cond-holds (SameChoice a) a.disabled _ _ (self a)
    (cond-holds (SameChoice a) (eqb (a.update_counter + 1) 15) _ _ (same a _ refl refl) (same a _ refl refl))

-- ---- the chip

abbrev Same : Namco163 → Namco163 → Type 0
Same n m = SameChoice n.audio m.audio

write-steps : (n : Namco163) (a v : ℕ) → Steps (Same n) a v
unfolding maybe_set_board write_slot
write-steps n a v =
    record {
      detect = λ m b k. cond-holds (Same n) (may_change m) _ _ k k;
      sound = λ m k. then_same k (written-choice m.audio a v);
      low = λ lo hi m k. k;
      high = λ lo hi m k. k;
      flag = λ m k. k;
      slot = λ m k. k;
      protect = λ m k. k;
      bank = λ m i k. k;
      selects = λ m k. k;
      mirroring = λ m k. k;
    }

pub write-choice : (n : Namco163) (a v : ℕ) → Same n (write_chip n a v)
write-choice n a v = write-by (Same n) a v (write-steps n a v) n (self n.audio)

pub read-choice : (n : Namco163) (a : ℕ) → Same n (after_read n a)
unfolding after_read read_of
read-choice n a =
    cond-holds (Same n) (ltb a 0x4800) _ _ (self n.audio)
    (cond-holds (Same n) (ltb a 0x5000) _ _ (advanced-choice n.audio) (self n.audio))

pub chip-clock-choice : (n : Namco163) → Same n (chip_clock n).state
unfolding chip_clock
chip-clock-choice n =
    cond-holds (λ (c : Clocked Namco163 Float). Same n c.state) (is163 n.board) _ _ (clock-choice n.audio) (self n.audio)
