-- C24 to C26 on this board: which states are idle, and how few clocks of a run are enough, counted clock by clock and by what the run comes
-- to. The one hypothesis is that the counter has 16 bits, as its type says.
use Prim.Native.Nat.{ℕ, ◌+◌, ◌*◌, ◌^◌, ◌≤◌, ◌<◌}
use mathlib.Core.Path.{◌≡◌, refl, ap, ◌∙◌}
use mathlib.Core.Bool.{Bool, true, false, not, ◌&&◌}
use mathlib.Core.Logic.{◌↔◌}
use native.Mathlib.Decide.{ℕ_discrete}
use native.Mathlib.Omega.{arith}
use borrow.Author.Tests.{eq-eqb, ne_eqb}
use lib.ListN.{length}
use Rattle.cut.specs.Machine.{of_option}
use Rattle.cut.specs.Counter.{moves, next_counter}
use Rattle.idle_runs.specs.Idle.{Still, Least, LeastNet}
use Rattle.idle_runs.proofs.Busy.{least-one}
use Rattle.idle_runs.proofs.Net.{busy-net}
use Rattle.sound.specs.declared.audio.Audio.{Audio}
use Rattle.sound_clock.specs.Clock.{sound_clock, updated, update_channel}
use Rattle.board_chip.specs.Namco163.{is163}
use Rattle.board_chip.specs.Clock.{clock_counter}
use Rattle.board_state.specs.declared.State.{State}
use Rattle.call_run.specs.Clock.{sound_sample, state_clock}
use Rattle.call_idle.specs.Idle.{stepping, idle, counted}
use Rattle.call_run.proofs.run.Idle.{moves-says, next-moved, next-stopped, clock-is, next, still-sound, tests, busy-closed, counted-least}

-- R8: what the type says
abbrev pub Word : State → Type 0
Word s = s.chip.regs.irq_counter < 2 ^ 16

-- C25: `idle` is that the next clock alters nothing, from every state
pub idle-is-still : (s : State) → (idle s ≡ true) ↔ Still state_clock s
idle-is-still s = (tests.yes-still s, tests.still-yes s)

-- C24, C25: of n clocks `counted` are enough, and no fewer
pub counted-is-least : (n : ℕ) (s : State) → Word s → Least state_clock n (counted n s) s
counted-is-least = counted-least

-- ---- C26: the same by what a run comes to. With each clock that alters something the counter, the update counter and 15 for each sample
-- add up to more.

module _ (a : Audio) where
  abbrev heard : ℕ
  heard = 15 * length (of_option (sound_sample a)) + (sound_clock a).update_counter

  -- one clock of an enabled sound adds 1
  sound-adds : a.disabled ≡ false → heard ≡ a.update_counter + 1
  unfolding sound_sample sound_clock updated update_channel
  sound-adds d = by (ℕ_discrete (a.update_counter + 1) 15)
    where
      by : Dec (a.update_counter + 1 ≡ 15) → heard ≡ a.update_counter + 1
      by (yes q) = rw (d, eq-eqb (a.update_counter + 1) 15 q) (omega arith)
      by (no q) = rw (d, ne_eqb (a.update_counter + 1) 15 q) (omega arith)

  sound-not-less : a.update_counter ≤ heard
  sound-not-less = go a.disabled refl
    where
      go : (d : Bool) → a.disabled ≡ d → a.update_counter ≤ heard
      go true e = let u = ap (λ (b : Audio). b.update_counter) (still-sound a e) in omega arith
      go false e = omega (arith, sound-adds e)

counter-adds : (c : ℕ) → c < 2 ^ 16 → moves c ≡ true → next_counter c ≡ c + 1
counter-adds c h m = let p = moves-says c m in next-moved c m ∙ omega (arith, p.1)

counter-not-less : (c : ℕ) → c < 2 ^ 16 → c ≤ next_counter c
counter-not-less c h = go (moves c) refl
  where
    go : (m : Bool) → moves c ≡ m → c ≤ next_counter c
    go true e = omega (arith, counter-adds c h e)
    go false e = omega (arith, next-stopped c e)

abbrev rank : State → ℕ → ℕ
rank s made = s.chip.regs.irq_counter + (s.chip.audio.update_counter + 15 * made)

grows : (s : State) (made : ℕ) → Word s → idle s ≡ false
    → rank s made < rank (state_clock s).state (made + length (of_option (state_clock s).sample))
unfolding idle stepping clock_counter
grows s made w e = go (is163 s.chip.board) refl s.chip.audio.disabled refl (moves s.chip.regs.irq_counter) refl e
  where
    c : ℕ
    c = s.chip.regs.irq_counter

    go : (b : Bool) → is163 s.chip.board ≡ b → (d : Bool) → s.chip.audio.disabled ≡ d → (m : Bool) → moves c ≡ m
        → (not (b && not d) && not m) ≡ false → rank s made < rank (state_clock s).state (made + length (of_option (state_clock s).sample))
    go true p false q m r f =
        rw (clock-is s true p) (omega (arith, sound-adds s.chip.audio q, counter-not-less c w))
    go true p true q true r f =
        rw (clock-is s true p) (omega (arith, sound-not-less s.chip.audio, counter-adds c w r))
    go true p true q false r f = let z : ◌≡◌ {A = ℕ} 0 1 = cc in absurd (omega arith)
    go false p d q true r f = rw (clock-is s false p) (omega (arith, counter-adds c w r))
    go false p d q false r f = let z : ◌≡◌ {A = ℕ} 0 1 = cc in absurd (omega arith)

word_next : (s : State) → Word s → Word (state_clock s).state
word_next s w = rw (next s).counter (go (moves s.chip.regs.irq_counter) refl)
  where
    go : (m : Bool) → moves s.chip.regs.irq_counter ≡ m → next_counter s.chip.regs.irq_counter < 2 ^ 16
    go true e = rw (next-moved s.chip.regs.irq_counter e) (omega arith)
    go false e = rw (next-stopped s.chip.regs.irq_counter e) w

pub counted-is-least-net : (n : ℕ) (s : State) → Word s → LeastNet state_clock n (counted n s) s
counted-is-least-net n s w =
    rw (busy-closed n s w) at
    (busy-net state_clock idle tests Word (record { rank = rank; keeps = word_next; grows = grows }) n s w)

-- so the two readings give one number
pub readings-agree : (n k : ℕ) (s : State) → Word s → Least state_clock n k s ↔ LeastNet state_clock n k s
readings-agree n k s w =
    let clockwise = counted-is-least n s w in
    let whole = counted-is-least-net n s w in (
      (λ l. rw (least-one state_clock n k (counted n s) s l clockwise) whole),
      (λ l. let e : k ≡ counted n s = omega (arith, l.least (counted n s) whole.nets, whole.least k l.nets) in rw e clockwise),
    )
