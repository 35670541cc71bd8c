-- C25 on this board: `idle` says whether the next clock alters nothing, for every state, in range or not; and the clocks of a run that
-- alter something, counted one by one, are `counted`, for a counter of 16 bits.
use Prim.Native.Nat.{ℕ, zero, suc, ◌+◌, ◌-◌, ◌%◌, ◌^◌, min, ◌≤◌, ◌<◌}
use mathlib.Core.Path.{◌≡◌, refl, sym, ap, ◌∙◌}
use mathlib.Core.Bool.{Bool, true, false, cond, not, ◌&&◌}
use mathlib.Core.Option.{none}
use native.Mathlib.Omega.{arith}
use native.Mathlib.Decide.{ℕ_discrete, dec_lt}
use borrow.Author.Tests.{eq-eqb, ne_eqb, lt-ltb, le-ltb}
use lib.Dec.{eqb, ltb}
use lib.Ieee.{Float}
use Rattle.cut.specs.Machine.{Clocked}
use Rattle.cut.specs.Counter.{moves, next_counter, rises_from}
use Rattle.sound.specs.declared.audio.Audio.{Audio}
use Rattle.sound.specs.Audio.{with_counter as with_updates}
use Rattle.sound_clock.specs.Clock.{sound_clock, updated, update_channel}
use Rattle.board_chip.specs.Namco163.{is163, with_regs, with_audio}
use Rattle.board_chip.specs.Clock.{clock_counter}
use Rattle.board_state.specs.declared.State.{State}
use Rattle.board_state.specs.State.{with_chip}
use Rattle.call_run.specs.Clock.{sound_sample, chip_clock, state_clock}
use Rattle.idle_runs.specs.Idle.{Still, Tests, Least, busy}
use Rattle.idle_runs.proofs.Busy.{busy-least}
use Rattle.call_run.proofs.clock.Laws.{top-stops, quiet, stays}
use Rattle.call_idle.specs.Idle.{stepping, idle, left, counted}

-- ---- the counter

pub moves-says : (c : ℕ) → moves c ≡ true → (0x8000 ≤ c) × (c ≡ 0xFFFF → ⊥)
unfolding moves
moves-says c e = by (dec_lt c 0x8000) (ℕ_discrete c 0xFFFF) e
  where
    by : Dec (c < 0x8000) → Dec (c ≡ 0xFFFF) → cond (ltb c 0x8000) false (not (eqb c 0xFFFF)) ≡ true
        → (0x8000 ≤ c) × (c ≡ 0xFFFF → ⊥)
    by (yes h) d e = let t : false ≡ true = rw (lt-ltb c 0x8000 h) at e in let z : ◌≡◌ {A = ℕ} 0 1 = cc in absurd (omega arith)
    by (no h) (yes q) e =
        let t : false ≡ true = rw (le-ltb c 0x8000 (omega (arith, h)), eq-eqb c 0xFFFF q) at e in
        let z : ◌≡◌ {A = ℕ} 0 1 = cc in absurd (omega arith)
    by (no h) (no q) e = (omega (arith, h), q)

says-moves : (c : ℕ) → 0x8000 ≤ c → (c ≡ 0xFFFF → ⊥) → moves c ≡ true
unfolding moves
says-moves c h q = rw (le-ltb c 0x8000 h, ne_eqb c 0xFFFF q)

pub next-moved : (c : ℕ) → moves c ≡ true → next_counter c ≡ (c + 1) % 2 ^ 16
unfolding next_counter
next-moved c e = rw e

pub next-stopped : (c : ℕ) → moves c ≡ false → next_counter c ≡ c
unfolding next_counter
next-stopped c e = rw e

-- ---- what one clock leaves

sound-disabled : (a : Audio) → (sound_clock a).disabled ≡ a.disabled
unfolding sound_clock updated update_channel
sound-disabled a = go a.disabled refl (eqb (a.update_counter + 1) 15)
  where
    go : (d : Bool) → a.disabled ≡ d → (u : Bool)
        → (cond d a (cond u (updated (with_updates a 0)) (with_updates a (a.update_counter + 1)))).disabled ≡ a.disabled
    go true e u = refl
    go false e true = refl
    go false e false = refl

-- a sound clock moves the update counter
sound-moves : (a : Audio) → a.disabled ≡ false → sound_clock a ≡ a → ⊥
unfolding sound_clock updated update_channel
sound-moves a d e = by (ℕ_discrete (a.update_counter + 1) 15) (ap (λ (b : Audio). b.update_counter) e)
  where
    by : Dec (a.update_counter + 1 ≡ 15) → (sound_clock a).update_counter ≡ a.update_counter → ⊥
    by (yes q) m =
        let t : 0 ≡ a.update_counter = rw (d, eq-eqb (a.update_counter + 1) 15 q) at m in omega arith
    by (no q) m =
        let t : a.update_counter + 1 ≡ a.update_counter = rw (d, ne_eqb (a.update_counter + 1) 15 q) at m in omega arith

-- a clock by whether the board is a 163
abbrev pub clock_by : Bool → State → Clocked State Float
clock_by true s =
    record {
      state = with_chip s (with_audio (with_regs s.chip (clock_counter s.chip.regs)) (sound_clock s.chip.audio));
      sample = sound_sample s.chip.audio;
      rise = rises_from s.chip.regs.irq_counter;
    }
clock_by false s =
    record {
      state = with_chip s (with_regs s.chip (clock_counter s.chip.regs));
      sample = none;
      rise = rises_from s.chip.regs.irq_counter;
    }

pub clock-is : (s : State) (b : Bool) → is163 s.chip.board ≡ b → state_clock s ≡ clock_by b s
unfolding state_clock chip_clock
clock-is s true e = rw e
clock-is s false e = rw e

-- what the count goes by, after one clock
pub record Next (s t : State) : Type 0 where
  pub board : t.chip.board ≡ s.chip.board
  pub disabled : t.chip.audio.disabled ≡ s.chip.audio.disabled
  pub counter : t.chip.regs.irq_counter ≡ next_counter s.chip.regs.irq_counter

pub next : (s : State) → Next s (state_clock s).state
unfolding clock_counter
next s = go (is163 s.chip.board) refl
  where
    go : (b : Bool) → is163 s.chip.board ≡ b → Next s (state_clock s).state
    go true e = rw (clock-is s true e) (record { board = refl; disabled = sound-disabled s.chip.audio; counter = refl })
    go false e = rw (clock-is s false e) (record { board = refl; disabled = refl; counter = refl })

next-stepping : (s : State) → stepping (state_clock s).state ≡ stepping s
unfolding stepping
next-stepping s = rw ((next s).board, (next s).disabled)

-- ---- the test: both ways, for every state, in range or not

pub still-sound : (a : Audio) → a.disabled ≡ true → sound_clock a ≡ a
unfolding sound_clock
still-sound a e = rw e

none-sound : (a : Audio) → a.disabled ≡ true → sound_sample a ≡ none
unfolding sound_sample
none-sound a e = rw e

-- the parts of the test
pub parts : (b d m : Bool) → (not (b && not d) && not m) ≡ true → (m ≡ false) × (b ≡ true → d ≡ true)
parts true true true e = let z : ◌≡◌ {A = ℕ} 0 1 = cc in absurd (omega arith)
parts true true false e = (refl, λ q. refl)
parts true false m e = let z : ◌≡◌ {A = ℕ} 0 1 = cc in absurd (omega arith)
parts false d true e = let z : ◌≡◌ {A = ℕ} 0 1 = cc in absurd (omega arith)
parts false d false e = (refl, λ q. let z : ◌≡◌ {A = ℕ} 0 1 = cc in absurd (omega arith))

idle-still : (s : State) → idle s ≡ true → Still state_clock s
unfolding idle stepping
idle-still s e =
    let p = parts (is163 s.chip.board) s.chip.audio.disabled (moves s.chip.regs.irq_counter) e in
    go (is163 s.chip.board) refl p.0 p.1
  where
    go : (b : Bool) → is163 s.chip.board ≡ b → moves s.chip.regs.irq_counter ≡ false
        → (is163 s.chip.board ≡ true → s.chip.audio.disabled ≡ true) → Still state_clock s
    go true q m f =
        let d = f q in
        record {
          state = ap (λ (c : Clocked State Float). c.state) (clock-is s true q)
              ∙ (λ i. with_chip s (with_audio (with_regs s.chip (stays s.chip.regs m i)) (still-sound s.chip.audio d i)));
          sample = ap (λ (c : Clocked State Float). c.sample) (clock-is s true q) ∙ none-sound s.chip.audio d;
          rise = ap (λ (c : Clocked State Float). c.rise) (clock-is s true q) ∙ quiet s.chip.regs.irq_counter m;
        }
    go false q m f =
        record {
          state = ap (λ (c : Clocked State Float). c.state) (clock-is s false q)
              ∙ (λ i. with_chip s (with_regs s.chip (stays s.chip.regs m i)));
          sample = ap (λ (c : Clocked State Float). c.sample) (clock-is s false q);
          rise = ap (λ (c : Clocked State Float). c.rise) (clock-is s false q) ∙ quiet s.chip.regs.irq_counter m;
        }

still-idle : (s : State) → Still state_clock s → idle s ≡ true
unfolding idle stepping
still-idle s h = go (is163 s.chip.board) refl s.chip.audio.disabled refl (moves s.chip.regs.irq_counter) refl
  where
    counter-still : next_counter s.chip.regs.irq_counter ≡ s.chip.regs.irq_counter
    counter-still = sym (next s).counter ∙ ap (λ (t : State). t.chip.regs.irq_counter) h.state

    never : moves s.chip.regs.irq_counter ≡ true → ⊥
    never m =
        let c = s.chip.regs.irq_counter in
        let p = moves-says c m in
        let q : (c + 1) % 2 ^ 16 ≡ c = sym (next-moved c m) ∙ counter-still in
        omega (arith, p.1)

    audio-still : is163 s.chip.board ≡ true → sound_clock s.chip.audio ≡ s.chip.audio
    audio-still q =
        sym (ap (λ (c : Clocked State Float). c.state.chip.audio) (clock-is s true q))
        ∙ ap (λ (t : State). t.chip.audio) h.state

    go : (b : Bool) → is163 s.chip.board ≡ b → (d : Bool) → s.chip.audio.disabled ≡ d
        → (m : Bool) → moves s.chip.regs.irq_counter ≡ m → (not (b && not d) && not m) ≡ true
    go true p false q m r = absurd (sound-moves s.chip.audio q (audio-still p))
    go true p true q true r = absurd (never r)
    go true p true q false r = refl
    go false p d q true r = absurd (never r)
    go false p d q false r = refl

pub tests : Tests state_clock idle
tests = record { yes-still = idle-still; still-yes = still-idle }

-- ---- the formula

busy-steps : (n : ℕ) (s : State) → stepping s ≡ true → busy state_clock idle n s ≡ n
unfolding busy idle
busy-steps zero s e = refl
busy-steps (suc n) s e = rw e (ap suc (busy-steps n (state_clock s).state (next-stepping s ∙ e)))

left-next : (c : ℕ) → c < 2 ^ 16 → moves c ≡ true → left c ≡ suc (left (next_counter c))
unfolding left
left-next c h m =
    let p = moves-says c m in
    let e : next_counter c ≡ c + 1 = next-moved c m ∙ omega (arith, p.1) in
    rw (m, e) (by (ℕ_discrete (c + 1) 0xFFFF))
  where
    by : Dec (c + 1 ≡ 0xFFFF) → 0xFFFF - c ≡ suc (cond (moves (c + 1)) (0xFFFF - (c + 1)) 0)
    by (yes q) = rw (q, top-stops 0xFFFF refl) (omega arith)
    by (no q) =
        let p = moves-says c m in
        rw (says-moves (c + 1) (omega arith) q) (omega (arith, p.1))

none_left : (c : ℕ) → moves c ≡ false → left c ≡ 0
unfolding left
none_left c m = rw m

busy-counts : (n : ℕ) (s : State) → stepping s ≡ false → s.chip.regs.irq_counter < 2 ^ 16
    → busy state_clock idle n s ≡ min n (left s.chip.regs.irq_counter)
unfolding busy idle
busy-counts zero s e h = omega arith
busy-counts (suc n) s e h =
    rw e (go (moves s.chip.regs.irq_counter) refl (λ m. busy-counts n (state_clock s).state (next-stepping s ∙ e) (small m)))
  where
    small : moves s.chip.regs.irq_counter ≡ true → (state_clock s).state.chip.regs.irq_counter < 2 ^ 16
    small m = rw ((next s).counter, next-moved s.chip.regs.irq_counter m) (omega arith)

    go : (m : Bool) → moves s.chip.regs.irq_counter ≡ m
        → (moves s.chip.regs.irq_counter ≡ true
        → busy state_clock idle n (state_clock s).state ≡ min n (left (state_clock s).state.chip.regs.irq_counter))
        → cond (not m) 0 (suc (busy state_clock idle n (state_clock s).state)) ≡ min (suc n) (left s.chip.regs.irq_counter)
    go false m ih = omega (arith, none_left s.chip.regs.irq_counter m)
    go true m ih =
        let q : busy state_clock idle n (state_clock s).state ≡ min n (left (next_counter s.chip.regs.irq_counter)) =
        rw (next s).counter at (ih m) in
        omega (arith, left-next s.chip.regs.irq_counter h m)

-- the loop's count is the formula
pub busy-closed : (n : ℕ) (s : State) → s.chip.regs.irq_counter < 2 ^ 16 → busy state_clock idle n s ≡ counted n s
unfolding counted
busy-closed n s h = go (stepping s) refl
  where
    go : (b : Bool) → stepping s ≡ b
        → busy state_clock idle n s ≡ cond b n (min n (left s.chip.regs.irq_counter))
    go true e = busy-steps n s e
    go false e = busy-counts n s e h

-- and is the least number of clocks after which no remaining one can alter state, samples or rise
pub counted-least : (n : ℕ) (s : State) → s.chip.regs.irq_counter < 2 ^ 16 → Least state_clock n (counted n s) s
counted-least n s h = rw (busy-closed n s h) at (busy-least state_clock idle tests n s)
