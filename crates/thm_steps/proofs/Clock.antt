-- One clock keeps what is known of the chip.
use Prim.Native.Nat.{ℕ, ◌+◌, ◌%◌, ◌^◌, ◌<◌}
use mathlib.Core.Bool.{Bool, true, false, cond}
use mathlib.Core.Option.{Option}
use native.Mathlib.Omega.{arith}
use lib.Ieee.{Float}
use Rattle.cut.specs.Counter.{moves, next_counter}
use Rattle.cut.specs.Machine.{Clocked}
use Rattle.sound_clock.specs.Clock.{sound_clock}
use Rattle.sound_clock.proofs.Range.Clock.{clock-typed, clock-known}
use Rattle.board_chip.specs.declared.namco163.Namco163.{Namco163}
use Rattle.board_chip.specs.Namco163.{is163, with_regs, with_audio}
use Rattle.board_chip.specs.Clock.{clock_counter}
use Rattle.call_run.specs.Clock.{chip_clock}
use Rattle.thm_steps.proofs.Chip.{Keeps, keeps-both, keeps-regs, keeps-audio}

next_small : (c : ℕ) → c < 2 ^ 16 → next_counter c < 2 ^ 16
unfolding next_counter
next_small c h = go (moves c)
  where
    go : (t : Bool) → cond t ((c + 1) % 2 ^ 16) c < 2 ^ 16
    go true = omega arith
    go false = h

counter-keeps : (n : Namco163) → Keeps n (with_regs n (clock_counter n.regs))
unfolding clock_counter
counter-keeps n = keeps-regs n _ (λ t. (next_small n.regs.irq_counter t.counter, t.protect))

sound-keeps : (n : Namco163) → Keeps n (with_audio n (sound_clock n.audio))
sound-keeps n =
    keeps-audio n _ (clock-typed n.audio) (λ t r. (clock-known n.audio (record { typed = t; range = r })).range)

pub chip-clock-keeps : (n : Namco163) → Keeps n (chip_clock n).state
unfolding chip_clock
chip-clock-keeps n =
    let m = with_regs n (clock_counter n.regs) in
    go (is163 n.board) _ _ _ (keeps-both (counter-keeps n) (sound-keeps m)) (counter-keeps n)
  where
    go : (b : Bool) (x y : Option Float) (r : Bool)
        → let m = with_regs n (clock_counter n.regs) in
        Keeps n (with_audio m (sound_clock n.audio)) → Keeps n m
        → Keeps n (cond {A = Clocked Namco163 Float} b (record { state = with_audio m (sound_clock n.audio); sample = x; rise = r })
        (record { state = m; sample = y; rise = r })).state
    go true x y r p q = p
    go false x y r p q = q
