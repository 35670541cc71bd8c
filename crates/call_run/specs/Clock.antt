-- C1, C2: the single clock, and n clocks of the counter.
use Rattle.std.specs.Prelude.{ℕ, zero, suc, ◌+◌, cond, eqb, Float}
use Rattle.std.proofs.Math.Option.{Option, some, none}
use Rattle.cut.specs.Counter.{rises_from}
use Rattle.cut.specs.Machine.{Clocked}
use Rattle.sound.specs.declared.audio.Audio.{Audio}
use Rattle.sound_clock.specs.Clock.{sound_clock}
use Rattle.sound_wave.specs.Mix.{output_of}
use Rattle.board_chip.specs.declared.namco163.Regs.{Regs}
use Rattle.board_chip.specs.declared.namco163.Namco163.{Namco163}
use Rattle.board_chip.specs.Namco163.{is163, with_regs, with_audio}
use Rattle.board_chip.specs.Clock.{clock_counter}
use Rattle.board_state.specs.declared.State.{State}
use Rattle.board_state.specs.State.{with_chip}

-- C2, S8: the sample of one sound clock, if it makes an update
unfoldable pub sound_sample : Audio → Option Float
sound_sample a = cond a.disabled none (cond (eqb (a.update_counter + 1) 15) (some (output_of (sound_clock a).out)) none)

-- C1, and on a 163 also C2
unfoldable pub chip_clock : Namco163 → Clocked Namco163 Float
chip_clock n =
    let m = with_regs n (clock_counter n.regs) in
    let rises = rises_from n.regs.irq_counter in
    cond (is163 n.board)
    (record { state = with_audio m (sound_clock n.audio); sample = sound_sample n.audio; rise = rises })
    (record { state = m; sample = none; rise = rises })

-- C1, C2: the same of a state, whose memory a clock leaves
unfoldable pub state_clock : State → Clocked State Float
state_clock s = let c = chip_clock s.chip in record { state = with_chip s c.state; sample = c.sample; rise = c.rise }

-- C5: n clocks of the counter, and which of them, the first being 1, was a rise; 0 where none was
unfoldable pub counter_run : ℕ → Regs → Regs
counter_run zero r = r
counter_run (suc n) r = clock_counter (counter_run n r)

unfoldable pub counter_rise : ℕ → Regs → ℕ
counter_rise zero r = 0
counter_rise (suc n) r = cond (rises_from (counter_run n r).irq_counter) (suc n) (counter_rise n r)
