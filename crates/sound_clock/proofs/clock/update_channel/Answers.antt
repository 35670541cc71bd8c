-- The answer is the calls' answers put together; its range is the definition's (`update-range`).
use Rattle.std.proofs.Common.{◌≡◌, rules}
use Rattle.sound.proofs.audio.Range.{with-range}
use Rattle.sound_clock.specs.Clock.{update_channel}
use Rattle.sound_clock.proofs.Range.Clock.{phase-of, output-of, update-range}
use Rattle.sound_clock.proofs.clock.update_channel.Goals as goal

pub returns : goal.returns
unfolding update_channel
returns c =
    let a = c.args.a.now in
    let e : phase-of a ≡ c.next_phase-phase.result = cc in
    let o : output-of a ≡ c.output_at-output.result = cc in
    with-range _ _ (cc)
    (update-range a (search rules) (rw e c.next_phase-phase.ensures.1) (rw o c.output_at-output.ensures.1) c.requires)
