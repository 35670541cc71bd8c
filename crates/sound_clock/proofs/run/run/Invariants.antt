-- The loop makes the updates that are due (`Going`), and those are the n single clocks (`run_on`, `samples-on`). No update moves the choices.
use Rattle.std.proofs.Common.{◌≡◌}
use Rattle.sound_clock.proofs.run.Loop.{Going}
use Rattle.sound_clock.proofs.run.run.Given as goal

abbrev pub invariant-loop-sample : goal.invariant-loop-sample
invariant-loop-sample l =
    Going l.initial.sample-items l.made l.initial.a l.c l.sample-items l.a l.sum l.sample-index
    × ((l.a.signed_levels ≡ l.initial.a.signed_levels) × (l.a.plain_sum ≡ l.initial.a.plain_sum))
