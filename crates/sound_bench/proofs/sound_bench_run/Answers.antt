-- The state that is run is a fresh one but for its sound RAM, so it is in range and its counter is 0.
use Rattle.std.proofs.Common.{◌≡◌, ◌/◌, ℕ, List, refl, ap, ◌∙◌, zero-add, length, arith}
use mathlib.Core.Bool.{false}
use Rattle.sound.specs.Audio.{fresh}
use Rattle.sound.specs.Range.{InRange}
use Rattle.sound_clock.specs.Run.{samples_of}
use Rattle.sound.proofs.audio.Range.{other-range, fresh-range}
use Rattle.sound_clock.proofs.run.Laws.{made-closed}
use Rattle.sound_bench.proofs.sound_bench_run.Goals as goal

pub run-requires-clause-in_range : goal.run-requires-clause-in_range
run-requires-clause-in_range c =
    let f : InRange c.new.result = rw c.new.ensures (fresh-range false false) in
    other-range c.new.result _ f.counter f.channel f.address refl refl refl refl refl f

-- so many samples as fifteenths of the clocks
made : (ram : List ℕ) (clocks : ℕ) → length (samples_of clocks (record fresh { ram = ram })) ≡ clocks / 15
made ram clocks = made-closed clocks (record fresh { ram = ram }) (omega arith) ∙ ap (λ n. n / 15) (zero-add clocks)

pub run-requires-clause-a_in_bounds : goal.run-requires-clause-a_in_bounds
run-requires-clause-a_in_bounds c = rw c.new.ensures (omega (arith, made c.in-Some.field-0.now c.args.clocks))
