-- The loop makes the updates that are due (`Going`), and those are the n single clocks (`run_on`, `samples-on`).
use Prim.Native.Nat.{ℕ, ◌+◌, ◌/◌, ◌≤◌}
use mathlib.Core.Path.{◌≡◌, refl, sym}
use mathlib.Core.Bool.{false}
use native.Mathlib.Omega.{arith}
use lib.ListN.{length}
use Rattle.limits.specs.Limits.{update_most}
use Rattle.sound.specs.declared.audio.Audio.{Audio}
use Rattle.sound.proofs.audio.Range.{other-range}
use Rattle.sound_clock.specs.Run.{samples_of}
use Rattle.std.proofs.lemmas.List.{length-take-le}
use Rattle.sound_clock.proofs.run.Laws.{run-off, samples-off}
use Rattle.sound_clock.proofs.run.Loop.{going-parts, going_end, made-all, clocked-all, filled-all}
use Rattle.sound_clock.proofs.run.run.Goals as goal

pub returns-then-a-clause-audio_value : goal.returns-then-a-clause-audio_value
returns-then-a-clause-audio_value c =
    rw (run-off c.args.n c.args.a.now c.if-a.true, samples-off c.args.n c.args.a.now c.if-a.true) (refl, (refl, c.requires.in_range))

pub returns-then-a-clause-samples_after : goal.returns-then-a-clause-samples_after
returns-then-a-clause-samples_after c = rw (samples-off c.args.n c.args.a.now c.if-a.true)

-- the updates that are due have room
room : (n u : ℕ) (a : Audio) {len : ℕ} → a.disabled ≡ false → u ≡ a.update_counter → a.update_counter ≤ update_most
    → length (samples_of n a) ≤ len → (u + n) / 15 ≤ len
room n u a d s h fits = omega (arith, made-all n u a d s h, fits)

pub slice_bounds-sample-items-end : goal.slice_bounds-sample-items-end
slice_bounds-sample-items-end c =
    omega (arith, room c.args.n _ c.args.a.now c.if-a.false c.from.ensures c.requires.in_range.counter c.requires.a_in_bounds)

pub slice_bounds-sample-items-end-2 : goal.slice_bounds-sample-items-end-2
slice_bounds-sample-items-end-2 c =
    let h = room c.args.n _ c.args.a.now c.if-a.false c.from.ensures c.requires.in_range.counter c.requires.a_in_bounds in
    sym (length-take-le _ c.args.samples.now (omega (arith, h)))

-- an update, place by place
pub loop-sample-preserved : goal.loop-sample-preserved
loop-sample-preserved c =
    let h = room c.args.n _ c.args.a.now c.if-a.false c.from.ensures c.requires.in_range.counter c.requires.a_in_bounds in
    let full = length-take-le _ c.args.samples.now h in
    let same = c.loop-sample.invariant.1 in (
      going-parts _ _ _ _ _ c.loop-sample.a _ c.loop-sample.sample-index c.loop-sample.invariant.0
          (omega (arith, full, c.loop-sample-test.true)) (omega (arith, full)) _ _ _ _ _ _ _ _
          c.from-k.ensures c.base_addr.ensures.0 c.next_phase-phase.ensures (rw same.0 c.output_at-output.ensures) c.resum-sum.ensures
          (rw same.1 c.mixed-a.ensures) c.next_channel-a.ensures.0 c.output.ensures,
      same,
    )

pub returns-clause-audio_value : goal.returns-clause-audio_value
returns-clause-audio_value c =
    let n = c.args.n in let a = c.args.a.now in
    let h = room n _ a c.if-a.false c.from.ensures c.requires.in_range.counter c.requires.a_in_bounds in
    let full = length-take-le _ c.args.samples.now h in
    let g = c.loop-sample.invariant.0 in
    let done = going_end _ _ _ _ _ _ _ _ g (omega (arith, full, c.loop-sample-test.false)) in
    let r = g.range in (
      clocked-all n _ a c.if-a.false c.from.ensures c.requires.in_range.counter _ done.0,
      (
        made-all n _ a c.if-a.false c.from.ensures c.requires.in_range.counter,
        other-range c.loop-sample.a _ (omega arith) r.channel r.address refl refl refl refl refl r,
      ),
    )

pub returns-clause-samples_after : goal.returns-clause-samples_after
returns-clause-samples_after c =
    let n = c.args.n in let a = c.args.a.now in
    let h = room n _ a c.if-a.false c.from.ensures c.requires.in_range.counter c.requires.a_in_bounds in
    let full = length-take-le _ c.args.samples.now h in
    let done = going_end _ _ _ _ _ _ _ _ c.loop-sample.invariant.0 (omega (arith, full, c.loop-sample-test.false)) in
    filled-all n _ a c.if-a.false c.from.ensures c.requires.in_range.counter c.args.samples.now _ done.1
