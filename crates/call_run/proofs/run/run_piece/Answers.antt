-- `run_piece` meets its contract: n single clocks in closed form, by the board.
use mathlib.Core.Path.{◌≡◌, sym, ◌∙◌}
use mathlib.Core.Bool.{true}
use lib.ListN.{length}
use Rattle.board_chip.specs.Namco163.{is163}
use Rattle.board_state.proofs.Range.{known}
use Rattle.call_run.specs.Run.{run_gave}
use Rattle.call_run.proofs.run.Laws.{sounds-state, sounds-samples, silent-state, silent-samples, rise-is, run-good}
use Rattle.call_run.proofs.run.run_piece.Goals as goal

pub returns-then-not-is_163 : goal.returns-then-not-is_163
unfolding run_gave
returns-then-not-is_163 c =
    let p = sym c.is_163.ensures ∙ c.if-not-is_163.true in (
      rw (
        c.requires,
        silent-state c.args.n c.args.s p,
        silent-samples c.args.n c.args.s p,
        rise-is c.args.n c.args.s,
        c.run_counter-counted.ensures.0,
        c.run_counter-counted.ensures.1,
      ),
      rw (c.requires, silent-samples c.args.n c.args.s p),
    )

pub run-made-requires-clause-in_range : goal.run-made-requires-clause-in_range
run-made-requires-clause-in_range c =
    let g = run-good c.args.s c.args.n (length c.args.samples.now) c.requires in
    (known c.args.s _ c.well_formed.0 g.good).range.chip.audio

pub run-made-requires-clause-a_in_bounds : goal.run-made-requires-clause-a_in_bounds
run-made-requires-clause-a_in_bounds c =
    let is-163 : is163 c.args.s.chip.board ≡ true = sym c.is_163.ensures ∙ c.if-not-is_163.false in
    let g = run-good c.args.s c.args.n (length c.args.samples.now) c.requires in
    rw (← sounds-samples c.args.n c.args.s is-163) g.enough

pub returns : goal.returns
unfolding run_gave
returns c =
    let is-163 : is163 c.args.s.chip.board ≡ true = sym c.is_163.ensures ∙ c.if-not-is_163.false in (
      rw (
        c.requires,
        sounds-state c.args.n c.args.s is-163,
        sounds-samples c.args.n c.args.s is-163,
        rise-is c.args.n c.args.s,
        c.run_counter-counted.ensures.0,
        c.run_counter-counted.ensures.1,
        c.run-made.ensures.audio_value.0,
        c.run-made.ensures.audio_value.1.0,
      ),
      rw (c.requires, sounds-samples c.args.n c.args.s is-163) c.run-made.ensures.samples_after,
    )
