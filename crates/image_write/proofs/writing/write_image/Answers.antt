-- `write_image` meets its contract: refused by its length, refused by its state, accepted.
use Rattle.std.specs.Prelude.{ℕ, ◌≡◌, Bool}
use mathlib.Core.Path.{sym, ap, ◌∙◌}
use Rattle.board_state.specs.declared.Options.{Options}
use Rattle.board_state.specs.declared.State.{State}
use Rattle.board_state.specs.State.{options_in}
use Rattle.board_state.proofs.Range.{known}
use Rattle.refusals.proofs.Numbers.{errs}
use Rattle.call_refusals.proofs.Laws.{known-range}
use Rattle.image_write.specs.Options.{needs_byte, option_set, room_for}
use Rattle.image_write.proofs.writing.Laws.{refused-length, refused-state, accepted}
use Rattle.image_write.proofs.writing.write_image.Goals as goal

-- the question is about the state's options and pages
asked : (s : State) (o : Options) (b : Bool) (n : ℕ) (r : Bool) → o ≡ options_in s → b ≡ needs_byte o s.memory.layout.prg_ram
    → r ≡ room_for b n
    → room_for (option_set s) n ≡ r
asked s o b n r e f g = sym (g ∙ ap (λ x. room_for x n) (f ∙ ap (λ x. needs_byte x s.memory.layout.prg_ram) e))

pub returns-then-not-room_for : goal.returns-then-not-room_for
returns-then-not-room_for c =
    let a = refused-length c.args.s c.args.img.now
    (asked c.args.s _ _ _ _ c.options.ensures c.needs_byte.ensures c.room_for.ensures ∙ c.if-not-room_for.true) in
    record { refusal = a.0; image = a.1 }

pub returns-in_err-known : goal.returns-in_err-known
returns-in_err-known c =
    let a = refused-state c.args.s c.args.img.now
    (asked c.args.s _ _ _ _ c.options.ensures c.needs_byte.ensures c.room_for.ensures ∙ c.if-not-room_for.false) c.in_err-known.ensures.1 in
    record { refusal = rw (errs _ _ c.from_residual.ensures.1, c.in_err-known.ensures.0) a.0; image = a.1 }

pub put_image-requires : goal.put_image-requires
put_image-requires c = rw (c.in_ok-known.ensures) (
  asked c.args.s _ _ _ _ c.options.ensures c.needs_byte.ensures c.room_for.ensures ∙ c.if-not-room_for.false,
  known c.args.s _ c.well_formed.0 (known-range c.in_ok-known.known c.in_ok-known.ensures),
)

pub returns : goal.returns
returns c =
    let a = accepted c.args.s c.args.img.now
    (asked c.args.s _ _ _ _ c.options.ensures c.needs_byte.ensures c.room_for.ensures ∙ c.if-not-room_for.false)
    (known-range c.in_ok-known.known c.in_ok-known.ensures) in
    record { refusal = a.0; image = c.put_image.ensures ∙ rw (c.in_ok-known.ensures) a.1 }
