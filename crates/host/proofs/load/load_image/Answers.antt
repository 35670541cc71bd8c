-- `load_image` meets its contract: refused by the image, refused by the load, and accepted.
use mathlib.Core.Path.{refl, sym, ap, ◌∙◌}
use lib.ListN.{length}
use Rattle.refusals.proofs.Numbers.{numbered, passed}
use borrow.Author.Rules.{rules}
use Rattle.call_refusals.specs.Refusals.{load_checks}
use Rattle.image_write.specs.Options.{image_at}
use Rattle.thm_range.proofs.Refused.{load-refused}
use Rattle.host_state.proofs.Laws.{called, word_of, image-of, lent_of}
use Rattle.bits.specs.Fields.{bit}
use Rattle.host.specs.Host.{load_needs_byte, load_gives, host_load_checks, host_load}
use mathlib.Core.Bool.{Bool}
use Rattle.call_load.specs.Cartridge.{fresh_state}
use Rattle.host.proofs.Laws.{yes-bit, no_room, roomy, load-number, load-known, load_fresh, room-fresh}
use Rattle.host.proofs.load.load_image.Goals as goal

pub returns-then-not-room_for_load : goal.returns-then-not-room_for_load
unfolding host_load
returns-then-not-room_for_load c =
    let a = c.args in
    let k = a.cartridge in
    let given = load_gives (length a.image.now) a.arena.now k.mapper k.submapper k.flags (bit k.known) k.sizes k.options in
    let none = sym c.room_for_load.ensures ∙ c.if-not-room_for_load.true in
    let own = load_checks k.mapper k.sizes (length a.arena.now) in
    let e = no_room (load_needs_byte k.sizes k.options) a.image.now own a.arena.now given none in
    record { value = word_of e; image_after = image-of e; arena_after = lent_of e }

-- here and below `number` is that of the load, and by `room-here` the bytes hold the image
pub returns-in_err-fresh : goal.returns-in_err-fresh
unfolding host_load
returns-in_err-fresh c =
    let a = c.args in
    let k = a.cartridge in
    let load = c.in_err-fresh.ensures in
    let given = load_gives (length a.image.now) a.arena.now k.mapper k.submapper k.flags (bit k.known) k.sizes k.options in
    let number = load-number k.mapper k.submapper k.flags k.known k.sizes k.options a.arena.now _ load.0 in
    let room-here = sym c.room_for_load.ensures ∙ c.if-not-room_for_load.false in
    let passes = roomy (load_needs_byte k.sizes k.options) a.image.now (load_checks k.mapper k.sizes (length a.arena.now)) room-here in
    let checks = host_load_checks a.image.now a.arena.now k.mapper k.sizes k.options in
    let call = called checks a.image.now a.arena.now given given _ (number ∙ passes) refl in
    let e = call.refused (numbered _) in
    let kept = (load-refused k.mapper k.submapper k.flags k.known k.sizes k.options a.arena.now
    (λ z. numbered _ (number ∙ z))).1 in
    record { value = passed _ _ c.from_residual.ensures.1 ∙ word_of e; image_after = image-of e; arena_after = load.1 ∙ kept ∙ lent_of e }

pub put_image-requires : goal.put_image-requires
put_image-requires c =
    let a = c.args in
    let k = a.cartridge in
    let load = c.in_ok-fresh.ensures.0 in
    let room-here = sym c.room_for_load.ensures ∙ c.if-not-room_for_load.false in (
      room-fresh k.mapper k.submapper k.flags k.known k.sizes k.options a.arena.now _ load refl (length a.image.now) room-here,
      load-known k.mapper k.submapper k.flags k.known k.sizes k.options a.arena.now _ load (search rules) refl,
    )

pub returns : goal.returns
unfolding host_load
returns c =
    let a = c.args in
    let k = a.cartridge in
    let load = c.in_ok-fresh.ensures in
    let given = load_gives (length a.image.now) a.arena.now k.mapper k.submapper k.flags (bit k.known) k.sizes k.options in
    let number = load-number k.mapper k.submapper k.flags k.known k.sizes k.options a.arena.now _ load.0 in
    let room-here = sym c.room_for_load.ensures ∙ c.if-not-room_for_load.false in
    let passes = roomy (load_needs_byte k.sizes k.options) a.image.now (load_checks k.mapper k.sizes (length a.arena.now)) room-here in
    let checks = host_load_checks a.image.now a.arena.now k.mapper k.sizes k.options in
    let call = called checks a.image.now a.arena.now given given _ (number ∙ passes) refl in
    let e = call.accepted refl in
    let fresh = load_fresh k.mapper k.submapper k.flags k.known k.sizes k.options a.arena.now _ load.0 refl in
    record {
      value = word_of e;
      image_after = c.put_image.ensures ∙ ap (image_at (length a.image.now)) fresh
          ∙ ap (λ (x : Bool). image_at (length a.image.now) (fresh_state k.mapper k.submapper k.flags x k.sizes k.options))
          (sym (yes-bit k.known))
          ∙ image-of e;
      arena_after = load.1 ∙ lent_of e;
    }
