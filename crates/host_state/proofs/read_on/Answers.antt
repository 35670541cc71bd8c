-- `read_on` meets its contract by a peek's: refused, accepted without a change, and accepted at the sound port.
use mathlib.Core.Path.{refl, ap, ◌∙◌}
use Rattle.refusals.proofs.Numbers.{numbered, errs}
use Rattle.call_refusals.proofs.Laws.{known-state}
use Rattle.call_cpu.proofs.Laws.{read-refused, read-accepted}
use lib.ListN.{length}
use Rattle.image_write.specs.Options.{image_at}
use Rattle.host_state.proofs.Laws.{read-called, word_of, image-of, known_read, room-read, still_read}
use Rattle.host_state.proofs.read_on.Goals as goal

pub returns-in_err-byte : goal.returns-in_err-byte
returns-in_err-byte c =
    let a = c.args in
    let read = read-refused a.s.state a.arena.now a.addr _ c.in_err-byte.ensures in
    let e = (read-called a.s.state a.image.now a.arena.now a.addr _ read).refused (numbered _) in
    record { value = rw (errs _ _ c.from_residual.ensures.1) (word_of e); image_after = image-of e }

pub returns-then-addr-ge20480 : goal.returns-then-addr-ge20480
returns-then-addr-ge20480 c =
    let a = c.args in
    let read = read-accepted a.s.state a.arena.now a.addr _ c.in_ok-byte.ensures in
    let call = read-called a.s.state a.image.now a.arena.now a.addr _ read in
    let e = call.accepted refl in
    let still = still_read a.s.state a.arena.now a.addr _ read c.if-addr-ge20480.true (call.none refl) in
    record { value = word_of e; image_after = c.requires.1 ∙ ap (image_at (length a.image.now)) still ∙ image-of e }

pub put_image-requires : goal.put_image-requires
put_image-requires c =
    let a = c.args in
    let read = read-accepted a.s.state a.arena.now a.addr _ c.in_ok-byte.ensures in
    rw c.after_read.ensures (
      room-read a.s.state a.arena.now a.addr _ (length a.image.now) read c.requires.0,
      known_read a.s.state a.arena.now a.addr _ read (known-state a.s _ c.well_formed.0),
    )

pub returns : goal.returns
returns c =
    let a = c.args in
    let read = read-accepted a.s.state a.arena.now a.addr _ c.in_ok-byte.ensures in
    let e = (read-called a.s.state a.image.now a.arena.now a.addr _ read).accepted refl in
    record { value = word_of e; image_after = rw (c.put_image.ensures, c.after_read.ensures) (image-of e) }
