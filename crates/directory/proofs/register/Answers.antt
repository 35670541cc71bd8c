-- One case of the definition for each return.
use Rattle.std.proofs.Common.{◌≡◌, sym, ◌∙◌, rules}
use Rattle.refusals.specs.Refusal.{number_of, refusal_of}
use Rattle.directory.specs.Block.{holds}
use Rattle.directory.proofs.Laws.Places.{position-some}
use Rattle.directory.proofs.Laws.Refused.{ready, block_err, block_ok, full_err, full_ok, none_held}
use Rattle.directory.proofs.Laws.Refused.{gives-err, gives-13, gives-again, gives-new, gives-14}
use Rattle.directory.proofs.register.Goals as goal

pub returns-in_err-checked : goal.returns-in_err-checked
returns-in_err-checked c =
    let r : refusal_of c.from_residual.result ≡ number_of c.in_err-checked.field-0.0 = search rules in
    let g = gives-err c.args.d.now c.args.start c.args.len c.args.number c.in_err-checked.field-0.0
    (sym c.checked.ensures ∙ c.in_err-checked.was) in
    record { value = r ∙ g.0; d_after = g.1 }

pub returns-in_err-block : goal.returns-in_err-block
returns-in_err-block c =
    let b = ready c.args.d.now c.args.start (sym c.checked.ensures ∙ c.in_ok-checked.was) in
    let r : refusal_of c.from_residual-in_err-block.result ≡ number_of c.in_err-block.field-0.0 = search rules in
    let k = block_err c.args.start c.args.len c.args.number c.in_err-block.field-0.0
    (rw c.registrable.ensures at (sym c.ok_or.ensures.value ∙ c.in_err-block.was)) in
    let g = gives-13 c.args.d.now c.args.start c.args.len c.args.number b.0 b.1 k.0 in
    record { value = r ∙ k.1 ∙ g.0; d_after = g.1 }

pub returns-in-Some : goal.returns-in-Some
returns-in-Some c =
    let b = ready c.args.d.now c.args.start (sym c.checked.ensures ∙ c.in_ok-checked.was) in
    let k = block_ok c.args.start c.args.len c.args.number c.in_ok-block.block (rw c.registrable.ensures at (sym c.ok_or.ensures.value ∙ c.in_ok-block.was)) in
    let p = position-some (holds c.args.start) c.args.d.now c.in-Some.place (sym c.place_of.ensures ∙ c.in-Some.is) in
    let g = gives-again c.args.d.now c.args.start c.args.len c.args.number b.0 b.1 k.0 p.0 in
    record { value = g.0; d_after = rw (c.from-word.ensures, k.1, ← p.1) g.1 }

pub returns-in_err-ok_or : goal.returns-in_err-ok_or
returns-in_err-ok_or c =
    let b = ready c.args.d.now c.args.start (sym c.checked.ensures ∙ c.in_ok-checked.was) in
    let k = block_ok c.args.start c.args.len c.args.number c.in_ok-block.block (rw c.registrable.ensures at (sym c.ok_or.ensures.value ∙ c.in_ok-block.was)) in
    let r : refusal_of c.from_residual-in_err-ok_or.result ≡ number_of c.in_err-ok_or.field-0.0 = search rules in
    let n = none_held (holds c.args.start) c.args.d.now (λ i e. c.in_default.not-Some i (c.place_of.ensures ∙ e)) in
    let f = full_err c.args.d.now c.in_err-ok_or.field-0.0
    (rw c.free_place.ensures at (sym c.ok_or-2.ensures.value ∙ c.in_err-ok_or.was)) in
    let g = gives-14 c.args.d.now c.args.start c.args.len c.args.number b.0 b.1 k.0 n f.0 in
    record { value = r ∙ f.1 ∙ g.0; d_after = g.1 }

pub returns : goal.returns
returns c =
    let b = ready c.args.d.now c.args.start (sym c.checked.ensures ∙ c.in_ok-checked.was) in
    let k = block_ok c.args.start c.args.len c.args.number c.in_ok-block.block (rw c.registrable.ensures at (sym c.ok_or.ensures.value ∙ c.in_ok-block.was)) in
    let n = none_held (holds c.args.start) c.args.d.now (λ i e. c.in_default.not-Some i (c.place_of.ensures ∙ e)) in
    let f = full_ok c.args.d.now c.in_ok-ok_or.field-0
    (rw c.free_place.ensures at (sym c.ok_or-2.ensures.value ∙ c.in_ok-ok_or.was)) in
    let g = gives-new c.args.d.now c.args.start c.args.len c.args.number b.0 b.1 k.0 n f in
    record { value = g.0; d_after = rw (c.put.ensures, c.from-word.ensures, k.1) g.1 }
