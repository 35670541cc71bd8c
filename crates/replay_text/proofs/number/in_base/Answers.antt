-- The value so far, and the digits that are left, give the number of all.
use Rattle.std.proofs.Common.{◌≡◌, sym, ◌∙◌, arith, length}
use Rattle.std.proofs.lemmas.Grind.{common_steps}
use Rattle.replay_text.proofs.Laws.Number.{digits-end, base-none, base-some, no-digit, no-number, a-number}
use Rattle.replay_text.proofs.number.in_base.Goals as goal

pub returns-then-is_empty : goal.returns-then-is_empty
returns-then-is_empty c =
    let e : length c.args.digits.now ≡ 0 = grind (arith, common_steps) in sym (base-none c.args.base c.args.digits.now e)

pub returns-in_err-digit : goal.returns-in_err-digit
returns-in_err-digit c =
    let stops = no-digit c.args.base c.loop-b.value c.args.digits.now c.loop-b.b-index c.loop-b-test.true
    (sym c.digit.ensures.value ∙ c.in_err-digit.was) in
    c.from_residual.ensures
    ∙ sym (base-some c.args.base c.args.digits.now (λ e. grind (arith, common_steps)) ∙ sym c.loop-b.invariant ∙ stops)

pub returns-in_err-value : goal.returns-in_err-value
returns-in_err-value c =
    let stops = no-number c.args.base c.loop-b.value c.args.digits.now c.loop-b.b-index c.loop-b-test.true
    (sym c.digit.ensures.value ∙ c.in_ok-digit.was) (rw c.from.ensures at (sym c.one_more.ensures ∙ c.in_err-value.was)) in
    c.from_residual-in_err-value.ensures
    ∙ sym (base-some c.args.base c.args.digits.now (λ e. grind (arith, common_steps)) ∙ sym c.loop-b.invariant ∙ stops)

pub loop-b-preserved : goal.loop-b-preserved
loop-b-preserved c =
    let next = a-number c.args.base c.loop-b.value c.args.digits.now c.loop-b.b-index c.loop-b-test.true
    (sym c.digit.ensures.value ∙ c.in_ok-digit.was) (rw c.from.ensures at (sym c.one_more.ensures ∙ c.in_ok-value.was)) in
    sym next ∙ c.loop-b.invariant

pub returns : goal.returns
returns c =
    sym (base-some c.args.base c.args.digits.now (λ e. grind (arith, common_steps)) ∙ sym c.loop-b.invariant
    ∙ digits-end c.args.base c.loop-b.value c.args.digits.now c.loop-b.b-index c.loop-b-test.false)
