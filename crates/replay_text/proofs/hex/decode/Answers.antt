-- The bytes put so far, and those of the pairs that are left, are the bytes of all (`Passed`).
use Rattle.std.proofs.Common.{rules, arith, sym, ◌∙◌, length-set}
use Rattle.replay_text.proofs.Laws.Hex.{decodes-odd, decodes-short, decodes-part, decodes-all, passed-next}
use Rattle.replay_text.proofs.hex.decode.Goals as goal
use Rattle.replay_text.proofs.hex.decode.Goals.{then-digits-eq1-via-then-digits-eq1, then-digits-eq1-via-else-digits-eq1+then-bytes-n}

pub returns-then-digits-eq1 : goal.returns-then-digits-eq1
returns-then-digits-eq1 c =
    let digits = c.args.digits.now in
    let bytes = c.args.bytes.now in elim c.then-digits-eq1.branch [
      | then-digits-eq1-via-then-digits-eq1 w ↦
          let d = decodes-odd digits bytes w.if-digits-eq1.true in record { value = d.0; bytes_after = d.1; within = search rules }
      | then-digits-eq1-via-else-digits-eq1+then-bytes-n w ↦
          let d = decodes-short digits bytes w.if-digits-eq1.false w.if-bytes-n.true in
          record { value = d.0; bytes_after = d.1; within = search rules }
    ]

pub returns-in_err-bytes : goal.returns-in_err-bytes
returns-in_err-bytes c =
    let d = decodes-part c.args.digits.now c.args.bytes.now c.if-digits-eq1.false c.if-bytes-n.false c.loop-i.i c.loop-i.bytes
    c.loop-i.invariant.1 c.loop-i-test.true (sym c.pair.ensures ∙ c.in_err-bytes.was) in
    record { value = c.from_residual.ensures ∙ d.0; bytes_after = d.1; within = search rules }

pub loop-i-preserved : goal.loop-i-preserved
loop-i-preserved c = (
  omega (arith, length-set c.loop-i.bytes c.loop-i.i c.in_ok-bytes.field-0),
  passed-next c.args.digits.now c.args.bytes.now c.if-digits-eq1.false c.if-bytes-n.false c.loop-i.i c.loop-i.bytes
      c.loop-i.invariant.1 c.in_ok-bytes.field-0 c.loop-i-test.true (omega arith) (sym c.pair.ensures ∙ c.in_ok-bytes.was),
)

pub returns : goal.returns
returns c =
    let d = decodes-all c.args.digits.now c.args.bytes.now c.if-digits-eq1.false c.if-bytes-n.false c.loop-i.i c.loop-i.bytes
    c.loop-i.invariant.1 (omega arith) in
    record { value = d.0; bytes_after = d.1; within = omega arith }
