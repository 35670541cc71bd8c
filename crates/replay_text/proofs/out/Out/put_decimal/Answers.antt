-- The digits that `io::decimal` gives are put whole.
use Rattle.std.proofs.Common.{◌∙◌, arith}
use Rattle.replay_text.proofs.Laws.Decimal.{decimal-digits}
use Rattle.replay_text.proofs.out.Out.put_decimal.Goals as goal

pub returns : goal.returns
returns c =
    let e = decimal-digits 19 c.args.n c.decimal-k.result c.decimal-k.ensures.len (omega arith) in
    c.put_all.ensures ∙ rw (c.decimal-k.ensures.digits, e)
