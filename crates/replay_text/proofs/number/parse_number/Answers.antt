-- By whether the word begins with a `$`.
use Rattle.std.proofs.Common.{sym, ◌∙◌}
use Rattle.replay_text.proofs.Laws.Number.{number-cut}
use Rattle.replay_text.proofs.number.parse_number.Goals as goal

pub returns-in-Some : goal.returns-in-Some
returns-in-Some c =
    c.in_base.ensures
    ∙ rw c.in-Some.ensures.cases.1 (sym (number-cut c.args.word.now ∙ rw c.in-Some.ensures.cases.0))

pub returns-in-None : goal.returns-in-None
returns-in-None c = c.in_base-in-None.ensures ∙ sym (number-cut c.args.word.now ∙ rw c.in-None.ensures.cases)
