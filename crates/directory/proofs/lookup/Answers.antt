-- One case of the definition for each return.
use Rattle.std.proofs.Common.{◌≡◌, sym, ◌∙◌, rules}
use Rattle.std.proofs.lemmas.Bool.{not-true, eqb-false}
use Rattle.refusals.specs.Refusal.{number_of}
use Rattle.directory.specs.Block.{block_of}
use Rattle.directory.specs.Calls.{word_at, refused_lookup, lookup_answer}
use Rattle.directory.proofs.Laws.Dropped.{word-start}
use Rattle.directory.proofs.Laws.Eights.{some_if}
use Rattle.directory.proofs.Laws.Refused.{lookup_err, lookup_ok}
use Rattle.directory.proofs.lookup.Goals as goal

pub returns-in_err-checked-clause-value : goal.returns-in_err-checked-clause-value
returns-in_err-checked-clause-value c =
    let r : lookup_answer c.from_residual.result ≡ refused_lookup (number_of c.in_err-checked.field-0.0) = search rules in
    r ∙ lookup_err c.args.d.now c.args.start c.in_err-checked.field-0.0 (sym c.checked.ensures ∙ c.in_err-checked.was)

pub returns-clause-value : goal.returns-clause-value
returns-clause-value c =
    rw (c.then_some.ensures, c.from.ensures, c.find-w.ensures)
    (lookup_ok c.args.d.now c.args.start (sym c.checked.ensures ∙ c.in_ok-checked.was))

pub returns-clause-at_start : goal.returns-clause-at_start
returns-clause-at_start c =
    rw (c.then_some.ensures, c.from.ensures, c.find-w.ensures)
    (some_if (λ b. b.start ≡ c.args.start) _ (block_of (word_at c.args.start c.args.d.now))
    (λ y. word-start c.args.start c.args.d.now (eqb-false _ _ (not-true _ y))))
