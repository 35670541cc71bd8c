-- The first that holds the start.
use Rattle.std.proofs.Common.{◌≡◌, ◌∙◌, rules, tests}
use Rattle.std.proofs.lemmas.Iterator.{YieldsList-from_slice}
use Rattle.std.proofs.lemmas.Iterator.Search.{find_from_yields_List}
use Rattle.std.specs.List.{find}
use Rattle.std.specs.Option.{option_copied}
use Rattle.directory.specs.Block.{holds}
use Rattle.directory.proofs.Laws.Places.{word_found}
use Rattle.directory.proofs.find.Goals as goal

pub returns : goal.returns
returns c =
    let e : option_copied c.find.result ≡ find (holds c.args.start) c.near.result.now =
    find_from_yields_List (holds c.args.start) _ _ c.find.result c.find.ensures.ran (YieldsList-from_slice c.near.result.now cc)
    (λ x b q k. search (rules, tests)) in
    c.unwrap_or.ensures ∙ rw (c.copied.ensures, e) (word_found c.args.start c.near.result.now ∙ c.near.ensures)
