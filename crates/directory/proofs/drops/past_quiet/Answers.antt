-- By the pass over the eight.
use Rattle.std.proofs.Common.{◌≡◌, ◌++◌, ◌<◌, length, sym, arith}
use Rattle.std.proofs.lemmas.List.{take-append-drop}
use Rattle.directory.proofs.Laws.Eights.{some_if, quiet_decides}
use Rattle.directory.specs.Eights.{Decides}
use Rattle.directory.proofs.drops.past_quiet.Goals as goal

pub returns : goal.returns
returns c =
    let e : c.args.d.now ≡ c.in_ok-eight.eight.now ++ c.in_ok-eight.after.now =
    rw (c.in_ok-eight.ensures.cases.0, c.in_ok-eight.ensures.cases.1) (sym (take-append-drop 8 c.args.d.now)) in
    let l : length c.in_ok-eight.after.now < length c.args.d.now = omega (arith, c.in_ok-eight.ensures.cases.2) in
    rw (c.then_some.ensures, c.quiet.ensures)
    (some_if (λ after. Decides c.args.touched c.args.d.now after.now) _ c.in_ok-eight.after (quiet_decides c.args.touched c.in_ok-eight.eight.now c.args.d.now c.in_ok-eight.after.now e l))
