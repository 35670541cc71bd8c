-- The fold tests each index.
use Rattle.std.proofs.Common.{rules, ◌≡◌, ◌&&◌, true, ◌∙◌, ap}
use lib.Ieee.{nan}
use Rattle.std.specs.List.{fold}
use Rattle.limits.specs.Every.{every}
use Rattle.sound.specs.Range.{level_ok, output_test}
use Rattle.sound.proofs.Every.{every-fold}
use Rattle.sound.proofs.range.levels_ok.Goals as goal

pub returns : goal.returns
returns c =
    let e : c.fold.result ≡ fold (λ ok x. ok && level_ok c.args.signed x) true c.args.outs.now = search rules in
    e ∙ every-fold (level_ok c.args.signed) nan c.args.outs.now ∙ ap (λ n. every n (output_test c.args.signed c.args.outs.now)) c.told-outs
