-- The fold tests each index.
use Rattle.std.proofs.Common.{rules, ◌≡◌, ◌&&◌, true, nat_lt, ◌∙◌, ap}
use Rattle.std.specs.List.{fold}
use Rattle.limits.specs.Every.{every}
use Rattle.limits.specs.Limits.{phase_limit}
use Rattle.sound.specs.Range.{phase_test}
use Rattle.sound.proofs.Every.{every-fold}
use Rattle.sound.proofs.range.phases_ok.Goals as goal

pub returns : goal.returns
returns c =
    let e : c.fold.result ≡ fold (λ ok x. ok && nat_lt x phase_limit) true c.args.phases.now = search rules in
    e ∙ every-fold (λ x. nat_lt x phase_limit) 0 c.args.phases.now ∙ ap (λ n. every n (phase_test c.args.phases.now)) c.told-phases
