-- The fold tests each index.
use Rattle.std.proofs.Common.{rules, ◌≡◌, ◌&&◌, true, nat_le, ap, ◌∙◌}
use Rattle.std.specs.List.{fold}
use Rattle.limits.specs.Every.{every}
use Rattle.limits.specs.Limits.{bank_most}
use Rattle.sound.proofs.Every.{every-fold}
use Rattle.board_state.specs.State.{bank_test}
use Rattle.board_state.proofs.banks_ok.Goals as goal

pub returns : goal.returns
returns c =
    let e : c.fold.result ≡ fold (λ ok x. ok && nat_le x bank_most) true c.args.banks.now = search rules in
    e ∙ every-fold (λ x. nat_le x bank_most) 0 c.args.banks.now ∙ ap (λ n. every n (bank_test c.args.banks.now)) c.told-banks
