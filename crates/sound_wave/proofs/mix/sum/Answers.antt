-- The sum is a fold of f32 additions over the outputs from channel 7 - c on.
use Rattle.std.proofs.Common.{◌≡◌, rules, arith, ◌-◌, ap, take, drop, sym, ◌∙◌}
use Rattle.std.proofs.lemmas.List.{take_rest}
use lib.Ieee.{binary32, add, of_bits}
use Rattle.std.specs.List.{fold}
use Rattle.sound_wave.specs.Mix.{sum_from, sum_of}
use Rattle.sound_wave.proofs.mix.Laws.{fold-sum}
use Rattle.sound_wave.proofs.mix.sum.Goals as goal

pub returns : goal.returns
unfolding sum_of
returns c =
    let outs = c.args.outs.now in
    let f = c.saturating_sub-first.result in
    let g : f ≡ 7 - c.args.c = omega (arith, c.saturating_sub-first.ensures, c.from.ensures) in
    let e : c.fold.result ≡ fold (λ t x. add binary32 t x) (of_bits binary32 0) (take (8 - f) (drop f outs)) = search rules in
    let w : take (8 - f) (drop f outs) ≡ drop f outs = ap (λ n. take (n - f) (drop f outs)) (sym c.told-outs) ∙ take_rest outs f in
    e ∙ fold-sum (of_bits binary32 0) (take (8 - f) (drop f outs)) ∙ ap (sum_from (of_bits binary32 0)) (w ∙ ap (λ n. drop n outs) g)
