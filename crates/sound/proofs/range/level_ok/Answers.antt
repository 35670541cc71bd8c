-- What has passed the test of `out` is a number whose size has bits of at most those of 3825, and the float of its whole part is a number.
use native.Mathlib.Omega.{arith}
use mathlib.Core.Bool.{false}
use mathlib.Core.Path.{◌≡◌, sym, ◌∙◌}
use lib.IntN.{pos}
use Rattle.limits.proofs.Every.{first_of}
use Rattle.sound.specs.Range.{out_ok}
use Rattle.sound.proofs.levels.Laws.{whole-number}
use Rattle.sound.proofs.range.Laws.{out-in, size-most}
use Rattle.sound.proofs.range.level_ok.Goals as goal

pub float_to_bits-size : goal.float_to_bits-size
float_to_bits-size c = (out-in c.args.signed false c.args.x (sym c.out_ok.ensures ∙ c.if-not-out_ok.false)).number

pub whole_part-requires : goal.whole_part-requires
unfolding out_ok
whole_part-requires c = size-most c.args.signed _ (first_of _ _ (sym c.out_ok.ensures ∙ c.if-not-out_ok.false)).1

pub float_to_bits-result : goal.float_to_bits-result
float_to_bits-result c = whole-number (pos c.whole_part.result) (omega (arith, c.whole_part.ensures.1))
