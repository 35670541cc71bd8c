-- Each option at its place, and the high bit below them.
use native.Mathlib.Omega.{arith}
use Rattle.bits.specs.Fields.{total, pack}
use Rattle.image_write.proofs.Parts.{bit-is}
use Rattle.image_write.proofs.words.options_byte.Goals as goal

pub returns : goal.returns
unfolding pack total
returns c =
    omega (
      arith,
      c.from.ensures,
      c.from-signed.ensures,
      c.from-plain.ensures,
      bit-is c.args.o.f800_protects,
      bit-is c.args.o.signed_levels,
      bit-is c.args.o.plain_sum,
    )
