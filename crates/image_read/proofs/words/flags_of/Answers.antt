-- `flags_of` meets its contract: each flag is a field of one bit.
use Rattle.std.proofs.Common.{ℕ, ◌-◌, ◌/◌, ◌%◌, ◌^◌, false, refl, ◌∙◌, rules}
use Rattle.bits.specs.Fields.{unpack, total}
use Rattle.image_read.specs.Reading.{is_set}
use Rattle.image_read.proofs.Arrays.{made_is}
use Rattle.image_read.proofs.words.flags_of.Goals as goal

pub returns : goal.returns
unfolding unpack total
returns c = made_is c.from_fn.ensures.items false (λ (j : ℕ). is_set (c.args.w / 2 ^ (11 - j) % 2)) (λ j y q k. search rules) ∙ refl
