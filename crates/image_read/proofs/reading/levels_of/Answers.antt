-- `levels_of` meets its contract: numbers below 4096 are floats exactly.
use Rattle.std.proofs.Common.{◌≡◌, ◌<◌, ℕ, length, get_or, subst, sym, ◌∙◌, arith, rules}
use Rattle.std.proofs.lemmas.Iterator.Adapters.{serves_from_places}
use Rattle.std.proofs.lemmas.Grind.{get_or_default_zero}
use Rattle.image_read.specs.Reading.{output_from}
use Rattle.image_read.proofs.Arrays.{list_road, mapped_is}
use Rattle.image_read.proofs.reading.levels_of.Goals as goal

pub map-requires : goal.map-requires
map-requires c =
    let small : (x k : ℕ) → k < length c.args.ns → x ≡ get_or c.args.ns k x → x < 4096 =
    λ x k l e. subst (λ (n : ℕ). n < 4096) (sym (e ∙ get_or_default_zero c.args.ns k x l)) (c.requires k) in (
      omega arith,
      (
        omega arith,
        (
          omega arith,
          serves_from_places (list_road c.args.ns) (λ x q r. search rules)
              (λ x k l e. let b = small x k l e in search rules),
        ),
      ),
    )

pub returns : goal.returns
returns c = mapped_is c.map.ensures.items (search rules) 0 (output_from c.args.signed) (λ x y q k. search rules)
