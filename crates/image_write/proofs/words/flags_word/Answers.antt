-- `flags_word` meets its contract: flag after flag.
use Rattle.std.proofs.Common.{ℕ, false, ◌+◌, ◌*◌, ◌≡◌, length, sym, ap, ◌∙◌, arith, rules, get_or}
use lib.Seq.{take_all}
use Rattle.bits.specs.Fields.{pack, bit}
use Rattle.image_write.proofs.Parts.{flags-more, doubled, below-12, bit-is, bit-small}
use Rattle.image_write.proofs.words.flags_word.Goals as goal

pub loop-flag-init : goal.loop-flag-init
unfolding pack
loop-flag-init c = (omega arith, omega arith)

pub overflow_mul-word : goal.overflow_mul-word
overflow_mul-word c = omega (arith, below-12 c.loop-flag.word c.loop-flag.flag-index c.loop-flag.invariant.1 (omega arith))

pub overflow_add-word : goal.overflow_add-word
overflow_add-word c = omega (arith, bit-small, below-12 c.loop-flag.word c.loop-flag.flag-index c.loop-flag.invariant.1 (omega arith))

pub loop-flag-preserved : goal.loop-flag-preserved
loop-flag-preserved c =
    let b = c.from.ensures ∙ bit-is (get_or c.args.flags.now c.loop-flag.flag-index false) in (
      ap (λ (x : ℕ). c.loop-flag.word * 2 + x) b
          ∙ ap (λ (x : ℕ). x * 2 + bit (get_or c.args.flags.now c.loop-flag.flag-index false)) c.loop-flag.invariant.0
          ∙ sym (flags-more c.args.flags.now c.loop-flag.flag-index (omega arith)),
      doubled c.loop-flag.word c.from.result c.loop-flag.flag-index c.loop-flag.invariant.1 (rw c.from.ensures (bit-small _)),
    )

pub returns : goal.returns
returns c =
    let l : length c.args.flags.now ≡ 12 = search rules in
    let e : c.loop-flag.flag-index ≡ 12 = omega arith in
    (rw (e, take_all 12 c.args.flags.now (omega arith)) at c.loop-flag.invariant.0, rw e at c.loop-flag.invariant.1)
