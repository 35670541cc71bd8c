-- The sums so far, and those of the bytes that are left, are the sums of all.
use Rattle.std.proofs.Common.{ℕ, ◌+◌, ◌%◌, ◌*◌, ◌≡◌, ◌<◌, ◌≤◌, List, length, get_or, drop, sym, ◌∙◌, drop_of_length-le}
use Rattle.std.proofs.lemmas.List.{drop_more}
use Rattle.replay_text.specs.Adler.{sums_from}
use Rattle.replay_text.proofs.adler.adler32.Goals as goal

sums-next : (a b : ℕ) (l : List ℕ) (i : ℕ) → i < length l
    → sums_from a b (drop i l) ≡ sums_from ((a + get_or l i 0) % 65521) ((b + (a + get_or l i 0) % 65521) % 65521) (drop (i + 1) l)
unfolding sums_from
sums-next a b l i h = rw (drop_more l i 0 h)

sums-end : (a b : ℕ) (l : List ℕ) (i : ℕ) → length l ≤ i → sums_from a b (drop i l) ≡ b * 65536 + a
unfolding sums_from
sums-end a b l i h = rw (drop_of_length-le l h)

pub loop-b-preserved : goal.loop-b-preserved
loop-b-preserved c = (
  c.reduced-low.ensures.1,
  c.reduced-high.ensures.1,
  rw (c.reduced-high.ensures.0, c.reduced-low.ensures.0, c.from.ensures)
      (sym (sums-next c.loop-b.low c.loop-b.high c.args.bytes.now c.loop-b.b-index c.loop-b-test.true) ∙ c.loop-b.invariant.2),
)

pub returns : goal.returns
returns c = sym (sums-end c.loop-b.low c.loop-b.high c.args.bytes.now c.loop-b.b-index c.loop-b-test.false) ∙ c.loop-b.invariant.2
