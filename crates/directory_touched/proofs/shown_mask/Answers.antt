-- The mask of the test whether an entry shows the byte.
use mathlib.Core.Path.{◌≡◌, ◌∙◌}
use mathlib.Core.Bool.{Bool}
use Prim.Native.Nat.{ℕ, ◌+◌}
use native.Mathlib.Omega.{arith}
use borrow.Author.Rules.{rules}
use lib.ListN.{length, get_or}
use Rattle.memory.specs.Mask.{mask_from}
use Rattle.memory.specs.Page.{unmapped}
use Rattle.directory_touched.specs.Touched.{shows_byte, shown_mask}
use Rattle.directory_touched.proofs.Laws.{shown-mask}
use Rattle.directory_touched.proofs.shown_mask.Goals as goal

pub returns : goal.returns
returns c =
    let shows : ℕ → Bool = λ i. shows_byte (get_or c.args.pages i unmapped) c.args.byte in
    let e : length c.args.pages ≡ 64 = search rules in
    let whole : mask_from shows 0 (length c.args.pages) ≡ shown_mask c.args.pages c.args.byte =
    shown-mask shows 0 _ _ (λ i h. let z : 0 + i ≡ i = omega arith in rw z) in
    c.mask_of.ensures shows (λ i b h e. search rules) ∙ rw e at whole
