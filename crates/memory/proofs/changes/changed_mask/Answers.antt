-- The mask of the test whether two entries differ.
use mathlib.Core.Path.{◌≡◌, sym, ◌∙◌}
use mathlib.Core.Bool.{Bool, not}
use Prim.Native.Nat.{ℕ, ◌+◌}
use native.Mathlib.Omega.{arith}
use borrow.Author.Rules.{rules}
use lib.ListN.{length, get_or}
use Rattle.memory.specs.Page.{unmapped}
use Rattle.memory.specs.Mask.{mask_from}
use Rattle.memory.specs.Changes.{same, changed}
use Rattle.memory.proofs.Laws.Changes.{changed-mask}
use Rattle.memory.proofs.changes.changed_mask.Goals as goal

pub returns : goal.returns
returns g c =
    let differs : ℕ → Bool = λ i. not (same (get_or c.args.old.now i unmapped) (get_or c.args.new.now i unmapped)) in
    let whole : mask_from differs 0 (length c.args.old.now) ≡ changed c.args.old.now c.args.new.now =
    changed-mask differs 0 _ _ (c.told-old ∙ sym c.told-new) (λ i h. let z : 0 + i ≡ i = omega arith in rw z) in
    c.mask_of.ensures differs (λ i b h e. search rules) ∙ rw c.told-old at whole
