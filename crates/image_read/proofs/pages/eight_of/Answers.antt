-- `eight_of` meets its contract: an entry has 11 bits.
use mathlib.Core.Path.{refl, ◌∙◌}
use mathlib.Core.List.{[], ◌∷◌}
use Rattle.image_read.proofs.pages.Laws.{eight-pages}
use Rattle.image_read.proofs.pages.eight_of.Goals as goal

pub returns : goal.returns
returns c = (
  (λ j. c.page_of-p.ensures j
      ∷ c.page_of-q.ensures j
      ∷ c.page_of-r.ensures j
      ∷ c.page_of-s.ensures j
      ∷ c.page_of-t.ensures j
      ∷ c.page_of-u.ensures j
      ∷ c.page_of-v.ensures j
      ∷ c.page_of-x.ensures j
      ∷ [])
      ∙ eight-pages c.args.w c.requires.0 c.requires.1,
  refl,
)
