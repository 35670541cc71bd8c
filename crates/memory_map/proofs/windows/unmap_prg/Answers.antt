-- Each entry of the window.
use borrow.Author.Rules.{rules}
use Prim.Native.Nat.{ℕ}
use Rattle.memory.specs.declared.page.Page.{Page}
use Rattle.memory.specs.Page.{unmapped}
use Rattle.memory_map.specs.Windows.{unmap_pages, unmap_prg}
use Rattle.memory_map.proofs.windows.unmap_prg.Goals as goal

pub returns : goal.returns
unfolding unmap_prg unmap_pages
returns c =
    let step : ℕ → Page → Page = λ i old. unmapped in
    (rw (c.each_page.ensures step (λ i old new h e. search rules), c.from.ensures), record { layout = c.requires.layout; used = c.requires.used })
