-- Each entry of the window.
use borrow.Author.Rules.{rules}
use Prim.Native.Nat.{ℕ}
use Rattle.memory.specs.declared.page.Page.{Page}
use Rattle.memory_map.specs.Windows.{with_flag, set_writable, set_prg_writable}
use Rattle.memory_map.proofs.windows.set_prg_writable.Goals as goal

pub returns : goal.returns
unfolding set_prg_writable set_writable
returns c =
    let step : ℕ → Page → Page = λ i old. with_flag c.args.writable old in
    (rw (c.each_page.ensures step (λ i old new h e. search rules), c.from.ensures), record { layout = c.requires.layout; used = c.requires.used })
