-- The entries of the turns so far are what the step makes of them.
use Prim.Native.Nat.{ℕ}
use Rattle.memory.specs.declared.page.Page.{Page}
use Rattle.memory_map.specs.Windows.{StepIs}
use Rattle.memory_map.proofs.Laws.Windows.{Turned}
use Rattle.memory_map.proofs.table.each_page.Given as goal

abbrev pub invariant-loop-i : goal.invariant-loop-i
invariant-loop-i g l =
    (f : ℕ → Page → Page) → StepIs (goal.F-post g l.step) f l.count → Turned g.row.N f l.slot l.count l.initial.pages l.i l.pages
