-- The entries of the turns so far are what the step makes of them.
use Rattle.memory_map.proofs.Laws.Windows.{turned_none, turned-next}
use Rattle.memory_map.proofs.table.each_page.Goals as goal

pub loop-i-init : goal.loop-i-init
loop-i-init g c = λ f h. turned_none c.told-pages

pub loop-i-preserved : goal.loop-i-preserved
loop-i-preserved g c = λ f h. rw (h _ _ _ c.loop-i-test.true c.step.ensures) (turned-next (c.loop-i.invariant f h) c.loop-i-test.true)
