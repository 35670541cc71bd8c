-- The pass over the rest decides.
use Rattle.directory.proofs.Laws.Marks.{Passed}
use Rattle.directory.proofs.fitness.sound.Given as goal

abbrev pub invariant-loop-w : goal.invariant-loop-w
invariant-loop-w l = Passed l.d l.w-index l.seen
