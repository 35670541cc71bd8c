-- After i places: the blocks that stay, free places, and the rest.
use Rattle.directory.proofs.Laws.Drop.{Packed}
use Rattle.directory.proofs.drops.take_out.Given as goal

abbrev pub invariant-loop-i : goal.invariant-loop-i
invariant-loop-i l = Packed l.touched l.initial.d l.j l.i l.d
