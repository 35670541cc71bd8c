-- After i places what is carried is put into the rest.
use Rattle.directory.proofs.Laws.Put.{Putting}
use Rattle.directory.proofs.places.put.Given as goal

abbrev pub invariant-loop-place : goal.invariant-loop-place
invariant-loop-place l = Putting l.word l.initial.d l.carried l.place-index l.d
