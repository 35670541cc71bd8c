-- The rest decides.
use Rattle.std.proofs.Common.{◌≡◌, true, length}
use Rattle.directory.specs.Fit.{any, sound}
use Rattle.directory.specs.Drop.{gone}
use Rattle.directory.proofs.drops.some_goes.Given as goal

abbrev pub invariant-loop-w : goal.invariant-loop-w
invariant-loop-w l = (sound l.rest ≡ true) × (any (gone l.touched) l.rest ≡ any (gone l.touched) l.d)

abbrev pub decreases-loop-w : goal.decreases-loop-w
decreases-loop-w l = length l.rest
