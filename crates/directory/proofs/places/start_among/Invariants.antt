-- The places so far.
use Rattle.std.proofs.Common.{◌≡◌, eqb, take}
use Rattle.directory.specs.Block.{start_of}
use Rattle.directory.specs.Fit.{any}
use Rattle.directory.proofs.places.start_among.Given as goal

abbrev pub invariant-loop-w : goal.invariant-loop-w
invariant-loop-w l = l.found ≡ any (λ w. eqb (start_of w) l.start) (take l.w-index l.eight)
