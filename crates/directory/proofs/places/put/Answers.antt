-- After i places what is carried is put into the rest.
use Rattle.std.proofs.Common.{◌≡◌, min, max, slice_index, arith, rules}
use Rattle.directory.proofs.Laws.Put.{putting-none, putting-next, putting-free, putting-end}
use Rattle.directory.proofs.places.put.Goals as goal

pub loop-place-init : goal.loop-place-init
loop-place-init c = putting-none c.args.word c.args.d.now

pub returns-then-w-eq0 : goal.returns-then-w-eq0
returns-then-w-eq0 c = putting-free c.loop-place.invariant (omega arith) c.if-w-eq0.true

pub loop-place-preserved : goal.loop-place-preserved
loop-place-preserved c =
    let l : c.min.result ≡ min c.loop-place.carried (slice_index c.loop-place.d c.loop-place.place-index) = search rules in
    let h : c.max-carried.result ≡ max c.loop-place.carried (slice_index c.loop-place.d c.loop-place.place-index) = search rules in
    rw (l, h) (putting-next c.loop-place.invariant (omega arith) c.if-w-eq0.false)

pub returns : goal.returns
returns c = putting-end c.loop-place.invariant (omega arith)
