-- The places so far, and what follows of those behind them; the last start is of 16 bits.
use Rattle.std.proofs.Common.{◌<◌, take}
use Rattle.directory.proofs.Laws.Eights.{Rising}
use Rattle.directory.proofs.order.climb.Given as goal

abbrev pub invariant-loop-w : goal.invariant-loop-w
invariant-loop-w l = (l.last < 0x10000) × Rising l.s (take l.w-index l.eight) l.up l.last l.far
