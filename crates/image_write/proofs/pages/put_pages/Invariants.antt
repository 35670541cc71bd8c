-- `put_pages` meets its contract: eight entries after eight.
use Rattle.std.proofs.Common.{◌/◌, length}
use Rattle.image_write.proofs.pages.Laws.{PagesWrote}
use Rattle.image_write.proofs.pages.put_pages.Given as goal

abbrev pub invariant-loop-k : goal.invariant-loop-k
invariant-loop-k l = PagesWrote (length l.pages / 8) l.at l.initial.img l.pages l.img l.k
