-- `get_pages` meets its contract: eight entries after eight.
use Rattle.std.proofs.Common.{◌/◌, length}
use Rattle.image_read.proofs.pages.Laws.{PagesRead}
use Rattle.image_read.proofs.pages.get_pages.Given as goal

abbrev pub invariant-loop-k : goal.invariant-loop-k
invariant-loop-k l = PagesRead (length l.initial.pages / 8) l.at l.img l.pages l.k
