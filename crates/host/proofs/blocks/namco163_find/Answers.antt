-- `namco163_find` meets its contract: length and number of the word that was found.
use native.Mathlib.Omega.{arith}
use Rattle.host.specs.Blocks.{host_find}
use Rattle.host.proofs.blocks.namco163_find.Goals as goal

pub returns : goal.returns
unfolding host_find
returns c = rw (c.found_word.ensures, c.from.ensures, c.find.ensures) (omega arith)
