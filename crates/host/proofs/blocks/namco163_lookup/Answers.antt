-- `namco163_lookup` meets its contract: the parts of what the lookup found.
use Rattle.std.proofs.Common.{ap, ◌∙◌, arith}
use Rattle.refusals.proofs.Numbers.{passed-word}
use Rattle.host.specs.Blocks.{found_word, host_lookup}
use Rattle.host.proofs.blocks.namco163_lookup.Goals as goal

pub returns-in_err-block : goal.returns-in_err-block
unfolding host_lookup
returns-in_err-block c =
    passed-word _ _ c.from_residual.ensures.1 ∙ omega (arith, ap found_word c.in_err-block.ensures.value)

pub returns-in-Some : goal.returns-in-Some
unfolding host_lookup
returns-in-Some c = c.found_word.ensures ∙ ap found_word (rw c.in-Some.is at c.in_ok-block.ensures.value)

pub returns-in-None : goal.returns-in-None
unfolding host_lookup
returns-in-None c = ap found_word (rw c.in-None.is at c.in_ok-block.ensures.value)
