-- `sram` meets its contract: refused, and accepted.
use Rattle.refusals.proofs.Numbers.{errs}
use Rattle.board_state.proofs.Range.{memory-good}
use Rattle.call_refusals.specs.Refusals.{first_of}
use Rattle.call_refusals.proofs.Laws.{known-range}
use Rattle.call_regions.specs.Regions.{sram_answer}
use Rattle.call_regions.proofs.sram.Goals as goal

pub returns-in_err-known : goal.returns-in_err-known
unfolding sram_answer first_of
returns-in_err-known c = rw (errs _ _ c.from_residual.ensures.1, c.in_err-known.ensures.0, c.in_err-known.ensures.1)

pub sram-requires : goal.sram-requires
sram-requires c = (memory-good _ c.in_ok-known.known.in_range).ranged.sized

pub returns : goal.returns
unfolding sram_answer first_of
returns c = rw (known-range c.in_ok-known.known c.in_ok-known.ensures, c.sram.ensures, c.in_ok-known.ensures)
