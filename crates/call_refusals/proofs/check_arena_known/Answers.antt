-- `check_arena_known` meets its contract.
use borrow.Author.Tests.{eq-eqb, ne_eqb}
use Rattle.board_state.proofs.Range.{memory-good}
use Rattle.call_refusals.specs.Refusals.{first_of}
use Rattle.call_refusals.proofs.check_arena_known.Goals as goal

pub arena_len-requires : goal.arena_len-requires
arena_len-requires c = (memory-good _ c.args.s.in_range).ranged.sized.layout

pub returns-then-len-arena_len : goal.returns-then-len-arena_len
unfolding first_of
returns-then-len-arena_len c = rw (c.args.s.in_range, ← c.arena_len.ensures.0, ne_eqb _ _ c.if-len-arena_len.true)

pub returns : goal.returns
unfolding first_of
returns c = rw (c.args.s.in_range, ← c.arena_len.ensures.0, eq-eqb _ _ c.if-len-arena_len.false)
