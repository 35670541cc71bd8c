-- `memory_ok` meets its contract: the layout first, since the entries are held to its arena.
use mathlib.Core.Path.{sym, ◌∙◌}
use Rattle.memory.specs.Range.{memory_ok}
use Rattle.memory.proofs.Laws.Range.{layout-in}
use Rattle.memory.proofs.range.memory_ok.Goals as goal

pub returns-then-not-layout_ok : goal.returns-then-not-layout_ok
unfolding memory_ok
returns-then-not-layout_ok c = rw (← c.layout_ok.ensures, c.if-not-layout_ok.true)

pub arena_len-bytes-requires : goal.arena_len-bytes-requires
arena_len-bytes-requires c = layout-in _ (sym c.layout_ok.ensures ∙ c.if-not-layout_ok.false)

pub returns : goal.returns
unfolding memory_ok
returns c = rw (
  ← c.layout_ok.ensures,
  c.if-not-layout_ok.false,
  ← c.used_ok.ensures,
  ← c.arena_len-bytes.ensures.0,
  ← c.table_ok.ensures,
  ← c.table_ok-2.ensures,
)
