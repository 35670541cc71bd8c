-- A layout within its limits has good page counts.
use mathlib.Core.Path.{sym, ◌∙◌}
use Rattle.memory.proofs.Laws.Layout.{layout-good}
use Rattle.replay_player.proofs.calls.arena_len.Goals as goal

pub arena_len-requires : goal.arena_len-requires
arena_len-requires c = rw c.new.ensures (layout-good c.args.sizes (sym c.within_limits.ensures ∙ c.if-within_limits.true))
