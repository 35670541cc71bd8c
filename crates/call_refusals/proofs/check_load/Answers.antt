-- `check_load` meets its contract, check by check.
use Rattle.std.specs.Prelude.{ℕ, ◌≡◌, true, false, cond, not, ◌&&◌, eqb}
use mathlib.Core.Path.{sym, ap, ◌∙◌}
use borrow.Author.Tests.{eq-eqb, ne_eqb}
use Rattle.memory.proofs.Laws.Layout.{layout-good}
use Rattle.memory.specs.Layout.{within_limits, layout_of, arena_len}
use Rattle.memory.specs.declared.layout.MemoryLayout.{MemoryLayout}
use Rattle.board_state.specs.State.{mapper_ok}
use Rattle.call_refusals.specs.Refusals.{first_of, load_checks}
use Rattle.call_refusals.proofs.check_load.Goals as goal

pub returns-then-not-mapper_ok : goal.returns-then-not-mapper_ok
unfolding first_of
returns-then-not-mapper_ok c = rw (← c.mapper_ok.ensures, c.if-not-mapper_ok.true)

pub returns-then-not-within_limits : goal.returns-then-not-within_limits
unfolding first_of
returns-then-not-within_limits c = rw (
  ← c.mapper_ok.ensures,
  c.if-not-mapper_ok.false,
  ← c.within_limits.ensures,
  c.if-not-within_limits.true,
)

pub returns-then-lacks_reserve : goal.returns-then-lacks_reserve
unfolding first_of
returns-then-lacks_reserve c = rw (
  ← c.mapper_ok.ensures,
  c.if-not-mapper_ok.false,
  ← c.within_limits.ensures,
  c.if-not-within_limits.false,
  ← c.lacks_reserve.ensures,
  c.if-lacks_reserve.true,
)

pub arena_len-requires : goal.arena_len-requires
arena_len-requires c = rw c.new.ensures (layout-good _ (sym c.within_limits.ensures ∙ c.if-not-within_limits.false))

-- past the first three checks, the arena's decides
last : (mapper : ℕ) (sizes : MemoryLayout) (len long : ℕ) → mapper_ok mapper ≡ true → within_limits sizes ≡ true
    → (eqb mapper 19 && eqb sizes.battery_ext 0) ≡ false → long ≡ arena_len (layout_of sizes)
    → first_of (load_checks mapper sizes len) ≡ cond (not (eqb len long)) 7 0
unfolding first_of
last mapper sizes len long m w r l = rw (m, w, r, l)

pub returns-then-len-arena_len : goal.returns-then-len-arena_len
returns-then-len-arena_len c =
    sym (last _ _ _ _ (sym c.mapper_ok.ensures ∙ c.if-not-mapper_ok.false) (sym c.within_limits.ensures ∙ c.if-not-within_limits.false)
    (sym c.lacks_reserve.ensures ∙ c.if-lacks_reserve.false) (c.arena_len.ensures.0 ∙ ap arena_len c.new.ensures)
    ∙ rw (ne_eqb _ _ c.if-len-arena_len.true))

pub returns : goal.returns
returns c =
    sym (last _ _ _ _ (sym c.mapper_ok.ensures ∙ c.if-not-mapper_ok.false) (sym c.within_limits.ensures ∙ c.if-not-within_limits.false)
    (sym c.lacks_reserve.ensures ∙ c.if-lacks_reserve.false) (c.arena_len.ensures.0 ∙ ap arena_len c.new.ensures)
    ∙ rw (eq-eqb _ _ c.if-len-arena_len.false))
