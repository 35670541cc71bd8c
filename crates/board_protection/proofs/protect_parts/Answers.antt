-- The eight entries of 6000..7FFF.
use Prim.Native.Nat.{ℕ, ◌/◌}
use Rattle.memory.specs.declared.page.Page.{Page}
use Rattle.memory_map.specs.Windows.{with_flag}
use Rattle.board_protection.specs.Protection.{unprotected, protect_parts}
use Rattle.board_protection.proofs.protect_parts.Goals as goal

pub returns : goal.returns
unfolding protect_parts
returns c =
    let step : ℕ → Page → Page = λ i old. with_flag (unprotected c.args.protect (i / 2)) old in
    rw (c.each_page.ensures step (λ i old new h e. e.1))
