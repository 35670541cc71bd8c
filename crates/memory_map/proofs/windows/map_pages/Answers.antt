-- The entries of the window show the pages from the bank's first on.
use native.Mathlib.Omega.{arith}
use Prim.Native.Nat.{ℕ, ◌+◌, ◌*◌}
use mir.Facts.{to_z-of_z}
use Rattle.memory.specs.declared.page.Page.{Page}
use Rattle.memory_map.proofs.Laws.Windows.{base-window}
use Rattle.memory_map.specs.Windows.{region_page, map_pages, show_pages}
use Rattle.memory_map.proofs.windows.map_pages.Goals as goal

pub each_page-requires : goal.each_page-requires
each_page-requires g c = (omega arith, (omega arith, (omega arith, λ i p h. (omega arith, omega (arith, base-window)))))

pub returns : goal.returns
unfolding map_pages show_pages
returns g c =
    let step : ℕ → Page → Page = λ i old. region_page c.args.region (c.window_base-base.result + 1024 * i) in
    rw (c.each_page.ensures step (λ i old new h e. e.1), c.window_base-base.ensures.0, to_z-of_z c.ranges.bank, c.from.ensures)
