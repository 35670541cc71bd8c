-- The nametables are the last eight entries.
use native.Mathlib.Omega.{arith}
use Prim.Native.Nat.{ℕ, ◌%◌}
use lib.ListN.{get_or}
use Rattle.memory.specs.declared.page.Page.{Page}
use Rattle.memory.specs.Layout.{region_of}
use Rattle.memory_map.specs.Mirroring.{nametable_page, mirror_pages, set_mirroring}
use Rattle.memory_map.proofs.mirroring.set_mirroring.Goals as goal

pub each_page-requires : goal.each_page-requires
unfolding region_of
each_page-requires c =
    (omega arith, (omega arith, (omega arith, λ i p h. (omega arith, rw c.region-ciram.ensures.0 (omega arith)))))

pub returns : goal.returns
unfolding set_mirroring mirror_pages
returns c =
    let step : ℕ → Page → Page = λ i old. nametable_page c.region-ciram.result (get_or c.ciram_banks-banks.result (i % 4) 0) in (
      rw (c.each_page.ensures step (λ i old new h e. e.1), c.ciram_banks-banks.ensures, c.region-ciram.ensures.0),
      record { layout = c.requires.layout; used = c.requires.used },
    )
