-- The table is the callee's.
use mir.Facts.{to_z-of_z}
use Rattle.memory_map.specs.Windows.{map_prg}
use Rattle.memory_map.proofs.windows.map_prg.Goals as goal

pub returns : goal.returns
unfolding map_prg
returns c = (
  rw (c.map_pages.ensures, to_z-of_z c.ranges.bank, c.region-region.ensures.0),
  record { layout = c.requires.0.layout; used = c.requires.0.used },
)
