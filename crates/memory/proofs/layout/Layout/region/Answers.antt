-- The place is the callee's, and the region lies in the arena.
use Rattle.memory.proofs.Laws.Layout.{bounded}
use Rattle.memory.specs.Layout.{region_of}
use Rattle.memory.proofs.layout.Layout.region.Goals.{in-PrgRom, in-PrgRam, in-BatteryExt, in-Chr, in-CiRam}
use Rattle.memory.proofs.layout.Layout.region.Goals as goal

pub returns : goal.returns
unfolding region_of
returns c = bounded c.args.self c.args.battery_ext_len c.args.src _ c.requires.0 c.requires.1 (elim c.match-src.branch [
  | in-PrgRom w ↦ rw (c.first_page.ensures.0, w.in-PrgRom.is, w.len-is)
  | in-PrgRam w ↦ rw (c.first_page.ensures.0, w.in-PrgRam.is, w.len-is)
  | in-BatteryExt w ↦ rw (c.first_page.ensures.0, w.in-BatteryExt.is, w.len-is)
  | in-Chr w ↦ rw (c.first_page.ensures.0, w.in-Chr.is, w.len-is)
  | in-CiRam w ↦ rw (c.first_page.ensures.0, w.in-CiRam.is, w.len-is)
])
