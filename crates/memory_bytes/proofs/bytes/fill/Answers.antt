-- The bytes end in the region, and the region in the arena.
use native.Mathlib.Omega.{arith}
use Rattle.memory_bytes.proofs.Laws.Bytes.{region-backed}
use Rattle.memory_bytes.specs.Bytes.{fill_region}
use Rattle.memory_bytes.proofs.bytes.fill.Goals as goal

pub overlay-requires : goal.overlay-requires
overlay-requires c = rw c.region.ensures.0
    (omega (arith, c.requires.1, region-backed c.args.m c.args.arena.now c.requires.0 c.args.src))

pub returns : goal.returns
unfolding fill_region
returns c = rw (c.overlay.ensures, c.region.ensures.0)
