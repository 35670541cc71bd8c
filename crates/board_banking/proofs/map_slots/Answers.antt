-- The slots before this one are mapped.
use mathlib.Core.Path.{◌≡◌, refl}
use native.Mathlib.Omega.{arith}
use Rattle.board_banking.specs.Banking.{map_slots}
use Rattle.board_banking.proofs.Slots.{slot-more}
use Rattle.board_banking.proofs.map_slots.Goals as goal

pub loop-slot-init : goal.loop-slot-init
unfolding map_slots
loop-slot-init c = refl

pub loop-slot-preserved : goal.loop-slot-preserved
loop-slot-preserved c = rw (c.slot_pages.ensures, c.from-i.ensures)
    (slot-more c.args.chip.now c.loop-slot.slot c.args.m.now c.loop-slot.pages _ _ _ c.region-chr.ensures.0
    c.region-nametables.ensures.0 (rw c.from-i.ensures at c.slot_region-region.ensures.0) c.loop-slot.invariant)

pub returns : goal.returns
returns c = (
  let e : c.loop-slot.slot ≡ c.args.n = omega arith in rw e at c.loop-slot.invariant,
  record { layout = c.requires.0.layout; used = c.requires.0.used },
)
