-- `chip_of` meets its contract: the last field of a word is its lowest bits.
use Rattle.bits.specs.Fields.{total, unpack}
use native.Mathlib.Nat.{div-one}
use Rattle.image_read.proofs.reading.chip_of.Goals as goal

pub returns : goal.returns
unfolding unpack total
returns c = rw (
  c.regs_of.ensures,
  c.board_numbered.ensures,
  c.mirroring_numbered.ensures,
  c.flags_of.ensures,
  c.chr_banks_of.ensures,
  c.prg_banks_of.ensures,
  div-one c.args.h.regs,
  div-one c.args.h.detection,
)
