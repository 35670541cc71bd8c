-- The pages before the region, for either place of CHR.
use native.Mathlib.Omega.{arith}
use mathlib.Core.Bool.{true, false}
use Rattle.memory.specs.declared.layout.Src.TheVariants.{PrgRom, PrgRam, BatteryExt, Chr, CiRam}
use Rattle.memory.proofs.Laws.Layout.{first-at}
use Rattle.memory.proofs.layout.Layout.first_page.Goals.{then-self, else-self}
use Rattle.memory.proofs.layout.Layout.first_page.Goals as goal

pub returns-in-PrgRom : goal.returns-in-PrgRom
returns-in-PrgRom c = elim c.if-self.branch [
  | then-self w ↦ first-at _ true _ PrgRom _ c.requires w.if-self.true c.in-PrgRom.is (omega arith)
  | else-self w ↦ first-at _ false _ PrgRom _ c.requires w.if-self.false c.in-PrgRom.is (omega arith)
]

pub returns-in-PrgRam : goal.returns-in-PrgRam
returns-in-PrgRam c = elim c.if-self.branch [
  | then-self w ↦ first-at _ true _ PrgRam _ c.requires w.if-self.true c.in-PrgRam.is (rw w.ram-is)
  | else-self w ↦ first-at _ false _ PrgRam _ c.requires w.if-self.false c.in-PrgRam.is (rw w.ram-is)
]

pub returns-in-BatteryExt : goal.returns-in-BatteryExt
returns-in-BatteryExt c = elim c.if-self.branch [
  | then-self w ↦ first-at _ true _ BatteryExt _ c.requires w.if-self.true c.in-BatteryExt.is (rw w.ram-is)
  | else-self w ↦ first-at _ false _ BatteryExt _ c.requires w.if-self.false c.in-BatteryExt.is (rw w.ram-is)
]

pub returns-in-Chr : goal.returns-in-Chr
returns-in-Chr c = elim c.if-self.branch [
  | then-self w ↦ first-at _ true _ Chr _ c.requires w.if-self.true c.in-Chr.is (rw w.ram-is)
  | else-self w ↦ first-at _ false _ Chr _ c.requires w.if-self.false c.in-Chr.is (rw w.ram-is)
]

pub returns-in-CiRam : goal.returns-in-CiRam
returns-in-CiRam c = elim c.if-self.branch [
  | then-self w ↦ first-at _ true _ CiRam _ c.requires w.if-self.true c.in-CiRam.is (omega arith)
  | else-self w ↦ first-at _ false _ CiRam _ c.requires w.if-self.false c.in-CiRam.is (omega arith)
]
