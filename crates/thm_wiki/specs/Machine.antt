-- The wiki's machine: what it holds, and its steps. One for all three boards: it holds the value last written to each register, and what a
-- board shows of them is in Registers.antt. A 175 and a 340 have no counter and no sound (W13).
use Rattle.std.specs.Prelude.{ℕ, List}
use Rattle.thm_wiki.specs.Registers.{WikiRegs, no_regs, wiki_write}
use Rattle.thm_wiki.specs.Counter.{WikiIrq, no_irq, wiki_cycle, irq_write}
use Rattle.thm_wiki.specs.Sound.{WikiSound, no_sound, sound_cycle}
use Rattle.thm_wiki.specs.Port.{with_ram, sound_write, sound_read}

pub record Wiki : Type 0 where
  pub regs : WikiRegs
  pub irq : WikiIrq
  pub sound : WikiSound

abbrev pub fresh : Wiki
fresh = record { regs = no_regs; irq = no_irq; sound = no_sound }

-- a CPU write, a CPU read, a CPU cycle; and a battery that puts its bytes into the chip's RAM (W25)
pub data Act : Type 0 where
  write : ℕ → ℕ → Act
  read : ℕ → Act
  cycle : Act
  restore : List ℕ → Act

unfoldable pub step : Wiki → Act → Wiki
step w (write a v) =
    record { regs = wiki_write w.regs a v; irq = irq_write w.irq a v; sound = sound_write w.sound a v }
step w (read a) = record { regs = w.regs; irq = w.irq; sound = sound_read w.sound a }
step w cycle = record { regs = w.regs; irq = wiki_cycle w.irq; sound = sound_cycle w.sound }
step w (restore bytes) = record { regs = w.regs; irq = w.irq; sound = with_ram w.sound bytes }
