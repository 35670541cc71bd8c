-- C1: the IRQ counter's clock, the first half of the Rust's `clock`, by the numbers of crates/cut/specs/Counter.antt.
use Rattle.std.specs.Prelude.{true, cond}
use Rattle.cut.specs.Counter.{next_counter, rises_from}
use Rattle.board_chip.specs.declared.namco163.Regs.{Regs}
use Rattle.board_chip.specs.Namco163.{with_counter}

-- C1: the next counter, and the line, which a rise makes pending and a clock never clears
unfoldable pub clock_counter : Regs → Regs
clock_counter r = with_counter r (next_counter r.irq_counter) (cond (rises_from r.irq_counter) true r.irq_pending)
