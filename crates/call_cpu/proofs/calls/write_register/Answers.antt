-- `write_register` meets its contract: the tables are mapped anew, or stay.
use Rattle.call_cpu.specs.Calls.{write_register}
use Rattle.call_cpu.proofs.calls.write_register.Goals as goal

pub returns-then-remaps_in : goal.returns-then-remaps_in
unfolding write_register
returns-then-remaps_in c = rw (c.remap_banks-memory.ensures, ← c.write_register-chip.ensures, ← c.remaps_in.ensures, c.if-remaps_in.true)

pub returns : goal.returns
unfolding write_register
returns c = rw (← c.write_register-chip.ensures, ← c.remaps_in.ensures, c.if-remaps_in.false)
