-- The slots before this one are mapped.
use mathlib.Core.Path.{◌≡◌}
use Rattle.memory.specs.Memory.{with_chr_pages}
use Rattle.board_banking.specs.Banking.{map_slots}
use Rattle.board_banking.proofs.map_slots.Given as goal

abbrev pub invariant-loop-slot : goal.invariant-loop-slot
invariant-loop-slot l = with_chr_pages l.fn.m l.pages ≡ map_slots l.chip l.slot l.fn.m
