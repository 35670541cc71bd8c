-- C11: an accepted load leaves a fresh state, and zeros as many as the layout has bytes.
use mathlib.Core.Path.{◌≡◌}
use native.Mathlib.Omega.{arith}
use borrow.Author.Tests.{not-false, eqb-true}
use lib.Dec.{eqb}
use lib.ListN.{length}
use Rattle.memory.specs.Layout.{layout_of, arena_len}
use Rattle.call_load.specs.Cartridge.{load_answer, load_arena}
use Rattle.call_refusals.specs.Refusals.{load_checks}
use Rattle.call_refusals.proofs.Laws.{accepted-none}
use Rattle.thm_machine.specs.Start.{Loaded, loaded, zeroed}

long : (l : Loaded) → length l.arena ≡ arena_len (layout_of l.sizes)
long l =
    let h = accepted-none (load_checks l.mapper l.sizes (length l.arena))
    (omega arith, (omega arith, (omega arith, (omega arith, tt)))) l.accepted in
    eqb-true (length l.arena) (arena_len (layout_of l.sizes))
    (not-false (eqb (length l.arena) (arena_len (layout_of l.sizes))) h.1.1.1.0)

pub load-starts : (l : Loaded) → loaded l ≡ zeroed l
unfolding load_answer load_arena
load-starts l = rw (l.accepted, long l)
