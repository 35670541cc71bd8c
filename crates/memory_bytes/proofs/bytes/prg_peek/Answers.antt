-- The entry's page lies in the arena.
use native.Mathlib.Omega.{arith}
use Prim.Native.Nat.{◌/◌}
use Rattle.memory_bytes.proofs.Laws.Bytes.{prg-page}
use Rattle.memory_bytes.proofs.bytes.prg_peek.Goals as goal

pub bounds-arena-shown_at : goal.bounds-arena-shown_at
bounds-arena-shown_at c =
    rw (c.shown_at.ensures.0, c.prg_entry.ensures)
    (omega (arith, prg-page c.args.m c.args.arena.now c.requires (c.args.addr / 1024) (omega arith)))
