-- The entry's page lies in the arena.
use native.Mathlib.Omega.{arith}
use mathlib.Core.Path.{ap, ◌∙◌}
use Rattle.memory.specs.declared.page.Page.{Page}
use Rattle.memory_bytes.specs.Bytes.{stored_at}
use Rattle.memory_bytes.proofs.Laws.Bytes.{placed, prg-stored}
use Rattle.memory_bytes.proofs.bytes.prg_write.Goals as goal

pub store-requires : goal.store-requires
store-requires c =
    placed _ _ _ (c.stored_at.ensures ∙ ap (λ (p : Page). stored_at p c.args.addr) c.prg_entry.ensures)
    (prg-stored c.args.m c.args.arena.now c.args.addr c.requires (omega arith))

pub returns : goal.returns
returns c = rw (c.store.ensures, c.stored_at.ensures, c.prg_entry.ensures)
