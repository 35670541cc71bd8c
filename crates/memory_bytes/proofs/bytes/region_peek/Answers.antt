-- The region lies in the arena.
use mathlib.Core.Path.{ap, ◌∙◌}
use Rattle.memory.specs.declared.layout.Region.{Region}
use Rattle.memory_bytes.specs.Bytes.{wrapped_at}
use Rattle.memory_bytes.proofs.Laws.Bytes.{placed, region-stored}
use Rattle.memory_bytes.proofs.bytes.region_peek.Goals as goal

pub fetch-requires : goal.fetch-requires
fetch-requires c =
    placed _ _ _ (c.wrapped_at.ensures ∙ ap (λ (r : Region). wrapped_at r c.args.offset) c.region.ensures.0)
    (region-stored c.args.m c.args.arena.now c.args.src c.args.offset c.requires)

pub returns : goal.returns
returns c = rw (c.fetch.ensures, c.wrapped_at.ensures, c.region.ensures.0)
