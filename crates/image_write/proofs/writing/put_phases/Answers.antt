-- `put_phases` meets its contract: phases in range fit their width.
use Rattle.std.proofs.Common.{length, refl}
use Rattle.bits.specs.Fields.{total}
use Rattle.image_write.specs.Sections.{phases_at, prg_pages_at}
use Rattle.image_write.proofs.Parts.{wrote-to, byte-held, fit-replicate}
use native.Mathlib.Omega.{arith}
use Rattle.image_write.proofs.writing.put_phases.Goals as goal

pub put_run-requires : goal.put_run-requires
put_run-requires c = rw c.at_byte.ensures (record {
  held = byte-held phases_at;
  width_bound = (
    omega arith,
    fit-replicate (length c.args.phases.now) 24 c.args.phases.now refl (λ i h. c.requires i),
    omega arith,
  );
})

pub returns : goal.returns
unfolding total
returns c = wrote-to _ _ phases_at prg_pages_at _ _ _ (omega arith) (rw (c.at_byte.ensures, c.told-phases) at c.put_run.ensures)
