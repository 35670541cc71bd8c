-- `page_of` meets its contract.
use Prim.Native.Nat.{◌/◌}
use native.Mathlib.Nat.{mul_comm}
use Rattle.image_read.proofs.pages.page_of.Goals as goal

pub returns : goal.returns
returns c = rw (mul_comm 1024 (c.args.w / 2)) c.new.ensures
