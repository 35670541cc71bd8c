-- `bits::cursor::Cursor::get_bytes` meets its contract.
use native.Mathlib.Omega.{arith}
use lib.ListN.{length}
use Rattle.bits.proofs.cursor.Laws.{bytes_read}
use Rattle.bits.proofs.cursor.Cursor.get_bytes.Goals as goal

pub returns : goal.returns
returns c = bytes_read c.args.img.now c.args.self.now _ c.copy_from.new.xs (length c.args.xs.now) c.requires.0 c.requires.1
    c.requires.2 (λ i. (c.type_inv.img i).fits) c.copy_from.ensures c.requires.0 c.requires.1 (omega arith)
