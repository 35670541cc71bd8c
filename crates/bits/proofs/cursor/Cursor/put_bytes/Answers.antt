-- `bits::cursor::Cursor::put_bytes` meets its contract.
use mathlib.Core.Path.{refl}
use Rattle.bits.proofs.cursor.Laws.{bytes-wrote}
use Rattle.bits.proofs.cursor.Cursor.put_bytes.Goals as goal

pub returns : goal.returns
returns c = bytes-wrote c.args.img.now c.copy_to.new.img c.args.self.now _ c.args.xs.now c.requires.0 c.requires.1 c.requires.2
    c.copy_to.ensures c.requires.0 c.requires.1 refl
