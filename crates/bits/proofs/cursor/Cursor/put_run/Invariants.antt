-- `bits::cursor::Cursor::put_run` meets its contract: field after field.
use Rattle.std.proofs.Common.{◌≡◌, length, take, replicate}
use Rattle.bits.specs.Cursor.{Wrote}
use Rattle.bits.proofs.cursor.Cursor.put_run.Given as goal

abbrev pub invariant-loop-x : goal.invariant-loop-x
invariant-loop-x l =
    (length l.img ≡ length l.initial.img)
    × Wrote l.initial.img l.img l.initial.self l.self (replicate l.x-index l.width) (take l.x-index l.xs)
