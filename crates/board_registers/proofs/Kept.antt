-- L11: a write to 6000..7FFF sets the flag alone.
use mathlib.Core.Path.{◌≡◌, refl}
use mathlib.Core.Bool.{Bool, true, false, and-false}
use Rattle.board_chip.specs.declared.namco163.Namco163.{Namco163}
use Rattle.board_chip.specs.Namco163.{is340, with_written}
use Rattle.board_chip.specs.Detection.{may_change, maybe_set_board}
use Rattle.board_registers.specs.Writes.{write_work_ram}

-- L10: the step from a 340 to Unknown is always refused
pub never-unknown : (n : Namco163) → write_work_ram n ≡ with_written n true
unfolding write_work_ram maybe_set_board may_change
never-unknown n = go (is340 n.board) refl
  where
    go : (t : Bool) → is340 n.board ≡ t → write_work_ram n ≡ with_written n true
    go true e = rw (e, and-false n.auto_detect_board)
    go false e = rw e
