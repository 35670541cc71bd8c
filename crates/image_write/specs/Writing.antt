-- Image writing: refused by N1 for the length, then by N2 for the state.
use Rattle.std.specs.Prelude.{ℕ, Bool, false, not, List, [], ◌∷◌, length}
use Rattle.board_state.specs.declared.State.{State}
use Rattle.call_refusals.specs.Refusals.{Check, first_of, unless_kept, state_check}
use Rattle.image_write.specs.Options.{image_at, option_set, room_for}

-- N1: the bytes do not hold an image in which a bit of the options is set, or none is
abbrev pub room_check : Bool → ℕ → Check
room_check set len = record { number = 1; holds = not (room_for set len) }

-- N1: the bytes are not as many as an image has, of either length
abbrev pub image_check : ℕ → Check
image_check len = room_check false len

-- N20: image writing is refused by 1, then 2
abbrev pub write_checks : State → ℕ → List Check
write_checks s len = room_check (option_set s) len ∷ state_check s ∷ []

-- N0: the refusal number of a write into a buffer of this length
unfoldable pub write_refusal : State → ℕ → ℕ
write_refusal s len = first_of (write_checks s len)

-- the buffer afterwards: the state's image at its length (H10), or as it was (N0)
unfoldable pub written_image : State → List ℕ → List ℕ
written_image s img = unless_kept (write_checks s (length img)) img (image_at (length img) s)
