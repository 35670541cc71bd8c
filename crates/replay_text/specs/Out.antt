-- Bytes that are put one after the other, up to a room. What no longer fits is left out.
use Rattle.std.specs.Prelude.{ℕ, cond, List, [], ◌∷◌, ◌++◌, ltb, length}

-- the bytes so far, and how many there may be
pub record Put : Type 0 where
  pub bytes : List ℕ
  pub room : ℕ

-- no byte so far
abbrev pub put_none : ℕ → Put
put_none room = record { bytes = []; room = room }

-- one byte put: past the room nothing is stored
unfoldable pub put_one : Put → ℕ → Put
put_one p b = record { bytes = cond (ltb (length p.bytes) p.room) (p.bytes ++ b ∷ []) p.bytes; room = p.room }

-- bytes put one after the other
unfoldable pub put_all : Put → List ℕ → Put
put_all p [] = p
put_all p (b ∷ s) = put_all (put_one p b) s
