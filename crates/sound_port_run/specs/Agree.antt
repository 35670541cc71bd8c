-- S10: bytes beside what `read_register` gives.
use Rattle.std.specs.Prelude.{ℕ, ◌+◌, cond, List, [], ◌∷◌, eqb}
use Rattle.sound.specs.declared.audio.Audio.{Audio}
use Rattle.sound.specs.Registers.{read_of}

-- how many bytes are those of as many calls
unfoldable pub agree : List ℕ → Audio → ℕ
agree [] a = 0
agree (b ∷ s) a = cond (eqb (read_of a 0x4800).byte b) 1 0 + agree s (read_of a 0x4800).audio
