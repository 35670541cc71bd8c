-- H1: bytes as one number, the most significant first, and back: fields of 8 bits.
use Rattle.std.specs.Prelude.{List, ℕ, length, replicate}
use Rattle.bits.specs.Fields.{pack, unpack}

-- the widths of n bytes
abbrev pub eights : ℕ → List ℕ
eights n = replicate n 8

-- a list of bytes as one number
abbrev pub word_of : List ℕ → ℕ
word_of bs = pack (eights (length bs)) bs

-- the k low bytes of a number
abbrev pub bytes_of : ℕ → ℕ → List ℕ
bytes_of k x = unpack (eights k) x
