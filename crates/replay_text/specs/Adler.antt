-- RFC 1950, 8.2: s1 begins at 1 and adds each byte, s2 begins at 0 and adds each new s1, both modulo 65521. The checksum is s2*65536 + s1.
use Rattle.std.specs.Prelude.{ℕ, ◌+◌, ◌*◌, ◌%◌, List, [], ◌∷◌}

-- the checksum of the bytes that follow those of the sums s1 and s2
unfoldable pub sums_from : ℕ → ℕ → List ℕ → ℕ
sums_from s1 s2 [] = s2 * 65536 + s1
sums_from s1 s2 (b ∷ s) = sums_from ((s1 + b) % 65521) ((s2 + (s1 + b) % 65521) % 65521) s

-- the Adler-32 checksum
abbrev pub adler : List ℕ → ℕ
adler bytes = sums_from 1 0 bytes
