-- Hexadecimal digits: a call may have small letters or capitals, an answer has capitals.
use Rattle.std.specs.Prelude.{ℕ, ◌+◌, ◌-◌, ◌*◌, ◌/◌, ◌%◌, cond, List, [], ◌∷◌, ◌++◌, eqb, ltb, leb, length, drop, Option, Some, None}
use Rattle.std.specs.List.{flat_map}
use Rattle.std.specs.Option.{option_map, option_and_then}

-- a digit's value: 0 to 9, A to F, a to f
unfoldable pub digit_of : ℕ → Option ℕ
digit_of b =
    cond (ltb b 48) None
    (cond (leb b 57) (Some (b - 48))
    (cond (ltb b 65) None
    (cond (leb b 70) (Some (b - 65 + 10)) (cond (ltb b 97) None (cond (leb b 102) (Some (b - 97 + 10)) None)))))

-- the digit of a number below 16, in upper case
abbrev pub glyph_of : ℕ → ℕ
glyph_of d = cond (ltb d 10) (48 + d) (55 + d)

-- the digits of a byte, of bytes, and of wider numbers, high half first
abbrev pub hex8 : ℕ → List ℕ
hex8 n = glyph_of (n / 16) ∷ glyph_of (n % 16) ∷ []

abbrev pub hex_of : List ℕ → List ℕ
hex_of = flat_map hex8

abbrev pub hex16 : ℕ → List ℕ
hex16 n = hex8 (n / 256) ++ hex8 (n % 256)

abbrev pub hex32 : ℕ → List ℕ
hex32 n = hex16 (n / 65536) ++ hex16 (n % 65536)

abbrev pub hex64 : ℕ → List ℕ
hex64 n = hex32 (n / 4294967296) ++ hex32 (n % 4294967296)

-- the byte that two digits name, high digit first
abbrev pub pair_of : ℕ → ℕ → Option ℕ
pair_of h l = option_and_then (λ high. option_map (λ low. 16 * high + low) (digit_of l)) (digit_of h)

-- a byte, if there is one, and then those of s
abbrev pub before : Option ℕ → List ℕ → List ℕ
before None s = []
before (Some b) s = b ∷ s

-- the bytes that pairs of digits name, up to the first pair that has another byte
unfoldable pub pairs : List ℕ → List ℕ
pairs [] = []
pairs (h ∷ []) = []
pairs (h ∷ l ∷ s) = before (pair_of h l) (pairs s)

-- whether they come in pairs, for whose bytes the buffer has room
abbrev pub halves : {A : Type 0} → List ℕ → List ℕ → A → A → A
halves digits buffer good bad = cond (eqb (length digits % 2) 1) bad (cond (ltb (length buffer) (length digits / 2)) bad good)

-- how many bytes they name: none where a byte is no digit, one is over, or the buffer is too short
unfoldable pub decoded_of : List ℕ → List ℕ → Option ℕ
decoded_of digits buffer =
    halves digits buffer (cond (eqb (length (pairs digits)) (length digits / 2)) (Some (length digits / 2)) None) None

-- the buffer afterwards: the bytes at its start, also those before a byte that is no digit
unfoldable pub decoded_to : List ℕ → List ℕ → List ℕ
decoded_to digits buffer = halves digits buffer (pairs digits ++ drop (length (pairs digits)) buffer) buffer
