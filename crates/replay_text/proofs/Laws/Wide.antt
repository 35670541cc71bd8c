-- The digits of the bytes of a number, high byte first, are the digits of the number. Assumes nothing.
use Rattle.std.proofs.Common.{ℕ, zero, suc, ◌/◌, ◌%◌, ◌^◌, ◌≡◌, ◌<◌, List, [], ◌∷◌, ◌++◌, get_or, refl, ap, arith}
use Rattle.std.proofs.lemmas.Nat.{be_bytes_2, be_bytes_4, be_bytes_8}
use Rattle.std.specs.Int.{w16, w32, w64, to_be_bytes}
use Rattle.replay_text.specs.Hex.{hex_of, hex8, hex16, hex32, hex64}

abbrev AreBytes : List ℕ → Type 0
AreBytes s = (i : ℕ) → get_or s i 0 < 256

two-more : (a b : ℕ) (s : List ℕ) → a < 256 → b < 256 → AreBytes s → AreBytes (a ∷ b ∷ s)
two-more a b s p q r zero = p
two-more a b s p q r (suc zero) = q
two-more a b s p q r (suc (suc i)) = r i

-- two bytes of a number, and four
abbrev two : ℕ → List ℕ
two n = n / 256 ∷ n % 256 ∷ []

abbrev four : ℕ → List ℕ
four n = two (n / 65536) ++ two (n % 65536)

four-more : (n : ℕ) (s : List ℕ) → n < 2 ^ 32 → AreBytes s → AreBytes (four n ++ s)
four-more n s h r =
    two-more (n / 65536 / 256) (n / 65536 % 256) (two (n % 65536) ++ s) (omega arith) (omega arith)
    (two-more (n % 65536 / 256) (n % 65536 % 256) s (omega arith) (omega arith) r)

no-bytes : AreBytes []
no-bytes i = omega arith

pub digits8 : (n : ℕ) → hex_of (n ∷ []) ≡ hex8 n
digits8 n = refl

pub digits16 : (n : ℕ) → n < 2 ^ 16 → hex_of (to_be_bytes w16 n) ≡ hex16 n
digits16 n h = ap hex_of (be_bytes_2 (two n) n refl (two-more (n / 256) (n % 256) [] (omega arith) (omega arith) no-bytes) (omega arith))

pub digits32 : (n : ℕ) → n < 2 ^ 32 → hex_of (to_be_bytes w32 n) ≡ hex32 n
digits32 n h = ap hex_of (be_bytes_4 (four n) n refl (four-more n [] h no-bytes) (omega arith))

pub digits64 : (n : ℕ) → n < 2 ^ 64 → hex_of (to_be_bytes w64 n) ≡ hex64 n
digits64 n h = ap hex_of (be_bytes_8 (four (n / 4294967296) ++ four (n % 4294967296)) n refl
    (four-more (n / 4294967296) (four (n % 4294967296)) (omega arith) (four-more (n % 4294967296) [] (omega arith) no-bytes)) (omega arith))
