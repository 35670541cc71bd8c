-- A7, H1: fields of any widths as one number, the first field in the most significant bits, and back.
use Rattle.std.specs.Prelude.{Bool, true, false, List, [], ◌∷◌, ◌++◌, ℕ, zero, suc, ◌+◌, ◌*◌, ◌^◌, ◌/◌, ◌%◌, ◌<◌}

-- the bits that fields of these widths take
unfoldable pub total : List ℕ → ℕ
total [] = 0
total (w ∷ ws) = w + total ws

-- the fields' values as one number: each followed by the bits of those after it
unfoldable pub pack : List ℕ → List ℕ → ℕ
pack [] vs = 0
pack (w ∷ ws) [] = 0
pack (w ∷ ws) (v ∷ vs) = v * 2 ^ total ws + pack ws vs

-- the fields of a number: each of w bits, with those after it below
unfoldable pub unpack : List ℕ → ℕ → List ℕ
unpack [] n = []
unpack (w ∷ ws) n = n / 2 ^ total ws % 2 ^ w ∷ unpack ws n

-- as many values as widths, each below 2 to its width
abbrev pub Fit : List ℕ → List ℕ → Type 0
Fit [] [] = Unit
Fit [] (v ∷ vs) = ⊥
Fit (w ∷ ws) [] = ⊥
Fit (w ∷ ws) (v ∷ vs) = (v < 2 ^ w) × Fit ws vs

-- the number S with fields behind it
unfoldable pub after : ℕ → List ℕ → List ℕ → ℕ
after S ws vs = S * 2 ^ total ws + pack ws vs

-- H1: a yes/no in one bit
abbrev pub bit : Bool → ℕ
bit true = 1
bit false = 0

-- these widths n times
unfoldable pub times : ℕ → List ℕ → List ℕ
times zero ws = []
times (suc n) ws = ws ++ times n ws

-- H2: the fields of each element of an array, element 0 first
unfoldable pub each : {A : Type 0} → (A → List ℕ) → List A → List ℕ
each f [] = []
each f (x ∷ xs) = f x ++ each f xs
