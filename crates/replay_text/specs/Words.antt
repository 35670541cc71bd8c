-- The words of a line: between two of them stands a single space.
use Rattle.std.specs.Prelude.{ℕ, zero, suc, cond, List, [], ◌∷◌, ◌==◌, take, count_by, Bool}
use Rattle.std.specs.List.{position_or_len}

abbrev pub is_space : ℕ → Bool
is_space b = b == 32

-- how many spaces a line has
abbrev pub spaces_in : List ℕ → ℕ
spaces_in = count_by is_space

-- what stands behind the n-th space: nothing where there are fewer
unfoldable pub behind : ℕ → List ℕ → List ℕ
behind n [] = []
behind zero (b ∷ s) = b ∷ s
behind (suc n) (b ∷ s) = behind (cond (is_space b) n (suc n)) s

-- how many bytes stand before the first space, or the end
abbrev pub word_length : List ℕ → ℕ
word_length = position_or_len is_space

-- the bytes before the first space
abbrev pub first_word : List ℕ → List ℕ
first_word s = take (word_length s) s

-- the word behind the n-th space
abbrev pub word_at : ℕ → List ℕ → List ℕ
word_at n line = first_word (behind n line)
