-- What stands behind spaces. Assumes nothing.
use Rattle.std.proofs.Common.{ℕ, suc, ◌+◌, ◌≡◌, Bool, true, false, cond, not, List, [], ◌∷◌, length, drop, refl, sym, ap, arith}
use Rattle.replay_text.specs.Words.{is_space, behind, word_length}

pub behind-none : (s : List ℕ) → behind 0 s ≡ s
unfolding behind
behind-none [] = refl
behind-none (b ∷ s) = refl

-- behind a line's end stands nothing more
pub behind-end : (m : ℕ) (s : List ℕ) → length s ≡ 0 → behind m s ≡ s
unfolding behind
behind-end m [] h = refl
behind-end m (b ∷ s) h = absurd (let z : ⊥ = omega arith in z)

-- one space after the other
pub behind-one : (m : ℕ) (s : List ℕ) → behind (suc m) s ≡ behind m (behind 1 s)
unfolding behind
behind-one m [] = refl
behind-one m (b ∷ s) = go (is_space b) (behind-one m s)
  where
    go : (t : Bool) → behind (suc m) s ≡ behind m (behind 1 s) → behind (cond t m (suc m)) s ≡ behind m (behind (cond t 0 1) s)
    go true e = ap (behind m) (sym (behind-none s))
    go false e = e

-- the first space stands behind the first word
pub behind-word : (s : List ℕ) → behind 1 s ≡ drop (word_length s + 1) s
unfolding behind
behind-word [] = refl
behind-word (b ∷ s) = go (is_space b) (behind-word s)
  where
    go : (t : Bool) → behind 1 s ≡ drop (word_length s + 1) s
        → behind (cond t 0 1) s ≡ drop (cond (not t) (1 + word_length s) 0 + 1) (b ∷ s)
    go true e = behind-none s
    go false e =
        let n : 1 + word_length s + 1 ≡ suc (word_length s + 1) = omega arith in
        rw n e
