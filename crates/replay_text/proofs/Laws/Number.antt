-- A number's digits at an index. Assumes nothing.
use Rattle.std.proofs.Common.{ℕ, ◌+◌, ◌≡◌, ◌≤◌, ◌<◌, ◌==◌, ◌&&◌, Some, None, Bool, true, false, cond, refl, ◌∙◌, arith}
use Rattle.std.proofs.Common.{List, [], ◌∷◌, length, get_or, take, drop, drop_of_length-le}
use Rattle.std.proofs.lemmas.List.{drop_more}
use lib.Pointwise.{pointwise}
use Rattle.std.specs.Option.{option_and_then}
use Rattle.replay_text.specs.Hex.{digit_of}
use Rattle.replay_text.specs.Number.{one_more, digits_after, in_base, number_of}

pub digits-next : (base n : ℕ) (l : List ℕ) (i : ℕ) → i < length l
    → digits_after base n (drop i l)
    ≡ option_and_then (λ m. digits_after base m (drop (i + 1) l)) (option_and_then (one_more base n) (digit_of (get_or l i 0)))
unfolding digits_after
digits-next base n l i h = rw (drop_more l i 0 h)

pub digits-end : (base n : ℕ) (l : List ℕ) (i : ℕ) → length l ≤ i → digits_after base n (drop i l) ≡ Some n
unfolding digits_after
digits-end base n l i h = rw (drop_of_length-le l h)

pub base-none : (base : ℕ) (l : List ℕ) → length l ≡ 0 → in_base base l ≡ None
unfolding in_base
base-none base [] h = refl
base-none base (b ∷ l) h = absurd (omega arith)

pub base-some : (base : ℕ) (l : List ℕ) → (length l ≡ 0 → ⊥) → in_base base l ≡ digits_after base 0 l
unfolding in_base
base-some base [] h = absurd (h refl)
base-some base (b ∷ l) h = refl

-- a digit more, where there is none, where it has no number, and where it has one
module _ (base n : ℕ) (l : List ℕ) (i : ℕ) (h : i < length l) where
  pub no-digit : digit_of (get_or l i 0) ≡ None → digits_after base n (drop i l) ≡ None
  no-digit e = digits-next base n l i h ∙ rw e

  pub no-number : {d : ℕ} → digit_of (get_or l i 0) ≡ Some d → one_more base n d ≡ None → digits_after base n (drop i l) ≡ None
  no-number e f = digits-next base n l i h ∙ rw (e, f)

  pub a-number : {d m : ℕ} → digit_of (get_or l i 0) ≡ Some d → one_more base n d ≡ Some m
      → digits_after base n (drop i l) ≡ digits_after base m (drop (i + 1) l)
  a-number e f = digits-next base n l i h ∙ rw (e, f)

-- by whether the word begins with a `$`
pub number-cut : (l : List ℕ) → number_of l ≡ cond (pointwise ◌==◌ (take 1 l) (36 ∷ [])) (in_base 16 (drop 1 l)) (in_base 10 l)
unfolding number_of in_base
number-cut [] = refl
number-cut (b ∷ l) = go (b == 36)
  where
    go : (t : Bool) → cond t (in_base 16 l) (in_base 10 (b ∷ l)) ≡ cond (t && true) (in_base 16 l) (in_base 10 (b ∷ l))
    go true = refl
    go false = refl
