-- A test of each element, as a fold over a list and as a test of each index.
use Prim.Native.Nat.{ℕ, zero, suc}
use mathlib.Core.Path.{◌≡◌, refl, sym, ap, ◌∙◌}
use mathlib.Core.Bool.{Bool, true, false, ◌&&◌}
use mathlib.Core.List.{List, [], ◌∷◌}
use lib.ListN.{get_or, length}
use Rattle.std.specs.List.{fold}
use Rattle.limits.specs.Every.{every}

and_assoc : (a b c : Bool) → (a && b) && c ≡ a && (b && c)
and_assoc true b c = refl
and_assoc false b c = refl

true_and : (a b : Bool) → a && true ≡ true && a
true_and true b = refl
true_and false b = refl

first-rest : (n : ℕ) (p : ℕ → Bool) → p 0 && every n (λ i. p (suc i)) ≡ every (suc n) p
unfolding every
first-rest zero p = true_and (p 0) true
first-rest (suc n) p = sym (and_assoc (p 0) (every n (λ i. p (suc i))) (p (suc n))) ∙ ap (λ b. b && p (suc n)) (first-rest n p)

fold-from : {A : Type 0} (p : A → Bool) (d : A) (b : Bool) (l : List A) → fold (λ ok x. ok && p x) b l ≡ b && every (length l) (λ i. p (get_or l i d))
unfolding every
fold-from p d true [] = refl
fold-from p d false [] = refl
fold-from p d b (x ∷ l) =
    fold-from p d (b && p x) l
    ∙ and_assoc b (p x) (every (length l) (λ i. p (get_or l i d)))
    ∙ ap (λ e. b && e) (first-rest (length l) (λ i. p (get_or (x ∷ l) i d)))

pub every-fold : {A : Type 0} (p : A → Bool) (d : A) (l : List A) → fold (λ ok x. ok && p x) true l ≡ every (length l) (λ i. p (get_or l i d))
every-fold p d l = fold-from p d true l
