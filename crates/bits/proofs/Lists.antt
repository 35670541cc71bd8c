-- Lists element by element: a list of a known length, and what holds of each element.
use mathlib.Core.Path.{◌≡◌, refl, ap, ◌∙◌}
use mathlib.Core.List.{List, [], ◌∷◌}
use Prim.Native.Nat.{ℕ, zero, suc, ◌≤◌}
use native.Mathlib.Omega.{arith}
use lib.ListN.{length, take, get_or}
use lib.Seq.{take_all}

-- ---- a list of a known length

-- f 0, f 1, .. f (n - 1)
abbrev pub listed : {A : Type 0} → ℕ → (ℕ → A) → List A
listed zero f = []
listed (suc n) f = f 0 ∷ listed n (λ i. f (suc i))

pub listed-take : {A : Type 0} (d : A) (n : ℕ) (xs : List A) → n ≤ length xs → listed n (λ i. get_or xs i d) ≡ take n xs
listed-take d zero xs h = refl
listed-take d (suc n) [] h = absurd (let z : ⊥ = omega arith in z)
listed-take {A = A} d (suc n) (x ∷ xs) h = ap (λ (l : List A). x ∷ l) (listed-take d n xs (omega arith))

pub listed-is : {A : Type 0} (d : A) (n : ℕ) (xs : List A) → length xs ≡ n → listed n (λ i. get_or xs i d) ≡ xs
listed-is d n xs e = listed-take d n xs (omega arith) ∙ take_all n xs (omega arith)

-- ---- what holds of each element

pub holds-take : {A : Type 0} (P : A → Type 0) (n : ℕ) (xs : List A) (d : A) → P d → ((k : ℕ) → P (get_or xs k d)) → (k : ℕ)
    → P (get_or (take n xs) k d)
holds-take P zero xs d p h k = p
holds-take P (suc n) [] d p h k = p
holds-take P (suc n) (x ∷ xs) d p h zero = h 0
holds-take P (suc n) (x ∷ xs) d p h (suc k) = holds-take P n xs d p (λ m. h (suc m)) k
