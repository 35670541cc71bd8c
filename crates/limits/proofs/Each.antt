-- What holds of two values holds of a choice of them; what holds of an element holds of what is read there after a store of a value that it
-- holds of, and of each of equal ones.
use Prim.Native.Nat.{ℕ, zero, suc, ◌<◌}
use mathlib.Core.Bool.{Bool, true, false, cond}
use mathlib.Core.List.{List, [], ◌∷◌}
use lib.ListN.{get_or, set, replicate}

pub cond-holds : {A : Type 0} (P : A → Type 0) (t : Bool) (a b : A) → P a → P b → P (cond t a b)
cond-holds P true a b p q = p
cond-holds P false a b p q = q

pub each_set : {A : Type 0} (P : A → Type 0) (d : A) (l : List A) (k : ℕ) (v : A) → P v → (i : ℕ) → P (get_or l i d)
    → P (get_or (set l k v) i d)
each_set P d [] k v new i old = old
each_set P d (x ∷ l) zero v new zero old = new
each_set P d (x ∷ l) zero v new (suc i) old = old
each_set P d (x ∷ l) (suc k) v new zero old = old
each_set P d (x ∷ l) (suc k) v new (suc i) old = each_set P d l k v new i old

-- a bound on numbers
pub below_set : (l : List ℕ) (k v b : ℕ) → ((i : ℕ) → get_or l i 0 < b) → v < b → (i : ℕ) → get_or (set l k v) i 0 < b
below_set l k v b h p i = each_set (λ (x : ℕ). x < b) 0 l k v p i (h i)

pub each-replicate : {A : Type 0} (P : A → Type 0) (n : ℕ) (v d : A) → P v → P d → (i : ℕ) → P (get_or (replicate n v) i d)
each-replicate P zero v d p q i = q
each-replicate P (suc n) v d p q zero = p
each-replicate P (suc n) v d p q (suc i) = each-replicate P n v d p q i
