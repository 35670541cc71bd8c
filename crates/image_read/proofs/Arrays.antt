-- Laws of arrays made by calls that leave the closure as it was: by index, and of another array.
use Rattle.std.proofs.Common.{ℕ, zero, suc, ◌+◌, ◌≡◌, ◌<◌, List, [], ◌∷◌, map, length, get_or, drop}
use Rattle.std.proofs.Common.{subst, sym, ap, ◌∙◌, arith}
use Rattle.std.specs.List.{range_with_len}
use Rattle.std.proofs.lemmas.List.{ext_get_or, get_or-map, length-map}
use Rattle.std.proofs.lemmas.List.FromFn.{fill_by_all}
use Rattle.std.specs.Array.{IsFromFnResultFrom, IsFromFnResult, MapsFrom, IsMapOf, list_steps}
use Rattle.std.specs.Fn.{Called}
use Rattle.std.specs.Iterator.{AlwaysYields}
use Rattle.std.proofs.lemmas.Iterator.{YieldsList}
use denote.Param.Members.{Mut}

-- a call at i gives h i: so does place i
made_at : {F B : Type 0} (g : Mut F (ℕ × Unit {0}) B) (h : ℕ → B) (f : F)
    → ((i : ℕ) (y : B) (q : F) → Called g f (i, tt) y q → (y ≡ h i) × (q ≡ f))
    → (ys : List B) (d : B) (i n k j : ℕ) → IsFromFnResultFrom g f ys i n → k < n → i + k ≡ j → get_or ys j d ≡ h j
made_at g h f same ys d i zero k j r l e = absurd (omega (arith, l))
made_at g h f same ys d i (suc n) zero j r l e =
    let z : j ≡ i = omega (arith, e) in
    rw z (r.2.1 d ∙ (same i r.1 r.0 r.3).0)
made_at {F} g h f same ys d i (suc n) (suc k) j r l e =
    let rest = subst (λ (q : F). IsFromFnResultFrom g q ys (i + 1) n) (same i r.1 r.0 r.3).1 r.4 in
    made_at g h f same ys d (i + 1) n k j rest (omega (arith, l)) (omega (arith, e))

-- and so the array is h of each index
pub made_is : {F B : Type 0} {g : Mut F (ℕ × Unit {0}) B} {f : F} {ys : List B} {n : ℕ} → IsFromFnResult g f ys n
    → (d : B) (h : ℕ → B) → ((i : ℕ) (y : B) (q : F) → Called g f (i, tt) y q → (y ≡ h i) × (q ≡ f)) → ys ≡ map h (range_with_len 0 n)
made_is {g = g} {f = f} {ys = ys} {n = n} r d h same =
    fill_by_all h ys n d r.long (λ k l. made_at g h f same ys d 0 n k k r.each l (omega arith))

-- a call at x gives h x: so is each element's
mapped_at : {F A B : Type 0} (g : Mut F (A × Unit {0}) B) (h : A → B) (f : F)
    → ((x : A) (y : B) (q : F) → Called g f (x, tt) y q → (y ≡ h x) × (q ≡ f))
    → (xs : List A) (ys : List B) (c : A) (d : B) (i n k j : ℕ) → MapsFrom g f xs ys i n → k < n → i + k ≡ j
    → get_or ys j d ≡ h (get_or xs j c)
mapped_at g h f same xs ys c d i zero k j r l e = absurd (omega (arith, l))
mapped_at g h f same xs ys c d i (suc n) zero j r l e =
    let z : j ≡ i = omega (arith, e) in
    rw (z, r.3.1 c) (r.4.1 d ∙ (same r.1 r.2 r.0 r.5).0)
mapped_at {F} g h f same xs ys c d i (suc n) (suc k) j r l e =
    let rest = subst (λ (q : F). MapsFrom g q xs ys (i + 1) n) (same r.1 r.2 r.0 r.5).1 r.6 in
    mapped_at g h f same xs ys c d (i + 1) n k j rest (omega (arith, l)) (omega (arith, e))

-- and so the array is h of each element
pub mapped_is : {F A B : Type 0} {g : Mut F (A × Unit {0}) B} {f : F} {xs : List A} {ys : List B} {n : ℕ} → IsMapOf g f xs ys n
    → length xs ≡ n → (c : A) (h : A → B) → ((x : A) (y : B) (q : F) → Called g f (x, tt) y q → (y ≡ h x) × (q ≡ f)) → ys ≡ map h xs
mapped_is {g = g} {f = f} {xs = xs} {ys = ys} {n = n} r long c h same =
    ext_get_or (h c) ys (map h xs) (r.long ∙ sym (length-map xs h ∙ long))
    (λ k l. mapped_at g h f same xs ys c (h c) 0 n k k r.each (omega (arith, l, r.long)) (omega arith)
    ∙ sym (get_or-map h xs k c (h c) (omega (arith, l, r.long, long))))

-- the elements are taken as they come
pub list_road : {A : Type 0} (xs : List A) → YieldsList list_steps (λ (x : A). x) xs xs
list_road {A} xs = record { runs = go xs }
  where
    go : (ys : List A) → AlwaysYields list_steps (λ (x : A). x) ys ys
    go [] = λ x j e. let z = ap length e in absurd (omega (arith, z))
    go (y ∷ ys) = (
      λ j e. let z = ap length e in absurd (omega (arith, z)),
      λ x j e. (
        sym (ap (λ (l : List A). get_or l 0 y) e),
        subst (λ (l : List A). AlwaysYields list_steps (λ (v : A). v) l ys) (ap (drop 1) e) (go ys),
      ),
    )
