-- Fields in parts: values that fit part by part fit together, and fields that fit are cut into parts that fit.
use mathlib.Core.Path.{◌≡◌, refl, ap, ◌∙◌}
use mathlib.Core.List.{List, [], ◌∷◌, ◌++◌}
use Prim.Native.Nat.{ℕ, zero, suc, ◌^◌, ◌<◌}
use native.Mathlib.Omega.{arith}
use lib.ListN.{length, take, drop, get_or, take-append-drop}
use Rattle.bits.specs.Fields.{Fit}
use Rattle.bits.proofs.Fields.{fit_append, fit_length}
use Rattle.image_write.specs.Image.{joined}
use Rattle.image_write.proofs.Parts.{PartByPart, SameLengths}
use Rattle.image_read.specs.Reading.{cut_into}

-- the values of each part fit its widths
abbrev pub FitParts : List (List ℕ) → List (List ℕ) → Type 0
FitParts = PartByPart Fit

pub fit-joined : (ws vs : List (List ℕ)) → FitParts ws vs → Fit (joined ws) (joined vs)
unfolding joined
fit-joined [] [] f = tt
fit-joined [] (v ∷ vs) f = absurd f
fit-joined (w ∷ ws) [] f = absurd f
fit-joined (w ∷ ws) (v ∷ vs) f = fit_append w (joined ws) v (joined vs) f.0 (fit-joined ws vs f.1)

pub same-lengths : (ws vs : List (List ℕ)) → FitParts ws vs → SameLengths ws vs
same-lengths [] [] f = tt
same-lengths [] (v ∷ vs) f = absurd f
same-lengths (w ∷ ws) [] f = absurd f
same-lengths (w ∷ ws) (v ∷ vs) f = (fit_length w v f.0, same-lengths ws vs f.1)

-- ---- fields cut into parts

fit-split : (ws us vs : List ℕ) → Fit (ws ++ us) vs → Fit ws (take (length ws) vs) × Fit us (drop (length ws) vs)
fit-split [] us vs f = (tt, f)
fit-split (w ∷ ws) us [] f = absurd f
fit-split (w ∷ ws) us (v ∷ vs) f = let h = fit-split ws us vs f.1 in ((f.0, h.0), h.1)

pub fit_cut : (ws : List (List ℕ)) (vs : List ℕ) → Fit (joined ws) vs → FitParts ws (cut_into ws vs)
unfolding joined cut_into
fit_cut [] vs f = tt
fit_cut (w ∷ ws) vs f = let h = fit-split w (joined ws) vs f in (h.0, fit_cut ws (drop (length w) vs) h.1)

pub joined-cut : (ws : List (List ℕ)) (vs : List ℕ) → Fit (joined ws) vs → joined (cut_into ws vs) ≡ vs
unfolding joined cut_into
joined-cut [] [] f = refl
joined-cut [] (v ∷ vs) f = absurd f
joined-cut (w ∷ ws) vs f =
    ap (λ (l : List ℕ). take (length w) vs ++ l) (joined-cut ws (drop (length w) vs) (fit-split w (joined ws) vs f).1)
    ∙ take-append-drop (length w) vs

-- ---- a value by its index

pub fit-get : (ws vs : List ℕ) → Fit ws vs → (i : ℕ) → i < length ws → get_or vs i 0 < 2 ^ get_or ws i 0
fit-get [] vs f i h = absurd (let z : ⊥ = omega arith in z)
fit-get (w ∷ ws) [] f i h = absurd f
fit-get (w ∷ ws) (v ∷ vs) f zero h = f.0
fit-get (w ∷ ws) (v ∷ vs) f (suc i) h = fit-get ws vs f.1 i (omega arith)
