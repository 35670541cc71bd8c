-- S7, S15, S16: the mix of whole channel outputs of either sign. The f32 sum is their exact sum; a mean is its quotient, rounded once, and
-- with 1, 2, 4 or 8 channels no bit is lost; neither is ever negative zero. The run's own way to a sum takes the old output off and puts
-- the new one on.
use Rattle.std.proofs.Common.{◌≡◌, ℕ, zero, suc, ◌+◌, ◌-◌, ◌*◌, ◌^◌, ◌<◌, ◌≤◌, Bool, true, false, leb, List, [], ◌∷◌, map, length, get_or, take, drop, set, ℤ, pos, negsuc, ◌+ℤ◌, ◌-ℤ◌, neg_ℤ, nat_abs, sym, refl, ap, ◌∙◌, lt_of_le_of_lt, mul_assoc, mul-le-mul, arith, lit<, drop-set-lt, pow_pos, pow_mono, pow-add, leb-false, leb-true}
use lib.IntN.{+ℤ_assoc, +ℤ_comm, +ℤ_idl, +ℤ-neg_ℤ_cancel}
use lib.Ieee.{Float, nan, binary32, add, round, of_int, of_bits}
use lib.Ieee.Exact.{HasValue, round_exact}
use Rattle.limits.specs.Limits.{level_most, minus_zero}
use Rattle.sound.specs.Levels.{whole_z, is_neg}
use Rattle.sound.proofs.levels.Laws.{zero_bits}
use Rattle.std.specs.List.{fold, take-map}
use Rattle.sound_wave.specs.Mix.{sum_from, sum_of, total, sizes, mix_of, exact_out, resum_of, NoMinusZero, output_of}
use Rattle.sound_wave.proofs.Floats.Whole.{add-int, sub-int, div-int, minus-zero, add-size, total_size, sum-exact}
use Rattle.sound_wave.proofs.Floats.Zero.{mean-no-minus, whole-no-minus, sample-no-minus}

-- additions from the left are a fold
pub fold-sum : (t : Float) (xs : List Float) → fold (λ t x. add binary32 t x) t xs ≡ sum_from t xs
unfolding sum_from
fold-sum t [] = refl
fold-sum t (x ∷ xs) = fold-sum (add binary32 t x) xs

drop-map : (n : ℕ) (zs : List ℤ) → drop n (map whole_z zs) ≡ map whole_z (drop n zs)
drop-map zero zs = refl
drop-map (suc n) [] = refl
drop-map (suc n) (z ∷ zs) = drop-map n zs

-- the f32 sum of channels 7−c..=7 is the float of their exact sum
pub sum_is : (zs : List ℤ) (c : ℕ) → sizes (drop (7 - c) zs) ≤ 2 ^ 24 → sum_of (map whole_z zs) c ≡ whole_z (total (drop (7 - c) zs))
unfolding sum_of
sum_is zs c h =
    rw (zero_bits, drop-map (7 - c) zs)
    (sum-exact (drop (7 - c) zs) (pos 0) (omega arith) ∙ ap whole_z (+ℤ_idl (total (drop (7 - c) zs))))

sizes-take : (k : ℕ) (zs : List ℤ) → sizes (take k zs) ≤ sizes zs
unfolding sizes
sizes-take zero zs = omega arith
sizes-take (suc k) [] = omega arith
sizes-take (suc k) (z ∷ zs) = omega (arith, sizes-take k zs)

-- and so is that of the first k of them, so that no addition on the way rounds
pub first_is : (zs : List ℤ) (c k : ℕ) → sizes (drop (7 - c) zs) ≤ 2 ^ 24
    → sum_from (of_bits binary32 0) (take k (drop (7 - c) (map whole_z zs))) ≡ whole_z (total (take k (drop (7 - c) zs)))
first_is zs c k h =
    let ys = take k (drop (7 - c) zs) in
    rw (zero_bits, drop-map (7 - c) zs, take-map whole_z k (drop (7 - c) zs))
    (sum-exact ys (pos 0) (omega (arith, sizes-take k (drop (7 - c) zs))) ∙ ap whole_z (+ℤ_idl (total ys)))

pub first-size : (zs : List ℤ) (k n : ℕ) → sizes zs ≤ n → nat_abs (total (take k zs)) ≤ n
first-size zs k n h = omega (arith, sizes-take k zs, total_size (take k zs))

-- `out` is the float of the exact sum, or one rounding of the exact quotient
pub mix-rounds : (zs : List ℤ) (c : ℕ) (plain : Bool) → sizes (drop (7 - c) zs) ≤ 2 ^ 24 → c < 8
    → mix_of (map whole_z zs) c plain ≡ exact_out (total (drop (7 - c) zs)) c plain
unfolding mix_of
mix-rounds zs c true h l = sum_is zs c h
mix-rounds zs c false h l =
    let t = total (drop (7 - c) zs) in
    rw (sum_is zs c h) (div-int t (c + 1) (omega arith) (omega (arith, total_size (drop (7 - c) zs))) (omega arith))

-- neither `out` nor a sample of it is ever −0
pub out-no-minus : (zs : List ℤ) (c : ℕ) (plain : Bool) → sizes (drop (7 - c) zs) ≤ 2 ^ 24 → c < 8
    → NoMinusZero (mix_of (map whole_z zs) c plain)
out-no-minus zs c true h l = rw (mix-rounds zs c true h l) (whole-no-minus (total (drop (7 - c) zs)))
out-no-minus zs c false h l =
    rw (mix-rounds zs c false h l) (mean-no-minus (total (drop (7 - c) zs)) (c + 1) (omega arith) (omega arith))

pub whole-round : (z : ℤ) → whole_z z ≡ round binary32 (is_neg z) (nat_abs z) 1
unfolding of_int
whole-round (pos n) = refl
whole-round (negsuc n) = refl

pub output-no-minus : (zs : List ℤ) (c : ℕ) (plain : Bool) → sizes (drop (7 - c) zs) ≤ 2 ^ 24 → c < 8
    → NoMinusZero (output_of (mix_of (map whole_z zs) c plain))
output-no-minus zs c true h l =
    let t = total (drop (7 - c) zs) in
    rw (mix-rounds zs c true h l, whole-round t) (sample-no-minus t 1 (omega arith) (omega arith))
output-no-minus zs c false h l =
    rw (mix-rounds zs c false h l) (sample-no-minus (total (drop (7 - c) zs)) (c + 1) (omega arith) (omega arith))

-- a small whole number over 1, 2, 4 or 8 is a float
power-exact : (s : Bool) (size j : ℕ) → size ≤ 8 * level_most → j ≤ 3 → HasValue (round binary32 s size (2 ^ j)) s size (2 ^ j)
power-exact s size j b h =
    round_exact binary32 s size (2 ^ j) size (149 - j) (pow_pos j) (lt_of_le_of_lt b (lit< tt))
    (lt_of_le_of_lt (mul-le-mul b (pow_mono {i = 149 - j} {j = 149} (omega arith))) (lit< tt))
    (ap (λ (x : ℕ). size * x) (ap (λ (x : ℕ). 2 ^ x) back ∙ pow-add 2 (149 - j) j) ∙ sym (mul_assoc size (2 ^ (149 - j)) (2 ^ j)))
  where
    back : 149 ≡ 149 - j + j
    back = omega arith

-- S7: with 1, 2, 4 or 8 channels no bit is lost: the mean has the value of the whole sum over the number of channels
pub mix-exact : (zs : List ℤ) (c j : ℕ) → sizes (drop (7 - c) zs) ≤ 8 * level_most → c < 8 → j ≤ 3 → c + 1 ≡ 2 ^ j
    → let t = total (drop (7 - c) zs) in HasValue (mix_of (map whole_z zs) c false) (is_neg t) (nat_abs t) (c + 1)
mix-exact zs c j h l p e =
    let t = total (drop (7 - c) zs) in
    rw (mix-rounds zs c false (omega arith) l, e)
    (power-exact (is_neg t) (nat_abs t) j (omega (arith, total_size (drop (7 - c) zs))) p)

-- the Rust begins its sum with negative zero, and the sum is the same
pub sum-start : (z : ℤ) (zs : List ℤ) → nat_abs z ≤ 2 ^ 24
    → sum_from (of_bits binary32 minus_zero) (map whole_z (z ∷ zs)) ≡ sum_from (of_bits binary32 0) (map whole_z (z ∷ zs))
unfolding sum_from of_bits
sum-start z zs h = ap (λ (x : Float). sum_from x (map whole_z zs)) (minus-zero z h)

-- ---- a sum after one channel changes

set-map : (zs : List ℤ) (k : ℕ) (n : ℤ) → set (map whole_z zs) k (whole_z n) ≡ map whole_z (set zs k n)
set-map [] k n = refl
set-map (x ∷ zs) zero n = refl
set-map (x ∷ zs) (suc k) n = ap (λ (l : List Float). whole_z x ∷ l) (set-map zs k n)

get_d_map : (zs : List ℤ) (k : ℕ) → k < length zs → get_or (map whole_z zs) k nan ≡ whole_z (get_or zs k (pos 0))
get_d_map [] k h = absurd (omega arith)
get_d_map (x ∷ zs) zero h = refl
get_d_map (x ∷ zs) (suc k) h = get_d_map zs k (omega arith)

swap : (n t x : ℤ) → n +ℤ t +ℤ x ≡ x +ℤ t +ℤ n
swap n t x =
    ap (λ (z : ℤ). z +ℤ x) (+ℤ_comm n t) ∙ +ℤ_assoc t n x ∙ ap (λ (z : ℤ). t +ℤ z) (+ℤ_comm n x) ∙ sym (+ℤ_assoc t x n)
    ∙ ap (λ (z : ℤ). z +ℤ n) (+ℤ_comm t x)

-- what element k adds to the total, and to the sizes, of the elements from m on
pub total-set : (zs : List ℤ) (m k : ℕ) (n : ℤ) → m ≤ k → k < length zs
    → total (drop m (set zs k n)) +ℤ get_or zs k (pos 0) ≡ total (drop m zs) +ℤ n
unfolding total
total-set [] m k n l h = absurd (omega arith)
total-set (x ∷ zs) zero zero n l h = swap n (total zs) x
total-set (x ∷ zs) zero (suc k) n l h =
    +ℤ_assoc x (total (set zs k n)) (get_or zs k (pos 0)) ∙ ap (λ (z : ℤ). x +ℤ z) (total-set zs 0 k n (omega arith) (omega arith))
    ∙ sym (+ℤ_assoc x (total zs) n)
total-set (x ∷ zs) (suc m) zero n l h = absurd (omega arith)
total-set (x ∷ zs) (suc m) (suc k) n l h = total-set zs m k n (omega arith) (omega arith)

sizes-set : (zs : List ℤ) (m k : ℕ) (n : ℤ) → m ≤ k → k < length zs
    → sizes (drop m (set zs k n)) + nat_abs (get_or zs k (pos 0)) ≡ sizes (drop m zs) + nat_abs n
unfolding sizes
sizes-set [] m k n l h = absurd (omega arith)
sizes-set (x ∷ zs) zero zero n l h = omega arith
sizes-set (x ∷ zs) zero (suc k) n l h = omega (arith, sizes-set zs 0 k n (omega arith) (omega arith))
sizes-set (x ∷ zs) (suc m) zero n l h = absurd (omega arith)
sizes-set (x ∷ zs) (suc m) (suc k) n l h = sizes-set zs m k n (omega arith) (omega arith)

exchange : (t' t old n : ℤ) → t' +ℤ old ≡ t +ℤ n → t' ≡ t -ℤ old +ℤ n
exchange t' t old n e =
    sym (+ℤ-neg_ℤ_cancel t' old) ∙ ap (λ (z : ℤ). z -ℤ old) e ∙ +ℤ_assoc t n (neg_ℤ old) ∙ ap (λ (z : ℤ). t +ℤ z) (+ℤ_comm n (neg_ℤ old))
    ∙ sym (+ℤ_assoc t (neg_ℤ old) n)

neg-size : (z : ℤ) → nat_abs (neg_ℤ z) ≡ nat_abs z
neg-size (pos zero) = refl
neg-size (pos (suc n)) = refl
neg-size (negsuc n) = refl

-- taking the old output off the sum and putting the new one on gives the bits of the sum of the new outputs
pub sum-again : (zs : List ℤ) (c k : ℕ) (n : ℤ) → length zs ≡ 8 → c < 8 → k < 8 → sizes (drop (7 - c) zs) ≤ 8 * level_most → nat_abs n ≤ level_most
    → sum_of (set (map whole_z zs) k (whole_z n)) c ≡ resum_of (sum_of (map whole_z zs) c) (get_or (map whole_z zs) k nan) (whole_z n) (leb 7 (k + c))
sum-again zs c k n e l h b s = go (leb 7 (k + c)) refl
  where
    t : ℤ
    t = total (drop (7 - c) zs)

    old : ℤ
    old = get_or zs k (pos 0)

    go : (u : Bool) → leb 7 (k + c) ≡ u
        → sum_of (set (map whole_z zs) k (whole_z n)) c ≡ resum_of (sum_of (map whole_z zs) c) (get_or (map whole_z zs) k nan) (whole_z n) u
    go true u =
        let i = leb-true 7 (k + c) u in
        let z = sizes-set zs (7 - c) k n (omega arith) (omega arith) in
        let d = total_size (drop (7 - c) zs) in
        let f = add-size t (neg_ℤ old) in
        let g = neg-size old in
        rw (
          set-map zs k n,
          get_d_map zs k (omega arith),
          sum_is zs c (omega arith),
          sum_is (set zs k n) c (omega arith),
          sub-int t old (omega arith) (omega arith),
          add-int (t -ℤ old) n (omega arith) (omega arith),
        )
        (ap whole_z (exchange (total (drop (7 - c) (set zs k n))) t old n (total-set zs (7 - c) k n (omega arith) (omega arith))))
    go false u = unfold sum_of in rw (drop-set-lt (7 - c) (map whole_z zs) k (whole_z n) (omega (arith, leb-false 7 (k + c) u)))
