-- R11, S16: channel outputs in the range of a choice are whole numbers, and mix to an `out` in the range of that choice, finite and no
-- negative zero: one argument for all four choices.
use Rattle.std.proofs.Common.{◌≡◌, ℕ, zero, suc, ◌+◌, ◌-◌, ◌*◌, ◌^◌, ◌<◌, ◌≤◌, Bool, true, false, cond, not, T, ltb, List, [], ◌∷◌, map, length, get_or, drop, ℤ, pos, negsuc, ◌+ℤ◌, nat_abs, sym, refl, ap, ◌∙◌, true≢false, le_trans, le_of_eq, mul-le-mul, mul-one, mul_right_comm, le_of_mul-le-mul_right, arith, length-drop, ltb-true}
use lib.ListN.{length-map}
use lib.Ieee.{Float, nan, inf, fin, binary32, up, down, unlike, round, add, mul, of_int, of_bits, is_nan, fits, le, lt, eq, neg}
use lib.Ieee.Fits.{down_pos, add-fits, div-fits}
use lib.Ieee.Bits.{of_bits-fits}
use lib.Ieee.Order.{round_mono}
use lib.Ieee.Positive.{first_pos}
use Rattle.limits.specs.Limits.{level_most}
use Rattle.sound.specs.Levels.{whole_z, is_neg}
use Rattle.sound.specs.Range.{level_low, level_high, WholeIn, OutBetween, OutValue, Level, Levels}
use Rattle.sound.proofs.Floats.Sign.{Plus, round-plus, round-neg, round_number}
use Rattle.sound.proofs.levels.Laws.{valued, whole-value}
use Rattle.sound_wave.specs.Mix.{sum_from, sum_of, Wholes, total, sizes, mix_of, NoMinusZero, output_of}
use Rattle.sound_wave.proofs.Floats.Zero.{AtLeast, or-lt-eq, at_least, eighth, factor}
use Rattle.sound_wave.proofs.mix.Laws.{mix-rounds, whole-round, out-no-minus, output-no-minus}

-- ---- sums

add-in : (l h l' h' : ℕ) (x y : ℤ) → WholeIn l h x → WholeIn l' h' y → WholeIn (l + l') (h + h') (x +ℤ y)
add-in l h l' h' (pos a) (pos b) p q = omega arith
add-in l h l' h' (negsuc a) (negsuc b) p q = omega arith
add-in l h l' h' (pos a) (negsuc b) p q = go (ltb a (suc b)) refl
  where
    go : (t : Bool) → ltb a (suc b) ≡ t → WholeIn (l + l') (h + h') (cond t (negsuc (suc b - suc a)) (pos (a - suc b)))
    go true e = omega (arith, ltb-true a (suc b) e)
    go false e = omega arith
add-in l h l' h' (negsuc a) (pos b) p q = go (ltb b (suc a)) refl
  where
    go : (t : Bool) → ltb b (suc a) ≡ t → WholeIn (l + l') (h + h') (cond t (negsuc (suc a - suc b)) (pos (b - suc a)))
    go true e = omega (arith, ltb-true b (suc a) e)
    go false e = omega arith

widen : (l h l' h' : ℕ) (z : ℤ) → l ≤ l' → h ≤ h' → WholeIn l h z → WholeIn l' h' z
widen l h l' h' (pos n) a b p = omega arith
widen l h l' h' (negsuc n) a b p = omega arith

total-in : (l h : ℕ) (zs : List ℤ) → ((i : ℕ) → WholeIn l h (get_or zs i (pos 0))) → WholeIn (l * length zs) (h * length zs) (total zs)
unfolding total
total-in l h [] p = omega arith
total-in l h (z ∷ zs) p =
    widen (l + l * length zs) (h + h * length zs) (l * suc (length zs)) (h * suc (length zs)) (z +ℤ total zs) (omega arith) (omega arith)
    (add-in l h (l * length zs) (h * length zs) z (total zs) (p 0) (total-in l h zs (λ i. p (suc i))))

drop-in : (l h : ℕ) (zs : List ℤ) (n : ℕ) → ((i : ℕ) → WholeIn l h (get_or zs i (pos 0))) → (i : ℕ) → WholeIn l h (get_or (drop n zs) i (pos 0))
drop-in l h zs zero p = p
drop-in l h [] (suc n) p = p
drop-in l h (z ∷ zs) (suc n) p = drop-in l h zs n (λ i. p (suc i))

-- ---- a quotient of a whole number in range

below-whole : (h : ℕ) (x : Float) → h ≤ 2 ^ 24 → Plus x → T (le x (whole_z (pos h))) → OutBetween 0 h x
unfolding le lt eq
below-whole h nan H p q = absurd p
below-whole h (inf true) H p q = absurd (true≢false p)
below-whole h (inf false) H p q =
    let u = valued (whole_z (pos h)) false h 1 (whole-value (pos h) H) in absurd (rw u.is at q)
below-whole h (fin true m e) H p q = absurd (true≢false p)
below-whole h (fin false m e) H p q =
    let u = valued (whole_z (pos h)) false h 1 (whole-value (pos h) H) in
    let n = u.mantissa * up u.exponent in
    let d = down u.exponent in
    let v : n ≡ h * d = sym (mul-one n) ∙ u.value in
    let c : m * up e * d ≤ n * down e = or-lt-eq (m * up e * d) (n * down e) (rw u.is at q) in
    le_of_mul-le-mul_right (le_trans c (le_of_eq (ap (λ (y : ℕ). y * down e) v ∙ mul_right_comm h d (down e)))) (down_pos u.exponent)

negated : (l h : ℕ) (x : Float) → AtLeast 8 x → OutBetween 0 l x → Plus x → OutBetween l h (neg x)
unfolding neg
negated l h nan a b p = absurd p
negated l h (inf s) a b p = absurd b
negated l h (fin true m e) a b p = absurd (true≢false p)
negated l h (fin false m e) a b p = (first_pos m (up e) (omega (arith, down_pos e)), b)

any-low : (l h : ℕ) (x : Float) → Plus x → OutBetween 0 h x → OutBetween l h x
any-low l h nan p b = absurd b
any-low l h (inf s) p b = absurd b
any-low l h (fin true m e) p b = absurd (true≢false p)
any-low l h (fin false m e) p b = b

plus-between : (h a n : ℕ) → h ≤ 2 ^ 24 → 0 < n → a ≤ h * n → OutBetween 0 h (round binary32 false a n)
unfolding of_int
plus-between h a n H N q =
    below-whole h (round binary32 false a n) H (round-plus binary32 a n)
    (round_mono binary32 a n h 1 N (omega arith) (le_trans (le_of_eq (mul-one a)) q))

pub quotient-between : (l h : ℕ) (z : ℤ) (n : ℕ) → l ≤ 2 ^ 24 → h ≤ 2 ^ 24 → 0 < n → n ≤ 8 → WholeIn (l * n) (h * n) z
    → OutBetween l h (round binary32 (is_neg z) (nat_abs z) n)
quotient-between l h (pos a) n L H N m q = any-low l h (round binary32 false a n) (round-plus binary32 a n) (plus-between h a n H N q)
quotient-between l h (negsuc a) n L H N m q =
    rw (round-neg binary32 (suc a) n)
    (negated l h (round binary32 false (suc a) n) (at_least 2 eighth false (suc a) n N (omega arith)) (plus-between l (suc a) n L N q) (round-plus binary32 (suc a) n))

-- ---- `out`

in_size : (l h : ℕ) (z : ℤ) → l ≤ level_most → h ≤ level_most → WholeIn l h z → nat_abs z ≤ level_most
in_size l h (pos n) L H p = omega arith
in_size l h (negsuc n) L H p = omega arith

sizes-in : (l h : ℕ) (zs : List ℤ) → l ≤ level_most → h ≤ level_most → ((i : ℕ) → WholeIn l h (get_or zs i (pos 0)))
    → sizes zs ≤ level_most * length zs
unfolding sizes
sizes-in l h [] L H p = omega arith
sizes-in l h (z ∷ zs) L H p = omega (arith, in_size l h z L H (p 0), sizes-in l h zs L H (λ i. p (suc i)))

module _ (l h : ℕ) (L : l ≤ level_most) (H : h ≤ level_most) (zs : List ℤ) (c : ℕ) (e : length zs ≡ 8) (k : c < 8)
    (p : (i : ℕ) → WholeIn l h (get_or zs i (pos 0))) where
  in_use : length (drop (7 - c) zs) ≡ c + 1
  in_use = omega (arith, length-drop (7 - c) zs)

  total_of : WholeIn (l * (c + 1)) (h * (c + 1)) (total (drop (7 - c) zs))
  total_of = rw in_use at (total-in l h (drop (7 - c) zs) (drop-in l h zs (7 - c) p))

  pub sizes-of : sizes (drop (7 - c) zs) ≤ 8 * level_most
  sizes-of =
      let s = sizes-in l h (drop (7 - c) zs) (omega arith) (omega arith) (drop-in l h zs (7 - c) p) in
      let u = in_use in
      omega arith

  mean-between : OutBetween l h (mix_of (map whole_z zs) c false)
  mean-between =
      rw (mix-rounds zs c false (omega (arith, sizes-of)) k)
      (quotient-between l h (total (drop (7 - c) zs)) (c + 1) (omega arith) (omega arith) (omega arith) (omega arith) total_of)

  sum-between : OutBetween (l * 8) (h * 8) (mix_of (map whole_z zs) c true)
  sum-between =
      let t = total (drop (7 - c) zs) in
      let a : l * (c + 1) ≤ l * 8 * 1 = le_trans (mul-le-mul {n₂ = l} {m₂ = 8} (omega arith) (omega arith)) (omega arith) in
      let b : h * (c + 1) ≤ h * 8 * 1 = le_trans (mul-le-mul {n₂ = h} {m₂ = 8} (omega arith) (omega arith)) (omega arith) in
      rw (mix-rounds zs c true (omega (arith, sizes-of)) k, whole-round t)
      (quotient-between (l * 8) (h * 8) t 1 (omega arith) (omega arith) (omega arith) (omega arith)
      (widen (l * (c + 1)) (h * (c + 1)) (l * 8 * 1) (h * 8 * 1) t a b total_of))

choice-low : (s : Bool) → level_low s ≤ level_most
choice-low true = omega arith
choice-low false = omega arith

choice-high : (s : Bool) → level_high s ≤ level_most
choice-high true = omega arith
choice-high false = omega arith

mix-between : (signed plain : Bool) (zs : List ℤ) (c : ℕ) → length zs ≡ 8 → c < 8
    → ((i : ℕ) → WholeIn (level_low signed) (level_high signed) (get_or zs i (pos 0)))
    → OutValue signed plain (mix_of (map whole_z zs) c plain)
mix-between s true zs c e k p = sum-between (level_low s) (level_high s) (choice-low s) (choice-high s) zs c e k p
mix-between s false zs c e k p =
    rw (mul-one (level_low s), mul-one (level_high s)) (mean-between (level_low s) (level_high s) (choice-low s) (choice-high s) zs c e k p)

-- ---- channel outputs as a list of whole numbers

first : (l h : ℕ) (z : ℤ) → WholeIn l h z → (zs : List ℤ) → ((i : ℕ) → WholeIn l h (get_or zs i (pos 0))) → (i : ℕ)
    → WholeIn l h (get_or (z ∷ zs) i (pos 0))
first l h z w zs r zero = w
first l h z w zs r (suc i) = r i

module _ (signed : Bool) where
  pub wholes-of : (outs : List Float) (n : ℕ) → length outs ≡ n → ((i : ℕ) → i < n → Level signed (get_or outs i nan)) → Wholes signed outs
  wholes-of [] n e h = record { numbers = []; within = λ i. omega arith; are = refl }
  wholes-of (x ∷ xs) n e h =
      let l = h 0 (omega arith) in
      let r = wholes-of xs (n - 1) (omega arith) (λ i b. h (suc i) (omega arith)) in
      record {
        numbers = l.number ∷ r.numbers;
        within = first _ _ l.number l.within r.numbers r.within;
        are = rw (l.is, ← r.are);
      }

  pub wholes-length : (outs : List Float) (w : Wholes signed outs) → length outs ≡ 8 → length w.numbers ≡ 8
  wholes-length outs w e = sym (length-map w.numbers whole_z) ∙ ap length (sym w.are) ∙ e

  -- their sizes sum up to at most 8 times 3825
  pub wholes-size : (zs : List ℤ) (c : ℕ) → length zs ≡ 8 → c < 8 → ((i : ℕ) → WholeIn (level_low signed) (level_high signed) (get_or zs i (pos 0)))
      → sizes (drop (7 - c) zs) ≤ 8 * level_most
  wholes-size zs c e k p = sizes-of (level_low signed) (level_high signed) (choice-low signed) (choice-high signed) zs c e k p

  -- R11: `out` of outputs in the range of a choice is in the range of that choice
  pub mix-value : (plain : Bool) (outs : List Float) (c : ℕ) → length outs ≡ 8 → Levels signed outs → c < 8
      → OutValue signed plain (mix_of outs c plain)
  mix-value plain outs c e h l =
      let w = wholes-of outs 8 e h in
      rw w.are (mix-between signed plain w.numbers c (wholes-length outs w e) l w.within)

  -- S16: neither it nor its sample is negative zero
  pub mix-no-minus : (plain : Bool) (outs : List Float) (c : ℕ) → length outs ≡ 8 → Levels signed outs → c < 8
      → NoMinusZero (mix_of outs c plain) × NoMinusZero (output_of (mix_of outs c plain))
  mix-no-minus plain outs c e h l =
      let w = wholes-of outs 8 e h in
      let zs = w.numbers in
      let s = wholes-size zs c (wholes-length outs w e) l w.within in
      rw w.are (out-no-minus zs c plain (omega arith) l, output-no-minus zs c plain (omega arith) l)

-- ---- `out` is an f32 value whatever the outputs are

from-fits : (t : Float) (xs : List Float) → T (fits binary32 t) → T (fits binary32 (sum_from t xs))
unfolding sum_from
from-fits t [] f = f
from-fits t (x ∷ xs) f = from-fits (add binary32 t x) xs (add-fits binary32 t x)

pub mix-fits : (outs : List Float) (c : ℕ) (plain : Bool) → T (fits binary32 (mix_of outs c plain))
unfolding mix_of sum_of
mix-fits outs c true = from-fits (of_bits binary32 0) (drop (7 - c) outs) (of_bits-fits binary32 0)
mix-fits outs c false = div-fits binary32 _ _

-- ---- a sample of such an `out` is no NaN

pub output-number : (l h : ℕ) (x : Float) → OutBetween l h x → T (not (is_nan (output_of x)))
unfolding output_of mul
output-number l h nan v = absurd v
output-number l h (inf s) v = absurd v
output-number l h (fin s m e) v = rw factor (round_number binary32 (unlike false s) (13743895 * 1 * (m * up e)) (2 ^ 37 * down e))
