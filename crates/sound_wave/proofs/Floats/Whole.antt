-- Floats that are whole numbers of either sign are added and subtracted without error, and divided with one rounding.
use Rattle.std.proofs.Common.{◌≡◌, ℕ, zero, suc, ◌+◌, ◌-◌, ◌*◌, ◌^◌, ◌<◌, ◌≤◌, Bool, true, false, cond, not, ◌&&◌, eqb, ltb, List, [], ◌∷◌, map, ℤ, pos, negsuc, ◌+ℤ◌, ◌-ℤ◌, nat_abs, sym, refl, ap, ◌∙◌, mul-le-mul_right, mul_assoc, mul_comm, add-mul, mul-lt-mul_of_pos_right, mul-pos, mul-one, mul_left_comm, arith, ltb-false, ltb-true, le-ltb, lt-ltb, ne_eqb}
use native.Mathlib.Nat.{mul-sub}
use lib.IntN.{sub_ℕ, +ℤ_assoc, +ℤ_idr}
use lib.Ieee.{Float, fin, Format, binary32, up, down, add, sub, neg, sum, div, round, of_int, unlike}
use lib.Ieee.Exact.{HasValue}
use lib.Ieee.Scale.{round_same}
use lib.Ieee.Fits.{down_pos}
use lib.Ieee.Positive.{first_pos}
use Rattle.sound_wave.specs.Mix.{sum_from, total, sizes}
use Rattle.sound.specs.Levels.{whole, whole_z, is_neg}
use Rattle.sound.proofs.levels.Laws.{valued, at_one, whole-value}

-- ---- a sum sees only the two values: X / de and Y / dd are a and b

ltb-scale : (a b k : ℕ) → 0 < k → ltb (a * k) (b * k) ≡ ltb a b
ltb-scale a b k K = go (ltb a b) refl
  where
    go : (t : Bool) → ltb a b ≡ t → ltb (a * k) (b * k) ≡ t
    go true e = lt-ltb (a * k) (b * k) (mul-lt-mul_of_pos_right (ltb-true a b e) K)
    go false e = le-ltb (a * k) (b * k) (mul-le-mul_right k (ltb-false a b e))

sub-scale : (a b k : ℕ) → (a * k - b * k) * 1 ≡ (a - b) * k
sub-scale a b k = mul-one _ ∙ rw (mul_comm a k, mul_comm b k, mul_comm (a - b) k) (sym (mul-sub k a b))

add-scale : (a b k : ℕ) → (a * k + b * k) * 1 ≡ (a + b) * k
add-scale a b k = mul-one _ ∙ sym (add-mul a b k)

sum-scale : (f : Format) (s t : Bool) (a b k : ℕ) → 0 < k → sum f s (a * k) t (b * k) k ≡ sum f s a t b 1
unfolding sum
sum-scale f s t a b k K =
    rw (
      ltb-scale a b k K,
      ltb-scale b a k K,
      round_same f s (a * k + b * k) k (a + b) 1 K (omega arith) (add-scale a b k),
      round_same f t (b * k - a * k) k (b - a) 1 K (omega arith) (sub-scale b a k),
      round_same f (s && ltb b a) (a * k - b * k) k (a - b) 1 K (omega arith) (sub-scale a b k),
    )

first-cross : (X a de dd : ℕ) → X ≡ a * de → X * dd ≡ a * (de * dd)
first-cross X a de dd p = rw p (mul_assoc a de dd)

second-cross : (Y b de dd : ℕ) → Y ≡ b * dd → Y * de ≡ b * (de * dd)
second-cross Y b de dd q = rw q (mul_assoc b dd de ∙ ap (λ (z : ℕ). b * z) (mul_comm dd de))

cross-div : (X Y a b de dd : ℕ) → X ≡ a * de → Y ≡ b * dd → X * dd * b ≡ a * (Y * de)
cross-div X Y a b de dd p q = rw (p, q) (simp (mul_assoc, mul_comm, mul_left_comm))

module _ (f : Format) (x y : Float) (s t : Bool) (a b : ℕ) (p : HasValue x s a 1) (q : HasValue y t b 1) where
  add_at : add f x y ≡ sum f s a t b 1
  unfolding add
  add_at =
      let u = valued x s a 1 p in let m = u.mantissa in let e = u.exponent in
      let v = valued y t b 1 q in let n = v.mantissa in let d = v.exponent in
      rw (u.is, v.is, first-cross (m * up e) a (down e) (down d) (at_one u), second-cross (n * up d) b (down e) (down d) (at_one v))
      (sum-scale f s t a b (down e * down d) (mul-pos (down_pos e) (down_pos d)))

  sub_at : sub f x y ≡ sum f s a (not t) b 1
  unfolding sub neg add
  sub_at =
      let u = valued x s a 1 p in let m = u.mantissa in let e = u.exponent in
      let v = valued y t b 1 q in let n = v.mantissa in let d = v.exponent in
      rw (u.is, v.is, first-cross (m * up e) a (down e) (down d) (at_one u), second-cross (n * up d) b (down e) (down d) (at_one v))
      (sum-scale f s (not t) a b (down e * down d) (mul-pos (down_pos e) (down_pos d)))

  div-at : 0 < b → div f x y ≡ round f (unlike s t) a b
  unfolding div
  div-at B =
      let u = valued x s a 1 p in let m = u.mantissa in let e = u.exponent in
      let v = valued y t b 1 q in let n = v.mantissa in let d = v.exponent in
      let h : 0 < n * up d = rw (at_one v) (mul-pos B (down_pos d)) in
      let z : eqb n 0 ≡ false = ne_eqb n 0 (λ e. omega (arith, first_pos n (up d) h)) in
      rw (u.is, v.is, z)
      (round_same f (unlike s t) (m * up e * down d) (n * up d * down e) a b (mul-pos h (down_pos e)) B
      (cross-div (m * up e) (n * up d) a b (down e) (down d) (at_one u) (at_one v)))

-- ---- the sum of two whole numbers is the float of their sum

sum-int : (f : Format) (a b : ℤ) → sum f (is_neg a) (nat_abs a) (is_neg b) (nat_abs b) 1 ≡ of_int f (a +ℤ b)
unfolding sum of_int
sum-int f (pos a) (pos b) = refl
sum-int f (pos a) (negsuc b) = go (ltb a (suc b)) refl
  where
    go : (t : Bool) → ltb a (suc b) ≡ t
        → cond t (round f true (suc b - a) 1) (round f false (a - suc b) 1) ≡ of_int f (cond t (negsuc (suc b - suc a)) (pos (a - suc b)))
    go true e = let h = ltb-true a (suc b) e in ap (λ (n : ℕ). round f true n 1) (omega arith)
    go false e = refl
sum-int f (negsuc a) (pos b) = go (ltb (suc a) b) (ltb b (suc a)) refl refl
  where
    go : (t u : Bool) → ltb (suc a) b ≡ t → ltb b (suc a) ≡ u
        → cond t (round f false (b - suc a) 1) (round f u (suc a - b) 1) ≡ of_int f (cond u (negsuc (suc a - suc b)) (pos (b - suc a)))
    go true true p q = absurd (omega (arith, ltb-true (suc a) b p, ltb-true b (suc a) q))
    go true false p q = refl
    go false true p q = let h = ltb-true b (suc a) q in ap (λ (n : ℕ). round f true n 1) (omega arith)
    go false false p q =
        let h = ltb-false (suc a) b p in let k = ltb-false b (suc a) q in
        ap (λ (n : ℕ). round f false n 1) (omega arith)
sum-int f (negsuc a) (negsuc b) = ap (λ (n : ℕ). round f true n 1) (omega arith)

-- ---- whole numbers up to 2 ^ 24 in size

pub add-int : (a b : ℤ) → nat_abs a ≤ 2 ^ 24 → nat_abs b ≤ 2 ^ 24 → add binary32 (whole_z a) (whole_z b) ≡ whole_z (a +ℤ b)
add-int a b p q =
    add_at binary32 (whole_z a) (whole_z b) (is_neg a) (is_neg b) (nat_abs a) (nat_abs b) (whole-value a p) (whole-value b q)
    ∙ sum-int binary32 a b

-- taking +0 away is adding −0, which never shows
take-zero : (f : Format) (a : ℤ) → sum f (is_neg a) (nat_abs a) true 0 1 ≡ of_int f a
unfolding sum of_int
take-zero f (pos a) = rw (le-ltb a 0 (omega arith)) (ap (λ (n : ℕ). round f false n 1) (omega arith))
take-zero f (negsuc a) = ap (λ (n : ℕ). round f true n 1) (omega arith)

sub-int-at : (f : Format) (a b : ℤ) → sum f (is_neg a) (nat_abs a) (not (is_neg b)) (nat_abs b) 1 ≡ of_int f (a -ℤ b)
sub-int-at f a (pos zero) = take-zero f a ∙ ap (of_int f) (sym (+ℤ_idr a))
sub-int-at f a (pos (suc b)) = sum-int f a (negsuc b)
sub-int-at f a (negsuc b) = sum-int f a (pos (suc b))

pub sub-int : (a b : ℤ) → nat_abs a ≤ 2 ^ 24 → nat_abs b ≤ 2 ^ 24 → sub binary32 (whole_z a) (whole_z b) ≡ whole_z (a -ℤ b)
sub-int a b p q =
    sub_at binary32 (whole_z a) (whole_z b) (is_neg a) (is_neg b) (nat_abs a) (nat_abs b) (whole-value a p) (whole-value b q)
    ∙ sub-int-at binary32 a b

-- negative zero is no other start of a sum than zero
minus-at : (f : Format) (a : ℤ) → sum f true 0 (is_neg a) (nat_abs a) 1 ≡ sum f false 0 (is_neg a) (nat_abs a) 1
unfolding sum
minus-at f (pos a) = go (ltb 0 a) refl
  where
    go : (t : Bool) → ltb 0 a ≡ t → cond t (round f false (a - 0) 1) (round f (true && ltb a 0) (0 - a) 1) ≡ round f false (0 + a) 1
    go true e = ap (λ (n : ℕ). round f false n 1) (omega arith)
    go false e = let l = ltb-false 0 a e in rw (le-ltb a 0 (omega arith)) (ap (λ (n : ℕ). round f false n 1) (omega arith))
minus-at f (negsuc a) = rw (lt-ltb 0 (suc a) (omega arith)) (ap (λ (n : ℕ). round f true n 1) (omega arith))

pub minus-zero : (a : ℤ) → nat_abs a ≤ 2 ^ 24 → add binary32 (fin true 0 (pos 0)) (whole_z a) ≡ add binary32 (fin false 0 (pos 0)) (whole_z a)
minus-zero a h =
    let v = whole-value a h in
    add_at binary32 (fin true 0 (pos 0)) (whole_z a) true (is_neg a) 0 (nat_abs a) (refl, refl) v ∙ minus-at binary32 a
    ∙ sym (add_at binary32 (fin false 0 (pos 0)) (whole_z a) false (is_neg a) 0 (nat_abs a) (refl, refl) v)

-- divided by a number of channels: one rounding of the exact quotient, with the sum's sign
plus-unlike : (s : Bool) → unlike s false ≡ s
plus-unlike true = refl
plus-unlike false = refl

pub div-int : (a : ℤ) (n : ℕ) → 0 < n → nat_abs a ≤ 2 ^ 24 → n ≤ 2 ^ 24
    → div binary32 (whole_z a) (whole n) ≡ round binary32 (is_neg a) (nat_abs a) n
div-int a n N p q =
    div-at binary32 (whole_z a) (whole n) (is_neg a) false (nat_abs a) n (whole-value a p) (whole-value (pos n) q) N
    ∙ ap (λ (s : Bool). round binary32 s (nat_abs a) n) (plus-unlike (is_neg a))

-- ---- the f32 sum of whole numbers, from the left, is the exact sum

pub sub-size : (a b : ℕ) → nat_abs (sub_ℕ a b) ≤ a + b
sub-size a b = go (ltb a b) refl
  where
    go : (t : Bool) → ltb a b ≡ t → nat_abs (cond t (negsuc (b - suc a)) (pos (a - b))) ≤ a + b
    go true e = omega (arith, ltb-true a b e)
    go false e = omega arith

pub add-size : (a b : ℤ) → nat_abs (a +ℤ b) ≤ nat_abs a + nat_abs b
add-size (pos a) (pos b) = omega arith
add-size (pos a) (negsuc b) = sub-size a (suc b)
add-size (negsuc a) (pos b) = omega (arith, sub-size b (suc a))
add-size (negsuc a) (negsuc b) = omega arith

pub total_size : (zs : List ℤ) → nat_abs (total zs) ≤ sizes zs
unfolding total sizes
total_size [] = omega arith
total_size (z ∷ zs) = omega (arith, add-size z (total zs), total_size zs)

pub sum-exact : (zs : List ℤ) (t : ℤ) → nat_abs t + sizes zs ≤ 2 ^ 24 → sum_from (whole_z t) (map whole_z zs) ≡ whole_z (t +ℤ total zs)
unfolding sum_from total sizes
sum-exact [] t h = ap whole_z (sym (+ℤ_idr t))
sum-exact (z ∷ zs) t h =
    ap (λ (x : Float). sum_from x (map whole_z zs)) (add-int t z (omega arith) (omega arith))
    ∙ sum-exact zs (t +ℤ z) (omega (arith, add-size t z))
    ∙ ap whole_z (+ℤ_assoc t z (total zs))
