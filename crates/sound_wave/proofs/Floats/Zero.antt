-- No sum, mean or sample of whole levels is negative zero: its bits are never 80000000.
use Rattle.std.proofs.Common.{◌≡◌, ℕ, suc, ◌-◌, ◌*◌, ◌^◌, ◌<◌, ◌≤◌, Bool, true, false, ◌&&◌, ◌||◌, T, eqb, ltb, ℤ, pos, negsuc, nat_abs, sym, refl, ap, ◌∙◌, true≢false, mul-pos, one-mul, arith, pow_pos, ltb-true, eqb-true}
use lib.Ieee.{Float, nan, inf, fin, binary32, up, down, neg, unlike, mul, round, of_int, of_bits, to_bits, fits, le, lt, eq}
use lib.Ieee.Bits.{of_bits-to_bits}
use lib.Ieee.Fits.{down_pos, round-fits, mul-fits}
use lib.Ieee.Order.{round_mono}
use Rattle.sound.specs.Levels.{whole_z, is_neg}
use Rattle.sound.proofs.Floats.Sign.{Plus, round-plus, mul-plus, round-neg}
use Rattle.sound_wave.specs.Mix.{NoMinusZero, output_of}

minus-bits : of_bits binary32 0x80000000 ≡ fin true 0 (pos 0)
unfolding of_bits
minus-bits = refl

by_value : (x : Float) → T (fits binary32 x) → (x ≡ fin true 0 (pos 0) → ⊥) → NoMinusZero x
by_value x f n e = n (sym (of_bits-to_bits binary32 x f) ∙ ap (of_bits binary32) e ∙ minus-bits)

-- ---- what is at least 1 / b does not round to zero

-- a float of size at least 1 / b
abbrev pub AtLeast : ℕ → Float → Type 0
AtLeast b nan = ⊥
AtLeast b (inf s) = Unit {0}
AtLeast b (fin s m e) = down e ≤ m * up e * b

neg-at-least : (b : ℕ) (x : Float) → AtLeast b x → AtLeast b (neg x)
unfolding neg
neg-at-least b nan h = h
neg-at-least b (inf s) h = h
neg-at-least b (fin s m e) h = h

pub or-lt-eq : (a b : ℕ) → T (ltb a b || (eqb a b && true)) → a ≤ b
or-lt-eq a b h = go (ltb a b) (eqb a b) refl refl h
  where
    go : (x y : Bool) → ltb a b ≡ x → eqb a b ≡ y → T (x || (y && true)) → a ≤ b
    go true y p q t = omega (arith, ltb-true a b p)
    go false true p q t = omega (arith, eqb-true a b q)
    go false false p q t = absurd t

above : (j : ℕ) (x : Float) → Plus x → T (le (fin false 1 (negsuc j)) x) → AtLeast (2 ^ suc j) x
unfolding le lt eq
above j nan p h = absurd p
above j (inf s) p h = tt
above j (fin true m e) p h = absurd (true≢false p)
above j (fin false m e) p h = omega (arith, or-lt-eq (1 * 1 * down e) (m * up e * 2 ^ suc j) h, one-mul (1 * down e), one-mul (down e))

-- 1 / 8, and what is below every sample that is not zero
pub eighth : round binary32 false 1 (2 ^ 3) ≡ fin false 1 (negsuc 2)
unfolding round
eighth = refl

tiny : round binary32 false 1 (2 ^ 30) ≡ fin false 1 (negsuc 29)
unfolding round
tiny = refl

plus-at-least : (j : ℕ) → round binary32 false 1 (2 ^ suc j) ≡ fin false 1 (negsuc j) → (a c : ℕ) → 0 < c → c ≤ a * 2 ^ suc j
    → AtLeast (2 ^ suc j) (round binary32 false a c)
plus-at-least j e a c C h =
    above j (round binary32 false a c) (round-plus binary32 a c)
    (rw e at (round_mono binary32 1 (2 ^ suc j) a c (pow_pos (suc j)) C (rw one-mul h)))

pub at_least : (j : ℕ) → round binary32 false 1 (2 ^ suc j) ≡ fin false 1 (negsuc j) → (s : Bool) (a c : ℕ) → 0 < c → c ≤ a * 2 ^ suc j
    → AtLeast (2 ^ suc j) (round binary32 s a c)
at_least j e false a c C h = plus-at-least j e a c C h
at_least j e true a c C h =
    rw (round-neg binary32 a c) (neg-at-least (2 ^ suc j) (round binary32 false a c) (plus-at-least j e a c C h))

not-zero : (b : ℕ) (x : Float) → AtLeast b x → x ≡ fin true 0 (pos 0) → ⊥
not-zero b x h e = let k : AtLeast b (fin true 0 (pos 0)) = rw e at h in omega arith

plus-not : (x : Float) → Plus x → x ≡ fin true 0 (pos 0) → ⊥
plus-not x p e = let k : Plus (fin true 0 (pos 0)) = rw e at p in true≢false k

-- ---- quotients of whole numbers by 1 to 8, so whole numbers too

pub mean-no-minus : (z : ℤ) (n : ℕ) → 0 < n → n ≤ 8 → NoMinusZero (round binary32 (is_neg z) (nat_abs z) n)
mean-no-minus (pos a) n N h = by_value _ (round-fits binary32 false a n) (plus-not _ (round-plus binary32 a n))
mean-no-minus (negsuc a) n N h =
    by_value _ (round-fits binary32 true (suc a) n)
    (not-zero 8 _ (at_least 2 eighth true (suc a) n N (omega arith)))

pub whole-no-minus : (z : ℤ) → NoMinusZero (whole_z z)
unfolding of_int
whole-no-minus (pos a) = mean-no-minus (pos a) 1 (omega arith) (omega arith)
whole-no-minus (negsuc a) = mean-no-minus (negsuc a) 1 (omega arith) (omega arith)

-- ---- and their products with 0.0001

-- 0.0001 as an f32 is 13743895 / 2 ^ 37
pub factor : of_bits binary32 0x38D1B717 ≡ fin false 13743895 (negsuc 36)
unfolding of_bits
factor = refl

output-plus : (x : Float) → Plus x → Plus (output_of x)
unfolding output_of mul
output-plus nan p = absurd p
output-plus (inf true) p = absurd (true≢false p)
output-plus (inf false) p = rw factor refl
output-plus (fin true m e) p = absurd (true≢false p)
output-plus (fin false m e) p = rw factor (mul-plus binary32 13743895 (negsuc 36) m e)

small_product : (X D : ℕ) → D ≤ X * 8 → 2 ^ 37 * D ≤ 13743895 * 1 * X * 2 ^ 30
small_product X D h = omega arith

output-not-zero : (x : Float) → AtLeast 8 x → output_of x ≡ fin true 0 (pos 0) → ⊥
unfolding output_of mul
output-not-zero nan h e = h
output-not-zero (inf s) h e =
    let z : inf (unlike false s) ≡ fin true 0 (pos 0) = rw factor at e in
    let o : ◌≡◌ {A = ℕ} 0 1 = cc in omega arith
output-not-zero (fin s m e) h i =
    not-zero (2 ^ 30) (round binary32 (unlike false s) (13743895 * 1 * (m * up e)) (2 ^ 37 * down e))
    (at_least 29 tiny (unlike false s) (13743895 * 1 * (m * up e)) (2 ^ 37 * down e) (mul-pos (pow_pos 37) (down_pos e)) (small_product (m * up e) (down e) h))
    (rw factor at i)

pub sample-no-minus : (z : ℤ) (n : ℕ) → 0 < n → n ≤ 8 → NoMinusZero (output_of (round binary32 (is_neg z) (nat_abs z) n))
unfolding output_of
sample-no-minus (pos a) n N h = by_value _ (mul-fits binary32 _ _) (plus-not _ (output-plus _ (round-plus binary32 a n)))
sample-no-minus (negsuc a) n N h =
    by_value _ (mul-fits binary32 _ _)
    (output-not-zero (round binary32 true (suc a) n) (at_least 2 eighth true (suc a) n N (omega arith)))

-- ---- why a level is a whole number first: the product of the floats −8 and 0 is −0

product-is-minus : to_bits binary32 (mul binary32 (whole_z (negsuc 7)) (whole_z (pos 0))) ≡ 0x80000000
unfolding mul of_int to_bits
product-is-minus = refl
