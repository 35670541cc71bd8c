-- Laws of fields: both round trips for any widths, fields behind fields, and the fields of each element of an array.
use mathlib.Core.Path.{◌≡◌, refl, sym, ap, ap₂, ◌∙◌}
use mathlib.Core.Bool.{Bool, true, false}
use mathlib.Core.List.{List, [], ◌∷◌, ◌++◌, append_assoc, append-nil}
use Prim.Native.Nat.{ℕ, zero, suc, ◌+◌, ◌*◌, ◌^◌, ◌/◌, ◌%◌, ◌≤◌, ◌<◌}
use native.Mathlib.Nat.{mod-lt, zero-add, zero-mul, mod-eq_of_lt, mod-one, suc_inj, mul-le-mul_right, add-zero}
use native.Mathlib.Omega.{arith}
use lib.Dec.{eqb}
use lib.Pow.{pow_pos, pow-add, high, low, mod-pow-add}
use lib.Arith.{digits_lt}
use lib.ListN.{length, get_or, replicate, length-append, replicate-append-replicate}
use Rattle.bits.specs.Fields.{total, pack, unpack, Fit, after, bit, times, each}

-- ---- the two round trips

pub pack-lt : (ws vs : List ℕ) → Fit ws vs → pack ws vs < 2 ^ total ws
unfolding total pack
pack-lt [] [] f = pow_pos 0
pack-lt [] (v ∷ vs) f = absurd f
pack-lt (w ∷ ws) [] f = absurd f
pack-lt (w ∷ ws) (v ∷ vs) f = rw (pow-add 2 w (total ws)) (digits_lt f.0 (pack-lt ws vs f.1))

regroup : (k v a b p : ℕ) → k * (a * b) + (v * b + p) ≡ (k * a + v) * b + p
regroup k v a b p = omega arith

-- whatever stands above, the fields come back
pub unpack-pack-on : (k : ℕ) (ws vs : List ℕ) → Fit ws vs → unpack ws (k * 2 ^ total ws + pack ws vs) ≡ vs
unfolding total pack unpack
unpack-pack-on k [] [] f = refl
unpack-pack-on k [] (v ∷ vs) f = absurd f
unpack-pack-on k (w ∷ ws) [] f = absurd f
unpack-pack-on k (w ∷ ws) (v ∷ vs) f =
    rw (pow-add 2 w (total ws), regroup k v (2 ^ w) (2 ^ total ws) (pack ws vs))
    (ap₂ (λ (x : ℕ) (xs : List ℕ). x ∷ xs)
    (ap (λ (x : ℕ). x % 2 ^ w) (high (k * 2 ^ w + v) (total ws) (pack-lt ws vs f.1)) ∙ low k w f.0)
    (unpack-pack-on (k * 2 ^ w + v) ws vs f.1))

pub unpack-pack : (ws vs : List ℕ) → Fit ws vs → unpack ws (pack ws vs) ≡ vs
unpack-pack ws vs f =
    ap (unpack ws) (sym (ap (λ (x : ℕ). x + pack ws vs) (zero-mul (2 ^ total ws)) ∙ zero-add (pack ws vs)))
    ∙ unpack-pack-on 0 ws vs f

pub pack-unpack-mod : (ws : List ℕ) (n : ℕ) → pack ws (unpack ws n) ≡ n % 2 ^ total ws
unfolding total pack unpack
pack-unpack-mod [] n = sym (mod-one n)
pack-unpack-mod (w ∷ ws) n =
    ap (λ (x : ℕ). n / 2 ^ total ws % 2 ^ w * 2 ^ total ws + x) (pack-unpack-mod ws n) ∙ sym (mod-pow-add n w (total ws))

pub pack-unpack : (ws : List ℕ) (n : ℕ) → n < 2 ^ total ws → pack ws (unpack ws n) ≡ n
pack-unpack ws n h = pack-unpack-mod ws n ∙ mod-eq_of_lt h

pub fit-unpack : (ws : List ℕ) (n : ℕ) → Fit ws (unpack ws n)
unfolding unpack
fit-unpack [] n = tt
fit-unpack (w ∷ ws) n = (mod-lt (n / 2 ^ total ws) (pow_pos w), fit-unpack ws n)

pub total-append : (ws us : List ℕ) → total (ws ++ us) ≡ total ws + total us
unfolding total
total-append [] us = omega arith
total-append (w ∷ ws) us = omega (arith, total-append ws us)

-- fields behind fields
pub pack-append : (ws us vs xs : List ℕ) → length ws ≡ length vs → pack (ws ++ us) (vs ++ xs)
    ≡ pack ws vs * 2 ^ total us + pack us xs
unfolding pack
pack-append [] us [] xs e = omega arith
pack-append [] us (v ∷ vs) xs e = omega arith
pack-append (w ∷ ws) us [] xs e = omega arith
pack-append (w ∷ ws) us (v ∷ vs) xs e =
    rw (total-append ws us, pow-add 2 (total ws) (total us), pack-append ws us vs xs (suc_inj e)) (omega arith)

pub length-unpack : (ws : List ℕ) (n : ℕ) → length (unpack ws n) ≡ length ws
unfolding unpack
length-unpack [] n = refl
length-unpack (w ∷ ws) n = ap suc (length-unpack ws n)

-- ---- fields behind a number

pub after_one : (S w v : ℕ) → S * 2 ^ w + v ≡ after S (w ∷ []) (v ∷ [])
unfolding after total pack
after_one S w v = rw (add-zero w) (omega arith)

pub after-append : (S : ℕ) (ws vs us xs : List ℕ) → length ws ≡ length vs → after (after S ws vs) us xs ≡ after S (ws ++ us) (vs ++ xs)
unfolding after
after-append S ws vs us xs e =
    rw (total-append ws us, pow-add 2 (total ws) (total us), pack-append ws us vs xs e) (omega arith)

pub after-word : (S : ℕ) (ws vs : List ℕ) → after S (total ws ∷ []) (pack ws vs ∷ []) ≡ after S ws vs
unfolding after
after-word S ws vs = sym (after_one S (total ws) (pack ws vs))

-- ---- values that fit

pub fit_length : (ws vs : List ℕ) → Fit ws vs → length ws ≡ length vs
fit_length [] [] f = refl
fit_length [] (v ∷ vs) f = absurd f
fit_length (w ∷ ws) [] f = absurd f
fit_length (w ∷ ws) (v ∷ vs) f = ap suc (fit_length ws vs f.1)

pub fit_append : (ws us vs xs : List ℕ) → Fit ws vs → Fit us xs → Fit (ws ++ us) (vs ++ xs)
fit_append [] us [] xs f g = g
fit_append [] us (v ∷ vs) xs f g = absurd f
fit_append (w ∷ ws) us [] xs f g = absurd f
fit_append (w ∷ ws) us (v ∷ vs) xs f g = (f.0, fit_append ws us vs xs f.1 g)

-- a value of a run, and what is read beyond the last
pub fit-below : (n w : ℕ) (xs : List ℕ) → Fit (replicate n w) xs → (i : ℕ) → get_or xs i 0 < 2 ^ w
fit-below n w [] f i = pow_pos w
fit-below zero w (x ∷ xs) f i = absurd f
fit-below (suc n) w (x ∷ xs) f zero = f.0
fit-below (suc n) w (x ∷ xs) f (suc i) = fit-below n w xs f.1 i

pub bit-lt : (b : Bool) → bit b < 2
bit-lt true = omega arith
bit-lt false = omega arith

pub bit-eqb : (v : ℕ) → v < 2 → v ≡ bit (eqb v 1)
bit-eqb zero h = refl
bit-eqb (suc zero) h = refl
bit-eqb (suc (suc v)) h = omega arith

-- ---- fields of one width

-- one more of a run
pub replicate-snoc : (n w : ℕ) → replicate n w ++ w ∷ [] ≡ replicate (n + 1) w
replicate-snoc n w = replicate-append-replicate n 1 w

pub total-replicate : (n w : ℕ) → total (replicate n w) ≡ n * w
unfolding total
total-replicate zero w = omega arith
total-replicate (suc n) w = omega (arith, total-replicate n w)

-- one more field of a run has room where the whole run has
pub room : (i n w : ℕ) → i < n → i * w + w ≤ n * w
room i n w h = omega (arith, mul-le-mul_right w h)

-- ---- the fields of each element of an array

pub each_append : {A : Type 0} (f : A → List ℕ) (xs ys : List A) → each f (xs ++ ys) ≡ each f xs ++ each f ys
unfolding each
each_append f [] ys = refl
each_append f (x ∷ xs) ys = ap (λ (l : List ℕ). f x ++ l) (each_append f xs ys) ∙ sym (append_assoc (f x) (each f xs) (each f ys))

pub each_snoc : {A : Type 0} (f : A → List ℕ) (xs : List A) (x : A) → each f (xs ++ x ∷ []) ≡ each f xs ++ f x
unfolding each
each_snoc f xs x = each_append f xs (x ∷ []) ∙ ap (λ (l : List ℕ). each f xs ++ l) (append-nil (f x))

pub times-add : (n m : ℕ) (ws : List ℕ) → times (n + m) ws ≡ times n ws ++ times m ws
unfolding times
times-add zero m ws = ap (λ (k : ℕ). times k ws) (zero-add m)
times-add (suc n) m ws =
    ap (λ (k : ℕ). times k ws) (let e : suc n + m ≡ suc (n + m) = omega arith in e)
    ∙ ap (λ (l : List ℕ). ws ++ l) (times-add n m ws) ∙ sym (append_assoc ws (times n ws) (times m ws))

pub total-times : (n : ℕ) (ws : List ℕ) → total (times n ws) ≡ n * total ws
unfolding times total
total-times zero ws = omega arith
total-times (suc n) ws = total-append ws (times n ws) ∙ omega (arith, total-times n ws)

pub times-each : {A : Type 0} (f : A → List ℕ) (ws : List ℕ) → ((x : A) → length ws ≡ length (f x)) → (n : ℕ) (xs : List A)
    → length xs ≡ n → length (times n ws) ≡ length (each f xs)
unfolding times each
times-each f ws h zero [] e = refl
times-each f ws h zero (x ∷ xs) e = omega arith
times-each f ws h (suc n) [] e = omega arith
times-each f ws h (suc n) (x ∷ xs) e =
    omega (arith, length-append ws (times n ws), length-append (f x) (each f xs), h x, times-each f ws h n xs (suc_inj e))
