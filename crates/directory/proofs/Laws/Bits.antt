-- The bits of an or, an and, a power, and of a run of ones; a number is not 0 where some bit is set. Assumes nothing.
use Rattle.std.proofs.Common.{◌≡◌, ℕ, zero, suc, ◌+◌, ◌-◌, ◌*◌, ◌/◌, ◌%◌, ◌^◌, ◌<◌, ◌≤◌, min, max, Bool, not, ◌&&◌, ◌||◌, eqb, leb, refl, ap, ◌∙◌, lt_of_le_of_lt, lt_of_lt_of_le, mod-lt, mul_comm, mul-one, one-mul, pow-add, pow_mono, one-add, arith, pow_pos, shl_exact, shr_lt, eq-eqb, ne_eqb, le-leb}
use native.Mathlib.Decide.{dec_le, ℕ_discrete}
use lib.Bits.{bit_and, bit_or, and_comm, or_add_and, and_le_l, and_le_r}
use lib.Pow.{split, ones_lt}
use Rattle.std.specs.Int.{bit_at}
use Rattle.std.proofs.lemmas.Nat.Bits.{bit_at-lt, bit_at_or, bit_at_and, bit_at-pow_same, bit_at-pow_other, bit_at_mask_inside, bit_at_mask_below, bit_at_mask_above, bit_at_ones, bit_at_ones_above, and_high_mask, ones_shl, ones_shr}
use Rattle.std.proofs.Math.Nat.{mul-sub}
use Rattle.std.proofs.lemmas.Bool.{lt-leb}
use Rattle.memory.specs.Page.{has_bit}
use Rattle.directory.specs.Drop.{some_below}

-- ---- bit by bit

digit : (x y : ℕ) → x < 2 → y < 2 → (eqb (max x y) 1 ≡ (eqb x 1 || eqb y 1)) × (eqb (min x y) 1 ≡ (eqb x 1 && eqb y 1))
digit zero zero h k = (refl, refl)
digit zero (suc zero) h k = (refl, refl)
digit zero (suc (suc y)) h k = absurd (omega arith)
digit (suc zero) zero h k = (refl, refl)
digit (suc zero) (suc zero) h k = (refl, refl)
digit (suc zero) (suc (suc y)) h k = absurd (omega arith)
digit (suc (suc x)) y h k = absurd (omega arith)

pub bit-or : (k a b : ℕ) → has_bit k (bit_or a b) ≡ (has_bit k a || has_bit k b)
bit-or k a b = ap (λ (n : ℕ). eqb n 1) (bit_at_or a b k) ∙ (digit (bit_at a k) (bit_at b k) (bit_at-lt a k) (bit_at-lt b k)).0

pub bit-and : (k a b : ℕ) → has_bit k (bit_and a b) ≡ (has_bit k a && has_bit k b)
bit-and k a b = ap (λ (n : ℕ). eqb n 1) (bit_at_and a b k) ∙ (digit (bit_at a k) (bit_at b k) (bit_at-lt a k) (bit_at-lt b k)).1

pub bit-pow : (j b : ℕ) → has_bit j (2 ^ b) ≡ eqb j b
bit-pow j b = by (ℕ_discrete j b)
  where
    by : Dec (j ≡ b) → has_bit j (2 ^ b) ≡ eqb j b
    by (yes e) = rw (e, eq-eqb b b refl) (eq-eqb _ 1 (bit_at-pow_same b))
    by (no e) = rw (ne_eqb j b e) (ne_eqb _ 1 (λ z. omega (arith, bit_at-pow_other b j e)))

-- ---- a run of ones

-- c ones from place f on
pub ones_run : (f c : ℕ) → (2 ^ c - 1) * 2 ^ f ≡ 2 ^ (c + f) - 2 ^ f
ones_run f c = rw (pow-add 2 c f, mul_comm (2 ^ c - 1) (2 ^ f), mul-sub (2 ^ f) (2 ^ c) 1, mul-one (2 ^ f), mul_comm (2 ^ f) (2 ^ c)) refl

-- the last of them at `last`
pub bit-ones : (f c last k : ℕ) → f + c ≡ last + 1 → has_bit k ((2 ^ c - 1) * 2 ^ f) ≡ (leb f k && leb k last)
bit-ones f c last k e = rw (ones_run f c) (by (dec_le f k) (dec_le k last))
  where
    by : Dec (f ≤ k) → Dec (k ≤ last) → has_bit k (2 ^ (c + f) - 2 ^ f) ≡ (leb f k && leb k last)
    by (yes p) (yes q) = rw (le-leb f k p, le-leb k last q) (eq-eqb _ 1 (bit_at_mask_inside f (c + f) k p (omega (arith, e, q))))
    by (yes p) (no q) =
        rw (le-leb f k p, lt-leb k last (omega (arith, q)))
        (ne_eqb _ 1 (λ z. omega (arith, bit_at_mask_above f (c + f) k (omega (arith, e, q)))))
    by (no p) q = rw (lt-leb f k (omega (arith, p))) (ne_eqb _ 1 (λ z. omega (arith, bit_at_mask_below f (c + f) k (omega (arith, p)))))

-- ---- the ones from place f to place l, as the code makes them

high_ones : (f k : ℕ) → k < 64 → has_bit k (2 ^ 64 - 2 ^ f) ≡ leb f k
high_ones f k h = by (dec_le f k)
  where
    by : Dec (f ≤ k) → has_bit k (2 ^ 64 - 2 ^ f) ≡ leb f k
    by (yes p) = rw (le-leb f k p) (eq-eqb _ 1 (bit_at_mask_inside f 64 k p h))
    by (no p) = rw (lt-leb f k (omega (arith, p))) (ne_eqb _ 1 (λ z. omega (arith, bit_at_mask_below f 64 k (omega (arith, p)))))

low_ones : (l k : ℕ) → k < 64 → has_bit k (2 ^ (64 - (63 - l)) - 1) ≡ leb k l
low_ones l k h = by (dec_le k l)
  where
    by : Dec (k ≤ l) → has_bit k (2 ^ (64 - (63 - l)) - 1) ≡ leb k l
    by (yes p) = rw (le-leb k l p) (eq-eqb _ 1 (bit_at_ones (64 - (63 - l)) k (omega (arith, p))))
    by (no p) = rw (lt-leb k l (omega (arith, p))) (ne_eqb _ 1 (λ z. omega (arith, bit_at_ones_above (64 - (63 - l)) k (omega (arith, p)))))

pub ones_between : (f l k : ℕ) → f < 64 → k < 64
    → has_bit k (bit_and ((2 ^ 64 - 1) * 2 ^ f % 2 ^ 64) ((2 ^ 64 - 1) / 2 ^ (63 - l))) ≡ (leb f k && leb k l)
ones_between f l k a c =
    rw (ones_shl 64 f (omega arith), ones_shr 64 (63 - l) (omega arith), bit-and k (2 ^ 64 - 2 ^ f) (2 ^ (64 - (63 - l)) - 1), high_ones f k c, low_ones l k c)

-- which are c of them
pub ones_code : (f c l : ℕ) → f + c ≡ l + 1 → l < 64
    → bit_and ((2 ^ 64 - 1) * 2 ^ f % 2 ^ 64) ((2 ^ 64 - 1) / 2 ^ (63 - l)) ≡ (2 ^ c - 1) * 2 ^ f
ones_code f c l e h =
    rw (
      ones_shl 64 f (omega arith),
      ones_shr 64 (63 - l) (omega arith),
      last,
      and_comm (2 ^ 64 - 2 ^ f) (2 ^ (c + f) - 1),
      and_high_mask 64 f (omega arith) (2 ^ (c + f) - 1) (lt_of_lt_of_le (ones_lt (c + f)) (pow_mono {i = c + f} {j = 64} (omega arith))),
      ones_shr (c + f) f (omega arith),
      count,
    )
  where
    last : 64 - (63 - l) ≡ c + f
    last = omega (arith, e, h)

    count : c + f - f ≡ c
    count = omega arith

-- ---- some bit is set

pub some_below-ext : (n : ℕ) (p q : ℕ → Bool) → ((k : ℕ) → k < n → p k ≡ q k) → some_below n p ≡ some_below n q
unfolding some_below
some_below-ext zero p q e = refl
some_below-ext (suc n) p q e = rw (e n (omega arith), some_below-ext n p q (λ k h. e k (omega arith)))

pub some-bit : (w n : ℕ) → n < 2 ^ w → not (eqb n 0) ≡ some_below w (λ k. has_bit k n)
unfolding some_below
some-bit zero n h = rw (eq-eqb n 0 (omega arith))
some-bit (suc w) n h = go (some-bit w n) (n / 2 ^ w) refl
  where
    s : n / 2 ^ w * 2 ^ w + n % 2 ^ w ≡ n
    s = split n w

    go : (n < 2 ^ w → not (eqb n 0) ≡ some_below w (λ k. has_bit k n)) → (q : ℕ) → n / 2 ^ w ≡ q
        → not (eqb n 0) ≡ (eqb (n / 2 ^ w % 2) 1 || some_below w (λ k. has_bit k n))
    go ih zero e = let t : 0 * 2 ^ w + n % 2 ^ w ≡ n = rw e at s in rw e (ih (omega (arith, mod-lt n (pow_pos w))))
    go ih (suc zero) e =
        let t : 1 * 2 ^ w + n % 2 ^ w ≡ n = rw e at s in
        rw (e, ne_eqb n 0 (λ z. omega (arith, pow_pos w)))
    go ih (suc (suc q)) e =
        let p : n < 2 ^ (1 + w) = rw one-add h in
        let l : n / 2 ^ w < 2 = shr_lt 1 w p in absurd (omega arith)

pub some-common : (w a b : ℕ) → a < 2 ^ w → not (eqb (bit_and a b) 0) ≡ some_below w (λ k. has_bit k a && has_bit k b)
some-common w a b h =
    some-bit w (bit_and a b) (lt_of_le_of_lt (and_le_l a b) h)
    ∙ some_below-ext w (λ k. has_bit k (bit_and a b)) (λ k. has_bit k a && has_bit k b) (λ k l. bit-and k a b)

pub one_shl : (k : ℕ) → k < 64 → (1 * 2 ^ k) % 2 ^ 64 ≡ 2 ^ k
one_shl k h = shl_exact 1 k 64 (omega arith) (omega arith) ∙ one-mul (2 ^ k)

-- ---- an or is no less than its parts

pub or_left : (a b : ℕ) → a ≤ bit_or a b
or_left a b = omega (arith, or_add_and a b, and_le_r a b)

pub or_right : (a b : ℕ) → b ≤ bit_or a b
or_right a b = omega (arith, or_add_and a b, and_le_l a b)

-- and 0 exactly where both are
pub or-free : (a b : ℕ) → eqb (bit_or a b) 0 ≡ (eqb a 0 && eqb b 0)
or-free a b = by (ℕ_discrete a 0) (ℕ_discrete b 0)
  where
    by : Dec (a ≡ 0) → Dec (b ≡ 0) → eqb (bit_or a b) 0 ≡ (eqb a 0 && eqb b 0)
    by (yes p) (yes q) = rw (eq-eqb (bit_or a b) 0 (omega (arith, or_add_and a b)), eq-eqb a 0 p, eq-eqb b 0 q)
    by (yes p) (no q) =
        rw (ne_eqb (bit_or a b) 0 (λ z. q (omega (arith, or_right a b))), eq-eqb a 0 p, ne_eqb b 0 q)
    by (no p) q = rw (ne_eqb (bit_or a b) 0 (λ z. p (omega (arith, or_left a b))), ne_eqb a 0 p)
