-- The pages under a block, as one number. Assumes nothing.
use Rattle.std.proofs.Common.{◌≡◌, ℕ, zero, suc, ◌+◌, ◌-◌, ◌/◌, ◌%◌, ◌^◌, ◌<◌, ◌≤◌, Bool, true, false, not, ◌&&◌, eqb, leb, sym, refl, ap, ◌∙◌, lt_of_lt_of_le, shl_lt, pow_mono, div-one, arith, shr-shr, eq-eqb, ne_eqb, le-leb, leb-true}
use native.Mathlib.Decide.{dec_le, ℕ_discrete}
use native.Mathlib.Nat.{zero-div}
use lib.Bits.{bit_and}
use lib.Pow.{ones_lt}
use Rattle.memory.specs.Page.{has_bit}
use Rattle.std.proofs.lemmas.Bool.{lt-leb, and_parts}
use Rattle.directory.specs.Block.{start_of, len_of, fits, free, under}
use Rattle.directory.specs.Drop.{some_below, goes, gone, page_count, pages_under}
use Rattle.directory.specs.Eights.{seen_from}
use Rattle.directory.proofs.Laws.Bits.{bit-ones, some-common, some_below-ext}

pub record Fits (start len : ℕ) : Type 0 where
  pub from : 0x6000 ≤ start
  pub some : 1 ≤ len
  pub most : len ≤ 4096
  pub to : start + len ≤ 0x10000

pub fits-says : (start len : ℕ) → fits start len ≡ true → Fits start len
unfolding fits
fits-says start len e =
    let e1 = (and_parts (leb 0x6000 start) _ e).1 in
    let e2 = (and_parts (leb 1 len) _ e1).1 in
    record {
      from = leb-true _ _ ((and_parts (leb 0x6000 start) _ e).0);
      some = leb-true _ _ ((and_parts (leb 1 len) _ e1).0);
      most = leb-true _ _ ((and_parts (leb len 4096) _ e2).0);
      to = leb-true _ _ ((and_parts (leb len 4096) _ e2).1);
    }

pub says-fits : (start len : ℕ) → Fits start len → fits start len ≡ true
unfolding fits
says-fits start len f =
    rw (le-leb 0x6000 start f.from, le-leb 1 len f.some, le-leb len 4096 f.most, le-leb (start + len) 0x10000 f.to)

-- has_bit k of the mask is set exactly where CPU page k is under the block
pub bit-pages : (start len : ℕ) → Fits start len → (k : ℕ) → has_bit k (pages_under start len) ≡ under start len k
unfolding pages_under under
bit-pages start len f k = bit-ones (start / 1024) (page_count start len) ((start + len - 1) / 1024) k (omega (arith, f))

-- the mask has 64 bits
pub pages-lt : (start len : ℕ) → Fits start len → pages_under start len < 2 ^ 64
unfolding pages_under
pages-lt start len f =
    let n = page_count start len in
    let a = start / 1024 in
    lt_of_lt_of_le (shl_lt {a = 2 ^ n - 1} n a (ones_lt n)) (pow_mono {i = n + a} {j = 64} (omega (arith, f)))

-- a block goes exactly where a number with its pages' bits and the touched pages have a bit in common
pub goes-bits : (touched start len m : ℕ) → m < 2 ^ 64 → ((k : ℕ) → k < 64 → has_bit k m ≡ under start len k)
    → goes touched start len ≡ not (eqb (bit_and m touched) 0)
unfolding goes
goes-bits touched start len m h f =
    sym (some-common 64 m touched h
    ∙ some_below-ext 64 (λ k. has_bit k m && has_bit k touched) (λ k. under start len k && has_bit k touched)
    (λ k l. ap (λ (b : Bool). b && has_bit k touched) (f k l)))

-- and so for its mask
pub goes-mask : (touched start len : ℕ) → Fits start len
    → goes touched start len ≡ not (eqb (bit_and (pages_under start len) touched) 0)
goes-mask touched start len f =
    goes-bits touched start len (pages_under start len) (pages-lt start len f) (λ k h. bit-pages start len f k)

-- ---- a block that cannot go: none of the five pages from its first is touched

some-none : (n : ℕ) (p : ℕ → Bool) → ((k : ℕ) → k < n → p k ≡ false) → some_below n p ≡ false
unfolding some_below
some-none zero p e = refl
some-none (suc n) p e = rw (e n (omega arith)) (some-none n p (λ k h. e k (omega arith)))

low_bit : (j x : ℕ) → x % 32 ≡ 0 → j < 5 → has_bit j x ≡ false
low_bit zero x e h = let q : x / 1 ≡ x = div-one x in ne_eqb (x / 1 % 2) 1 (λ z. omega arith)
low_bit (suc zero) x e h = ne_eqb (x / 2 % 2) 1 (λ z. omega arith)
low_bit (suc (suc zero)) x e h = ne_eqb (x / 4 % 2) 1 (λ z. omega arith)
low_bit (suc (suc (suc zero))) x e h = ne_eqb (x / 8 % 2) 1 (λ z. omega arith)
low_bit (suc (suc (suc (suc zero)))) x e h = ne_eqb (x / 16 % 2) 1 (λ z. omega arith)
low_bit (suc (suc (suc (suc (suc j))))) x e h = absurd (omega arith)

pub goes-not : (touched start len : ℕ) → Fits start len → touched / 2 ^ (start / 1024) % 32 ≡ 0 → goes touched start len ≡ false
unfolding goes under
goes-not touched start len f e = some-none 64 _ (λ k h. by k (dec_le (start / 1024) k) (dec_le k ((start + len - 1) / 1024)))
  where
    by : (k : ℕ) → Dec (start / 1024 ≤ k) → Dec (k ≤ (start + len - 1) / 1024)
        → ((leb (start / 1024) k && leb k ((start + len - 1) / 1024)) && has_bit k touched) ≡ false
    by k (yes a) (yes b) =
        let q : k ≡ start / 1024 + (k - start / 1024) = omega arith in
        let z : has_bit k touched ≡ false =
        rw q (ap (λ (x : ℕ). eqb (x % 2) 1) (sym (shr-shr touched (start / 1024) (k - start / 1024)))
        ∙ low_bit (k - start / 1024) (touched / 2 ^ (start / 1024)) e (omega (arith, f))) in
        rw (le-leb _ _ a, le-leb _ _ b, z)
    by k (no a) b = rw (lt-leb (start / 1024) k (omega (arith, a)))
    by k (yes a) (no b) = rw (le-leb _ _ a, lt-leb k ((start + len - 1) / 1024) (omega (arith, b)))

pub gone-not : (touched w : ℕ) → ((w ≡ 0 → ⊥) → fits (start_of w) (len_of w) ≡ true) → seen_from touched w % 32 ≡ 0
    → gone touched w ≡ false
unfolding gone
gone-not touched w f e = by (ℕ_discrete w 0)
  where
    by : Dec (w ≡ 0) → (not (free w) && goes touched (start_of w) (len_of w)) ≡ false
    by (yes z) = rw (eq-eqb w 0 z)
    by (no n) = rw (ne_eqb w 0 n) (goes-not touched (start_of w) (len_of w) (fits-says _ _ (f n)) e)

-- and no page touched
pub gone-none : (w : ℕ) → ((w ≡ 0 → ⊥) → fits (start_of w) (len_of w) ≡ true) → gone 0 w ≡ false
gone-none w f = gone-not 0 w f (rw (zero-div (2 ^ (start_of w / 1024))))
