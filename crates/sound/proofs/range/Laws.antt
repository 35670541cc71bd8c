-- R9, R11: where the sound's test is passed its fields are in range, and the other way round.
use Prim.Native.Nat.{ℕ, zero, suc, ◌+◌, ◌%◌, ◌^◌, ◌≤◌, ◌<◌}
use mathlib.Core.Path.{◌≡◌, refl, sym, ap, ◌∙◌, subst}
use mathlib.Core.Bool.{Bool, true, false, cond, not, ◌&&◌, ◌||◌}
use mathlib.Core.List.{List}
use mathlib.Core.Logic.{inl, inr}
use native.Mathlib.Nat.{mul-one}
use native.Mathlib.Omega.{arith}
use borrow.Author.Tests.{leb-true, le-leb, eqb-true, eq-eqb, ltb-true, ltb-false, lt-ltb, le-ltb}
use lib.Dec.{T, eqb, leb, ltb}
use lib.ListN.{length, get_or, get_or-eq_default}
use lib.IntN.{ℤ, pos, negsuc, neg_ℤ, nat_abs}
use lib.Ieee.{Float, nan, inf, fin, binary32, to_bits, is_nan, ne, eq, fits, of_bits, of_int, round, units, odd, size, span, climb}
use lib.Ieee.Fits.{of_int-fits}
use lib.Ieee.Bits.{of_bits-to_bits, is_true}
use mir.Val.{Val}
use denote.Laws.{Is}
use Rattle.limits.specs.Limits.{phase_limit, level_most, out_most, minus_zero}
use Rattle.limits.specs.Every.{every}
use Rattle.limits.proofs.Every.{at_most, first_of, every-at, every-all}
use Rattle.sound.specs.declared.audio.Audio.{Audio}
use Rattle.sound.specs.Levels.{whole, whole_z, is_neg, whole_part}
use Rattle.sound.specs.Range.{level_low, level_high, out_low, out_high, bits_ok, BitsIn, out_ok, OutInRange, size_bits, level_ok, WholeIn, Level}
use Rattle.sound.specs.Range.{output_test, phase_test, Phases, audio_ok, InRange, Typed, Known}
use Rattle.sound.proofs.Floats.Bits.{value_out, out-value, low-finite, high-finite}
use Rattle.sound.proofs.levels.Laws.{whole-number, minus-bits, part-lt, whole-between, between-whole}
use Rattle.sound.proofs.audio.Typed.{typed}
use Rattle.sound.specs.contracts.audio.Audio as Row

-- ---- the test of a NaN

-- a float that does not differ from itself is a number
pub number : (x : Float) → ne x x ≡ false → T (not (is_nan x))
unfolding is_nan ne eq
number nan e = let z : ◌≡◌ {A = ℕ} 0 1 = cc in absurd (omega arith)
number (inf s) e = tt
number (fin s m e) h = tt

-- ---- `out`

pub bits_in : (low high b : ℕ) → bits_ok low high b ≡ true → BitsIn low high b
bits_in low high b e = go (leb b high) refl e
  where
    go : (t : Bool) → leb b high ≡ t → t || (ltb minus_zero b && leb b (minus_zero + low)) ≡ true → BitsIn low high b
    go true p q = inl (leb-true b high p)
    go false p q =
        let h = first_of (ltb minus_zero b) _ q in
        inr (ltb-true minus_zero b h.0, leb-true b (minus_zero + low) h.1)

in-bits : (low high b : ℕ) → BitsIn low high b → bits_ok low high b ≡ true
in-bits low high b (inl h) = rw (le-leb b high h)
in-bits low high b (inr h) = rw (lt-ltb minus_zero b h.0, le-leb b (minus_zero + low) h.1) (or-true (leb b high))
  where
    or-true : (t : Bool) → t || true ≡ true
    or-true true = refl
    or-true false = refl

module _ (signed plain : Bool) where
  pub out-in : (x : Float) → out_ok signed plain x ≡ true → OutInRange signed plain x
  unfolding out_ok
  out-in x e =
      let h = first_of (not (is_nan x)) _ e in record { number = subst T (sym h.0) tt; bits = bits_in _ _ _ h.1 }

  pub in-out : (x : Float) → OutInRange signed plain x → out_ok signed plain x ≡ true
  unfolding out_ok
  in-out x h = rw (is_true (not (is_nan x)) h.number, in-bits _ _ _ h.bits)

-- ---- a channel output: one computed test over the sizes 0..=3825

-- its float has bits of at most those of 3825, and its whole part is itself
size_test : ℕ → Bool
size_test k = leb (to_bits binary32 (whole k)) out_most && eqb (whole_part (to_bits binary32 (whole k))) k

all-sizes : every (suc level_most) size_test ≡ true
unfolding every size_test whole_part to_bits of_int round units odd size span climb
all-sizes = refl

-- bits in the range of a level have a size of at most that of 3825
pub size-most : (signed : Bool) (b : ℕ) → bits_ok (out_low signed false) (out_high signed false) b ≡ true → b % minus_zero ≤ out_most
unfolding out_low out_high
size-most true b e = go (bits_in (out_low true false) (out_high true false) b e)
  where
    go : BitsIn (out_low true false) (out_high true false) b → b % minus_zero ≤ out_most
    go (inl h) = omega arith
    go (inr h) = omega arith
size-most false b e = go (bits_in (out_low false false) (out_high false false) b e)
  where
    go : BitsIn (out_low false false) (out_high false false) b → b % minus_zero ≤ out_most
    go (inl h) = omega arith
    go (inr h) = absurd (omega arith)

-- the bits of a size, and its whole part
record Size (k : ℕ) : Type 0 where
  pub small : to_bits binary32 (whole k) ≤ out_most
  pub part : whole_part (to_bits binary32 (whole k)) ≡ k

size_of : (k : ℕ) → k ≤ level_most → Size k
unfolding size_test
size_of k l =
    let h = first_of (leb (to_bits binary32 (whole k)) out_most) _ (every-at (suc level_most) size_test all-sizes k (omega arith)) in
    record { small = leb-true _ _ h.0; part = eqb-true _ _ h.1 }

-- a level's size
pub level-size : (signed : Bool) (z : ℤ) → WholeIn (level_low signed) (level_high signed) z → nat_abs z ≤ level_most
level-size true (pos n) h = omega arith
level-size true (negsuc n) h = omega arith
level-size false (pos n) h = h
level-size false (negsuc n) h = absurd (omega arith)

-- the bits of a level without its sign are those of its size
level-bits : (z : ℤ) → nat_abs z ≤ level_most → size_bits (whole_z z) ≡ to_bits binary32 (whole (nat_abs z))
level-bits (pos n) h = omega (arith, (size_of n h).small)
level-bits (negsuc n) h =
    let b = (size_of (suc n) h).small in
    rw (minus-bits n (omega arith)) (omega arith)

level_out : (signed : Bool) (x : Float) → Level signed x → OutInRange signed false x
level_out signed x l =
    let n = level-size signed l.number l.within in
    rw l.is
    (value_out signed false (whole_z l.number) (of_int-fits binary32 l.number)
    (rw (mul-one (level_low signed), mul-one (level_high signed)) (whole-between _ _ l.number (omega arith) l.within)))

pub level-ok : (signed : Bool) (x : Float) → Level signed x → level_ok signed x ≡ true
unfolding level_ok
level-ok signed x l =
    let n = level-size signed l.number l.within in
    let e : size_bits x ≡ to_bits binary32 (whole (nat_abs l.number)) =
    ap size_bits l.is ∙ level-bits l.number n in
    rw (in-out signed false x (level_out signed x l), e, (size_of (nat_abs l.number) n).part)
    (eq-eqb (to_bits binary32 (whole (nat_abs l.number))) _ refl)

zero-size : to_bits binary32 (whole 0) ≡ 0
unfolding to_bits of_int
zero-size = refl

-- what the bits of a level are, for its writing: its size in range, its whole part, its sign
pub record LevelBits (z : ℤ) (x : Float) : Type 0 where
  pub number : T (not (is_nan x))
  pub size : size_bits x ≤ out_most
  pub part : whole_part (size_bits x) ≡ nat_abs z
  pub sign : ltb (to_bits binary32 x) minus_zero ≡ not (is_neg z)

level-sign : (z : ℤ) → nat_abs z ≤ level_most → ltb (to_bits binary32 (whole_z z)) minus_zero ≡ not (is_neg z)
level-sign (pos n) h = lt-ltb (to_bits binary32 (whole n)) minus_zero (omega (arith, (size_of n h).small))
level-sign (negsuc n) h = rw (minus-bits n (omega arith)) (le-ltb (minus_zero + to_bits binary32 (whole (suc n))) minus_zero (omega arith))

pub level-parts : (signed : Bool) (x : Float) (l : Level signed x) → LevelBits l.number x
level-parts signed x l =
    let z = l.number in
    let n = level-size signed z l.within in
    let s = size_of (nat_abs z) n in
    let e : size_bits x ≡ to_bits binary32 (whole (nat_abs z)) = ap size_bits l.is ∙ level-bits z n in
    record {
      number = rw l.is (whole-number z (omega arith));
      size = rw e s.small;
      part = rw e s.part;
      sign = rw l.is (level-sign z n);
    }

-- the number with some bits' whole part as its size, and their sign
number_of : ℕ → ℤ
number_of b = cond (ltb minus_zero b) (neg_ℤ (pos (whole_part (b % minus_zero)))) (pos (whole_part (b % minus_zero)))

neg-abs : (n : ℕ) → nat_abs (neg_ℤ (pos n)) ≡ n
neg-abs zero = refl
neg-abs (suc n) = refl

number_size : (b : ℕ) → nat_abs (number_of b) ≤ 2 ^ 24
unfolding number_of
number_size b = go (ltb minus_zero b)
  where
    go : (t : Bool) → nat_abs (cond t (neg_ℤ (pos (whole_part (b % minus_zero)))) (pos (whole_part (b % minus_zero)))) ≤ 2 ^ 24
    go true = rw (neg-abs (whole_part (b % minus_zero))) (omega (arith, part-lt (b % minus_zero)))
    go false = omega (arith, part-lt (b % minus_zero))

-- bits in range whose size is a whole number's are those of that number
number-bits : (low high b : ℕ) → high < minus_zero → low < minus_zero → BitsIn low high b
    → to_bits binary32 (whole (whole_part (b % minus_zero))) ≡ b % minus_zero → to_bits binary32 (whole_z (number_of b)) ≡ b
unfolding number_of
number-bits low high b H L (inl h) e = rw (le-ltb minus_zero b (omega arith)) (e ∙ omega arith)
number-bits low high b H L (inr h) e = rw (lt-ltb minus_zero b h.0) (go (whole_part (b % minus_zero)) refl)
  where
    go : (k : ℕ) → whole_part (b % minus_zero) ≡ k → to_bits binary32 (whole_z (neg_ℤ (pos k))) ≡ b
    go zero p =
        let z : to_bits binary32 (whole 0) ≡ b % minus_zero = rw p at e in
        absurd (omega (arith, zero-size, z))
    go (suc n) p =
        minus-bits n (omega (arith, part-lt (b % minus_zero), p))
        ∙ omega (arith, (rw p at e))

pub ok-level : (signed : Bool) (x : Float) → T (fits binary32 x) → level_ok signed x ≡ true → Level signed x
unfolding level_ok
ok-level signed x f e =
    let h = first_of (out_ok signed false x) _ e in
    let o = out-in signed false x h.0 in
    let b = to_bits binary32 x in
    let z = number_of b in
    let same = eqb-true (to_bits binary32 (whole (whole_part (size_bits x)))) (size_bits x) h.1 in
    let bits = number-bits _ _ b (omega (arith, high-finite signed false)) (omega (arith, low-finite signed false)) o.bits same in
    let is : x ≡ whole_z z =
    sym (of_bits-to_bits binary32 x f) ∙ ap (of_bits binary32) (sym bits) ∙ of_bits-to_bits binary32 (whole_z z) (of_int-fits binary32 z) in
    record {
      number = z;
      within =
          between-whole _ _ z (number_size b)
          (rw (is, mul-one (level_low signed), mul-one (level_high signed)) at (out-value signed false x f o));
      is = is;
    }

-- ---- the phases

phase-in : (phases : List ℕ) → length phases ≡ 8 → every 8 (phase_test phases) ≡ true → Phases phases
phase-in phases l e i = go (ltb i 8) refl
  where
    go : (t : Bool) → ltb i 8 ≡ t → get_or phases i 0 < phase_limit
    go true q = ltb-true (get_or phases i 0) phase_limit (every-at 8 (phase_test phases) e i (ltb-true i 8 q))
    go false q = rw (get_or-eq_default phases 0 {n = i} (omega (arith, ltb-false i 8 q))) (omega arith)

-- ---- the sound's fields, both ways

pub audio-in : (a : Audio) → Typed a → audio_ok a ≡ true → InRange a
unfolding audio_ok
audio-in a t e =
    let h1 = at_most _ _ _ e in
    let h2 = at_most _ _ _ h1.1 in
    let h3 = at_most _ _ _ h2.1 in
    let h4 = first_of _ _ h3.1 in
    let h5 = first_of _ _ h4.1 in
    let outs = a.channel_out in let signed = a.signed_levels in
    record {
      counter = h1.0;
      channel = h2.0;
      address = h3.0;
      phases = phase-in a.phase_ext t.phases_length h4.0;
      outputs = λ i h. ok-level signed (get_or outs i nan) (t.outputs_fit i) (every-at 8 (output_test signed outs) h5.0 i h);
      mixed = out-in signed a.plain_sum a.out h5.1;
    }

pub in-audio : (a : Audio) → InRange a → audio_ok a ≡ true
unfolding audio_ok
in-audio a h =
    let outs = a.channel_out in let signed = a.signed_levels in
    rw (
      le-leb _ _ h.counter,
      le-leb _ _ h.channel,
      le-leb _ _ h.address,
      every-all 8 (phase_test a.phase_ext) (λ i k. lt-ltb (get_or a.phase_ext i 0) phase_limit (h.phases i)),
      every-all 8 (output_test signed outs) (λ i k. level-ok signed (get_or outs i nan) (h.outputs i k)),
      in-out signed a.plain_sum a.out h.mixed,
    )

-- ---- what is known of an owned state: by the facts, and by the test

pub owned : (a : Audio) (vs : List Val) → Is Row.the_row a vs → InRange a → Known a
owned a vs is r = record { typed = typed a vs is; range = r }

pub ok-known : (a : Audio) (vs : List Val) → Is Row.the_row a vs → audio_ok a ≡ true → Known a
ok-known a vs is e = owned a vs is (audio-in a (typed a vs is) e)
