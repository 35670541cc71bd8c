-- A pass with a bit for each start finds what the plain definition says. Assumes nothing.
use Rattle.std.proofs.Common.{◌≡◌, ℕ, zero, suc, ◌+◌, ◌/◌, ◌%◌, ◌^◌, ◌<◌, ◌≤◌, Bool, true, false, cond, not, ◌&&◌, ◌||◌, eqb, List, [], ◌∷◌, length, get_or, drop, set, replicate, sym, refl, ap, ◌∙◌, add-one, arith, length-set, drop_of_length-le, drop-cons, get_or-set_other, get_or-set_same, eq-eqb, ne_eqb}
use mathlib.Core.Bool.{or_comm}
use native.Mathlib.Decide.{ℕ_discrete}
use lib.Bits.{bit_or}
use lib.ListN.{length-replicate}
use Rattle.std.proofs.Math.Bool.{and-true}
use Rattle.memory.specs.Page.{has_bit}
use Rattle.directory.specs.Block.{start_of, len_of, fits, free, holds}
use Rattle.directory.specs.Fit.{any, sound}
use Rattle.directory.specs.Marks.{marked, mark}
use Rattle.directory.proofs.Laws.Bits.{bit-or, bit-pow}

-- ---- a mark

pub length-mark : (seen : List ℕ) (s : ℕ) → length (mark seen s) ≡ length seen
unfolding mark
length-mark seen s = length-set seen (s / 64) (bit_or (get_or seen (s / 64) 0) (2 ^ (s % 64)))

-- a start is marked where it was, or where it is the one that is marked now
pub marked-mark : (seen : List ℕ) (s t : ℕ) → s / 64 < length seen → marked (mark seen s) t ≡ (eqb t s || marked seen t)
unfolding marked mark
marked-mark seen s t h = by (ℕ_discrete (t / 64) (s / 64)) (ℕ_discrete t s)
  where
    x : ℕ
    x = bit_or (get_or seen (s / 64) 0) (2 ^ (s % 64))

    bits : (k : ℕ) → has_bit k (bit_or (get_or seen (s / 64) 0) (2 ^ (s % 64))) ≡ (has_bit k (get_or seen (s / 64) 0) || eqb k (s % 64))
    bits k = rw (bit-or k (get_or seen (s / 64) 0) (2 ^ (s % 64)), bit-pow k (s % 64))

    by : Dec (t / 64 ≡ s / 64) → Dec (t ≡ s)
        → has_bit (t % 64) (get_or (set seen (s / 64) (bit_or (get_or seen (s / 64) 0) (2 ^ (s % 64)))) (t / 64) 0)
        ≡ (eqb t s || has_bit (t % 64) (get_or seen (t / 64) 0))
    by (yes e) (yes q) =
        rw (
          e,
          get_or-set_same seen (s / 64) (bit_or (get_or seen (s / 64) 0) (2 ^ (s % 64))) 0 h,
          bits (t % 64),
          eq-eqb (t % 64) (s % 64) (omega arith),
          eq-eqb t s q,
        )
        (or_comm (has_bit (t % 64) (get_or seen (s / 64) 0)) true)
    by (yes e) (no q) =
        rw (
          e,
          get_or-set_same seen (s / 64) (bit_or (get_or seen (s / 64) 0) (2 ^ (s % 64))) 0 h,
          bits (t % 64),
          ne_eqb (t % 64) (s % 64) (λ z. q (omega arith)),
          ne_eqb t s q,
        )
        (or_comm (has_bit (t % 64) (get_or seen (s / 64) 0)) false)
    by (no e) (yes q) = absurd (e (omega arith))
    by (no e) (no q) =
        rw (get_or-set_other seen (s / 64) (t / 64) (bit_or (get_or seen (s / 64) 0) (2 ^ (s % 64))) 0 e, ne_eqb t s q)

-- ---- the pass as a loop makes it

unfoldable pub sound_by : List ℕ → List ℕ → Bool
sound_by seen [] = true
sound_by seen (w ∷ d) =
    cond (free w) (sound_by seen d)
    (fits (start_of w) (len_of w) && (not (marked seen (start_of w)) && sound_by (mark seen (start_of w)) d))

-- no held place has a marked start
clear : List ℕ → List ℕ → Bool
clear seen [] = true
clear seen (w ∷ d) = cond (free w) (clear seen d) (not (marked seen (start_of w)) && clear seen d)

clear-mark : (seen : List ℕ) (s : ℕ) (d : List ℕ) → s / 64 < length seen
    → clear (mark seen s) d ≡ (clear seen d && not (any (holds s) d))
unfolding clear any holds
clear-mark seen s [] h = refl
clear-mark seen s (w ∷ d) h = go (clear-mark seen s d h) (free w)
  where
    laws : (e m C A : Bool) → (not (e || m) && (C && not A)) ≡ ((not m && C) && not (e || A))
    laws true true C A = refl
    laws true false true A = refl
    laws true false false A = refl
    laws false true C A = refl
    laws false false C A = refl

    go : clear (mark seen s) d ≡ (clear seen d && not (any (holds s) d)) → (f : Bool)
        → cond f (clear (mark seen s) d) (not (marked (mark seen s) (start_of w)) && clear (mark seen s) d)
        ≡ (cond f (clear seen d) (not (marked seen (start_of w)) && clear seen d)
        && not ((not f && eqb (start_of w) s) || any (holds s) d))
    go ih true = ih
    go ih false =
        rw (ih, marked-mark seen s (start_of w) h)
        (laws (eqb (start_of w) s) (marked seen (start_of w)) (clear seen d) (any (holds s) d))

sound_by-is : (d seen : List ℕ) → length seen ≡ 1024 → sound_by seen d ≡ (sound d && clear seen d)
unfolding sound_by sound clear
sound_by-is [] seen h = refl
sound_by-is (w ∷ d) seen h = go (sound_by-is d seen h) (sound_by-is d (mark seen (start_of w)) (length-mark seen (start_of w) ∙ h)) (free w)
  where
    laws : (F m S C A : Bool) → (F && (not m && (S && (C && not A)))) ≡ ((F && (not A && S)) && (not m && C))
    laws false m S C A = refl
    laws true true true C true = refl
    laws true true true C false = refl
    laws true true false C true = refl
    laws true true false C false = refl
    laws true false true true true = refl
    laws true false true true false = refl
    laws true false true false true = refl
    laws true false true false false = refl
    laws true false false C true = refl
    laws true false false C false = refl

    go : sound_by seen d ≡ (sound d && clear seen d)
        → sound_by (mark seen (start_of w)) d ≡ (sound d && clear (mark seen (start_of w)) d)
        → (f : Bool)
        → cond f (sound_by seen d) (fits (start_of w) (len_of w) && (not (marked seen (start_of w)) && sound_by (mark seen (start_of w)) d))
        ≡ (cond f (sound d) (fits (start_of w) (len_of w) && (not (any (holds (start_of w)) d) && sound d))
        && cond f (clear seen d) (not (marked seen (start_of w)) && clear seen d))
    go stays more true = stays
    go stays more false =
        rw (more, clear-mark seen (start_of w) d (omega arith))
        (laws (fits (start_of w) (len_of w)) (marked seen (start_of w)) (sound d) (clear seen d) (any (holds (start_of w)) d))

-- ---- at the start nothing is marked

zeros : (n k : ℕ) → ◌≡◌ {A = ℕ} (get_or (replicate n 0) k 0) 0
zeros zero k = refl
zeros (suc n) zero = refl
zeros (suc n) (suc k) = zeros n k

none-marked : (n s : ℕ) → marked (replicate n 0) s ≡ false
unfolding marked
none-marked n s = rw (zeros n (s / 64)) (zero_bit (s % 64))
  where
    zero_bit : (k : ℕ) → has_bit k 0 ≡ false
    zero_bit k = rw (native.Mathlib.Nat.zero-div (2 ^ k))

all-clear : (n : ℕ) (d : List ℕ) → clear (replicate n 0) d ≡ true
unfolding clear
all-clear n [] = refl
all-clear n (w ∷ d) = rw (none-marked n (start_of w), all-clear n d) (go (free w))
  where
    go : (f : Bool) → cond f true (not false && true) ≡ true
    go true = refl
    go false = refl

pub sound_by-start : (n : ℕ) (d : List ℕ) → n ≡ 1024 → sound_by (replicate n 0) d ≡ sound d
sound_by-start n d e =
    sound_by-is d (replicate n 0) (length-replicate n 0 ∙ e) ∙ ap (λ (b : Bool). sound d && b) (all-clear n d) ∙ and-true (sound d)

-- ---- the pass after i places: what it finds in the rest is what the whole is

pub record Passed (d : List ℕ) (i : ℕ) (seen : List ℕ) : Type 0 where
  pub within : i ≤ length d
  pub long : length seen ≡ 1024
  pub rest : sound_by seen (drop i d) ≡ sound d

pub passed_none : (d : List ℕ) → Passed d 0 (replicate 1024 0)
passed_none d = record { within = omega arith; long = length-replicate {A = ℕ} 1024 0; rest = sound_by-start 1024 d refl }

module _ {d : List ℕ} {i : ℕ} {seen : List ℕ} (p : Passed d i seen) (h : i < length d) where
  -- the pass at place i
  at_place : (w : ℕ) → get_or d i 0 ≡ w
      → cond (free w) (sound_by seen (drop (suc i) d))
      (fits (start_of w) (len_of w) && (not (marked seen (start_of w)) && sound_by (mark seen (start_of w)) (drop (suc i) d)))
      ≡ sound d
  unfolding sound_by
  at_place w e = let q : get_or d i 0 ∷ drop (suc i) d ≡ drop i d = sym (drop-cons d i 0 h) in
      rw (← e) (ap (sound_by seen) q ∙ p.rest)

  pub passed-free : get_or d i 0 ≡ 0 → Passed d (i + 1) seen
  passed-free e = record { within = omega arith; long = p.long; rest = rw add-one (at_place 0 e) }

  pub passed-held : (w : ℕ) → get_or d i 0 ≡ w → (w ≡ 0 → ⊥) → fits (start_of w) (len_of w) ≡ true → marked seen (start_of w) ≡ false
      → Passed d (i + 1) (mark seen (start_of w))
  passed-held w e n f m =
      record {
        within = omega arith;
        long = length-mark seen (start_of w) ∙ p.long;
        rest = rw add-one (rw (ne_eqb w 0 n, f, m) at (at_place w e));
      }

  pub passed-unfit : (w : ℕ) → get_or d i 0 ≡ w → (w ≡ 0 → ⊥) → fits (start_of w) (len_of w) ≡ false → sound d ≡ false
  passed-unfit w e n f = sym (rw (ne_eqb w 0 n, f) at (at_place w e))

  pub passed-twice : (w : ℕ) → get_or d i 0 ≡ w → (w ≡ 0 → ⊥) → fits (start_of w) (len_of w) ≡ true → marked seen (start_of w) ≡ true
      → sound d ≡ false
  passed-twice w e n f m = sym (rw (ne_eqb w 0 n, f, m) at (at_place w e))

pub passed-all : {d : List ℕ} {i : ℕ} {seen : List ℕ} → Passed d i seen → length d ≤ i → sound d ≡ true
unfolding sound_by
passed-all {d} {i} {seen} p h = sym (rw (drop_of_length-le d h) at p.rest)
