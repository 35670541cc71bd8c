-- A directory in the order of its starts is fit; the pass that finds it in order. Assumes nothing.
use Rattle.std.proofs.Common.{◌≡◌, ℕ, ◌+◌, ◌<◌, ◌≤◌, Bool, true, false, cond, ◌&&◌, ◌||◌, ltb, List, [], ◌∷◌, length, sym, refl, ◌∙◌, le_refl, arith, ltb-true, lt-ltb, eq-eqb, ne_eqb, eqb-true}
use native.Mathlib.Decide.{ℕ_discrete}
use Rattle.std.proofs.lemmas.Bool.{and_parts}
use Rattle.directory.specs.Block.{start_of, len_of, fits, free, holds}
use Rattle.directory.specs.Fit.{any, sound, fit}
use Rattle.directory.specs.Ordered.{all_free, rises, ordered}
use Rattle.directory.proofs.Laws.Pages.{says-fits}
use Rattle.directory.proofs.Laws.Sound.{holds-other, holds-free, cons-sound, sound-fit}

-- ---- an ordered directory is fit

pub free-none : (a : ℕ) (d : List ℕ) → all_free d ≡ true → any (holds a) d ≡ false
unfolding all_free any
free-none a [] e = refl
free-none a (w ∷ d) e =
    rw (eqb-true w 0 ((and_parts (free w) (all_free d) e).0), holds-free a) (free-none a d ((and_parts (free w) (all_free d) e).1))

free-sound : (d : List ℕ) → all_free d ≡ true → sound d ≡ true
unfolding all_free sound
free-sound [] e = refl
free-sound (w ∷ d) e = rw ((and_parts (free w) (all_free d) e).0) (free-sound d ((and_parts (free w) (all_free d) e).1))

pub record Rises (s w : ℕ) : Type 0 where
  pub above : s < start_of w
  pub block : fits (start_of w) (len_of w) ≡ true

pub rises-says : (s w : ℕ) → rises s w ≡ true → Rises s w
unfolding rises
rises-says s w e =
    record {
      above = ltb-true s (start_of w) ((and_parts (ltb s (start_of w)) (fits (start_of w) (len_of w)) e).0);
      block = (and_parts (ltb s (start_of w)) (fits (start_of w) (len_of w)) e).1;
    }

-- no start up to s is held behind s
pub ordered-above : (s a : ℕ) (d : List ℕ) → a ≤ s → ordered s d ≡ true → any (holds a) d ≡ false
unfolding ordered any
ordered-above s a [] h e = refl
ordered-above s a (w ∷ d) h e = by (λ b. ordered-above b a d) (ℕ_discrete w 0)
  where
    by : ((b : ℕ) → a ≤ b → ordered b d ≡ true → any (holds a) d ≡ false) → Dec (w ≡ 0) → (holds a w || any (holds a) d) ≡ false
    by ih (yes z) = rw (z, holds-free a) (free-none a d (rw (eq-eqb w 0 z) at e))
    by ih (no n) =
        let t : (rises s w && ordered (start_of w) d) ≡ true = rw (ne_eqb w 0 n) at e in
        let r = rises-says s w ((and_parts (rises s w) _ t).0) in
        rw (holds-other a w (λ q. omega (arith, r.above)))
        (ih (start_of w) (omega (arith, r.above)) ((and_parts (rises s w) _ t).1))

pub ordered-sound : (s : ℕ) (d : List ℕ) → ordered s d ≡ true → sound d ≡ true
unfolding ordered sound
ordered-sound s [] e = refl
ordered-sound s (w ∷ d) e = by (ordered-sound (start_of w) d) (ℕ_discrete w 0)
  where
    by : (ordered (start_of w) d ≡ true → sound d ≡ true) → Dec (w ≡ 0) → sound (w ∷ d) ≡ true
    by ih (yes z) =
        cons-sound w d (record {
          tail = free-sound d (rw (eq-eqb w 0 z) at e);
          first = λ n. absurd (n z);
          alone = λ n. absurd (n z);
        })
    by ih (no n) =
        let t : (rises s w && ordered (start_of w) d) ≡ true = rw (ne_eqb w 0 n) at e in
        let o : ordered (start_of w) d ≡ true = (and_parts (rises s w) _ t).1 in
        cons-sound w d (record {
          tail = ih o;
          first = λ m. (rises-says s w ((and_parts (rises s w) _ t).0)).block;
          alone = λ m. ordered-above (start_of w) (start_of w) d (le_refl (start_of w)) o;
        })

pub ordered-fit : (s : ℕ) (d : List ℕ) → length d ≡ 256 → ordered s d ≡ true → fit d ≡ true
ordered-fit s d l e = sound-fit d l (ordered-sound s d e)

-- ---- place by place

held : (s w : ℕ) → rises s w ≡ true → w ≡ 0 → ⊥
held s w e z = omega (arith, (rises-says s w e).above)

-- what a rising place leaves to those behind it
pub ordered_step : (s w : ℕ) (d : List ℕ) → rises s w ≡ true → ordered s (w ∷ d) ≡ ordered (start_of w) d
unfolding ordered
ordered_step s w d e = rw (ne_eqb w 0 (held s w e), e)

pub ordered_end : (s : ℕ) (rest : List ℕ) {x : Bool} → ordered s rest ≡ x → length rest ≡ 0 → true ≡ x
unfolding ordered
ordered_end s [] i e = i
ordered_end s (w ∷ rest) i e = absurd (omega arith)

module _ (s : ℕ) {w : ℕ} {rest tail : List ℕ} {x : Bool} (i : ordered s rest ≡ x) (e : rest ≡ w ∷ tail) where
  pub ordered_next : rises s w ≡ true → ordered (start_of w) tail ≡ x
  ordered_next r = sym (ordered_step s w tail r) ∙ rw e at i

  -- a place that does not rise: only free ones may follow
  pub ordered_stop : rises s w ≡ false → all_free rest ≡ x
  unfolding ordered all_free
  ordered_stop r = rw e (go (free w) (rw (e, r) at i))
    where
      go : (b : Bool) → cond b (all_free tail) false ≡ x → (b && all_free tail) ≡ x
      go true q = q
      go false q = q

-- ---- eight at a time

-- a length is neither 0 nor above r + 1
pub record Reaches (r w : ℕ) : Type 0 where
  pub some : 1 ≤ len_of w
  pub most : len_of w ≤ r + 1

-- the last of them has the highest start, and none is longer than `far` says
pub rises-of : (s w far last : ℕ) → 0x5FFF ≤ s → s < start_of w → far < 4096 → Reaches far w → start_of w ≤ last → last + far < 0x10000
    → rises s w ≡ true
unfolding rises
rises-of s w far last a b c r e f =
    rw (lt-ltb s (start_of w) b)
    (says-fits (start_of w) (len_of w) (record {
      from = omega arith;
      some = r.some;
      most = omega (arith, r.most);
      to = omega (arith, r.most);
    }))

pub reaches_more : {r q w : ℕ} → r ≤ q → Reaches r w → Reaches q w
reaches_more h p = record { some = p.some; most = omega (arith, p.most) }
