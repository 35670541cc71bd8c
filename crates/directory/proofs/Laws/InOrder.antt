-- K3, K5: starts that ascend, with the free places behind, still do after a registering and after a drop, so that a directory from a load
-- stays one that the pass over neighbours shows fit. Assumes nothing.
use Rattle.std.proofs.Common.{◌≡◌, ℕ, suc, ◌^◌, ◌<◌, ◌≤◌, min, max, Bool, true, false, cond, ◌&&◌, ◌||◌, eqb, List, [], ◌∷◌, ◌++◌, get_or, set, sym, refl, ◌∙◌, arith, lt-ltb, eq-eqb, ne_eqb, eqb-true}
use native.Mathlib.Decide.{dec_le, ℕ_discrete}
use Rattle.std.proofs.lemmas.Bool.{and_parts, or_parts}
use Rattle.directory.specs.Block.{start_of, len_of, word_of, fits, free, holds}
use Rattle.directory.specs.Fit.{any, first}
use Rattle.directory.specs.Ordered.{all_free, rises, ordered}
use Rattle.directory.specs.Calls.{register_refusal, put, with_block, registered}
use Rattle.directory.specs.Drop.{gone, dropped}
use Rattle.directory.proofs.Laws.Pages.{fits-says}
use Rattle.directory.proofs.Laws.Sound.{holds-not-free, holds-start, holds_of}
use Rattle.directory.proofs.Laws.Ordered.{free-none, rises-says, ordered-above}
use Rattle.directory.proofs.Laws.Registered.{accepted, word_back}
use Rattle.directory.proofs.Laws.Dropped.{gone-free}

-- a directory in order by its first place
data InOrder (s w : ℕ) (d : List ℕ) : Type 0 where
  ends : w ≡ 0 → all_free d ≡ true → InOrder s w d
  goes_on : (w ≡ 0 → ⊥) → rises s w ≡ true → ordered (start_of w) d ≡ true → InOrder s w d

in_order : (s w : ℕ) (d : List ℕ) → ordered s (w ∷ d) ≡ true → InOrder s w d
unfolding ordered
in_order s w d e = by (ℕ_discrete w 0)
  where
    by : Dec (w ≡ 0) → InOrder s w d
    by (yes z) = ends z (rw (eq-eqb w 0 z) at e)
    by (no n) =
        let t : (rises s w && ordered (start_of w) d) ≡ true = rw (ne_eqb w 0 n) at e in
        goes_on n ((and_parts (rises s w) _ t).0) ((and_parts (rises s w) _ t).1)

order-in : (s w : ℕ) (d : List ℕ) → InOrder s w d → ordered s (w ∷ d) ≡ true
unfolding ordered
order-in s w d (ends z f) = rw (eq-eqb w 0 z) f
order-in s w d (goes_on n r o) = rw (ne_eqb w 0 n, r) o

says-rises : (s w : ℕ) → s < start_of w → fits (start_of w) (len_of w) ≡ true → rises s w ≡ true
unfolding rises
says-rises s w h f = rw (lt-ltb s (start_of w) h, f)

-- ---- from a lower start on, free places, one more of them

lower : (s b : ℕ) (d : List ℕ) → s ≤ b → ordered b d ≡ true → ordered s d ≡ true
unfolding ordered
lower s b [] h e = refl
lower s b (w ∷ d) h e = order-in s w d (by (in_order b w d e))
  where
    by : InOrder b w d → InOrder s w d
    by (ends z f) = ends z f
    by (goes_on n r o) = let x = rises-says b w r in goes_on n (says-rises s w (omega (arith, x.above)) x.block) o

frees : (s : ℕ) (d : List ℕ) → all_free d ≡ true → ordered s d ≡ true
unfolding ordered all_free
frees s [] e = refl
frees s (w ∷ d) e =
    order-in s w d (ends (eqb-true w 0 ((and_parts (free w) (all_free d) e).0)) ((and_parts (free w) (all_free d) e).1))

one-more-free : (d : List ℕ) → all_free d ≡ true → all_free (d ++ (0 ∷ [])) ≡ true
unfolding all_free
one-more-free [] e = refl
one-more-free (w ∷ d) e = rw ((and_parts (free w) (all_free d) e).0) (one-more-free d ((and_parts (free w) (all_free d) e).1))

one_more : (s : ℕ) (d : List ℕ) → ordered s d ≡ true → ordered s (d ++ (0 ∷ [])) ≡ true
unfolding ordered all_free
one_more s [] e = refl
one_more s (w ∷ d) e = order-in s w (d ++ (0 ∷ [])) (by (λ b. one_more b d) (in_order s w d e))
  where
    by : ((b : ℕ) → ordered b d ≡ true → ordered b (d ++ (0 ∷ [])) ≡ true) → InOrder s w d → InOrder s w (d ++ (0 ∷ []))
    by ih (ends z f) = ends z (one-more-free d f)
    by ih (goes_on n r o) = goes_on n r (ih (start_of w) o)

-- ---- a drop

drop-free : (t : ℕ) (d : List ℕ) → all_free d ≡ true → all_free (dropped t d) ≡ true
unfolding all_free dropped
drop-free t [] e = refl
drop-free t (w ∷ d) e =
    let z : w ≡ 0 = eqb-true w 0 ((and_parts (free w) (all_free d) e).0) in
    rw (z, gone-free t) (drop-free t d ((and_parts (free w) (all_free d) e).1))

pub dropped-ordered : (t s : ℕ) (d : List ℕ) → ordered s d ≡ true → ordered s (dropped t d) ≡ true
unfolding dropped
dropped-ordered t s [] e = e
dropped-ordered t s (w ∷ d) e = by (λ b. dropped-ordered t b d) (in_order s w d e)
  where
    by : ((b : ℕ) → ordered b d ≡ true → ordered b (dropped t d) ≡ true) → InOrder s w d
        → ordered s (cond (gone t w) (dropped t d ++ (0 ∷ [])) (w ∷ dropped t d)) ≡ true
    by ih (ends z f) = rw (z, gone-free t) (order-in s 0 (dropped t d) (ends refl (drop-free t d f)))
    by ih (goes_on n r o) = go (gone t w)
      where
        go : (b : Bool) → ordered s (cond b (dropped t d ++ (0 ∷ [])) (w ∷ dropped t d)) ≡ true
        go true = let x = rises-says s w r in
            one_more s (dropped t d) (ih s (lower s (start_of w) d (omega (arith, x.above)) o))
        go false = order-in s w (dropped t d) (goes_on n r (ih (start_of w) o))

-- ---- a new block

-- what the type of a place says
abbrev pub Words : List ℕ → Type 0
Words d = (i : ℕ) → get_or d i 0 < 2 ^ 64

-- words compare as their starts do
starts_apart : (w x : ℕ) → w < 2 ^ 64 → x < 2 ^ 64 → w ≤ x → (start_of w ≡ start_of x → ⊥) → start_of w < start_of x
starts_apart w x a b h n = omega (arith, n)

put-ordered : (w s : ℕ) (d : List ℕ) → w < 2 ^ 64 → Words d → (w ≡ 0 → ⊥) → rises s w ≡ true → any (holds (start_of w)) d ≡ false
    → ordered s d ≡ true → ordered s (put w d) ≡ true
unfolding put any
put-ordered w s [] a b n r h e = e
put-ordered w s (x ∷ d) a b n r h e =
    by (λ v k. put-ordered v k d) (in_order s x d e) ((or_parts (holds (start_of w) x) (any (holds (start_of w)) d) h).0)
    ((or_parts (holds (start_of w) x) (any (holds (start_of w)) d) h).1)
  where
    by : ((v k : ℕ) → v < 2 ^ 64 → Words d → (v ≡ 0 → ⊥) → rises k v ≡ true → any (holds (start_of v)) d ≡ false → ordered k d ≡ true
        → ordered k (put v d) ≡ true)
        → InOrder s x d → holds (start_of w) x ≡ false → any (holds (start_of w)) d ≡ false
        → ordered s (cond (free x) (w ∷ d) (min w x ∷ put (max w x) d)) ≡ true
    by ih (ends z f) p q = rw (eq-eqb x 0 z) (order-in s w d (goes_on n r (frees (start_of w) d f)))
    by ih (goes_on m y o) p q = rw (ne_eqb x 0 m) (go (dec_le w x))
      where
        apart : start_of w ≡ start_of x → ⊥
        apart t =
            let u : holds (start_of w) x ≡ true = rw t (holds_of x m) in
            cc

        go : Dec (w ≤ x) → ordered s (min w x ∷ put (max w x) d) ≡ true
        go (yes l) =
            let lt = starts_apart w x a (b 0) l apart in
            let low : min w x ≡ w = omega arith in
            let high : max w x ≡ x = omega arith in
            rw (low, high)
            (order-in s w (put x d)
            (goes_on n r
            (ih x (start_of w) (b 0) (λ i. b (suc i)) m (says-rises (start_of w) x lt (rises-says s x y).block)
            (ordered-above (start_of x) (start_of x) d (omega arith) o) (lower (start_of w) (start_of x) d (omega arith) o))))
        go (no l) =
            let lt = starts_apart x w (b 0) a (omega (arith, l)) (λ t. apart (sym t)) in
            let low : min w x ≡ x = omega (arith, l) in
            let high : max w x ≡ w = omega (arith, l) in
            rw (low, high)
            (order-in s x (put w d)
            (goes_on m y (ih w (start_of x) a (λ i. b (suc i)) n (says-rises (start_of x) w lt (rises-says s w r).block) q o)))

-- ---- a block in the place of its start

replace-ordered : (a v s : ℕ) (d : List ℕ) → start_of v ≡ a → fits (start_of v) (len_of v) ≡ true → (v ≡ 0 → ⊥) → any (holds a) d ≡ true
    → ordered s d ≡ true → ordered s (set d (first (holds a) d) v) ≡ true
unfolding any first
replace-ordered a v s [] e f n h o = o
replace-ordered a v s (w ∷ d) e f n h o = by (λ k. replace-ordered a v k d e f n) (in_order s w d o) (holds a w) refl h
  where
    by : ((k : ℕ) → any (holds a) d ≡ true → ordered k d ≡ true → ordered k (set d (first (holds a) d) v) ≡ true)
        → InOrder s w d → (b : Bool) → holds a w ≡ b → (b || any (holds a) d) ≡ true
        → ordered s (set (w ∷ d) (cond b 0 (suc (first (holds a) d))) v) ≡ true
    by ih (ends z p) true q h = absurd (holds-not-free a w q z)
    by ih (ends z p) false q h = let y = free-none a d p in cc
    by ih (goes_on m r p) true q h =
        let t : start_of v ≡ start_of w = e ∙ sym (holds-start a w q) in
        order-in s v d
        (goes_on n (says-rises s v (rw t (rises-says s w r).above) f) (rw t p))
    by ih (goes_on m r p) false q h = order-in s w (set d (first (holds a) d) v) (goes_on m r (ih (start_of w) h p))

-- ---- the law: 5FFF is below every start

pub registered-ordered : (d : List ℕ) (start len number : ℕ) → start < 2 ^ 16 → number < 2 ^ 32 → Words d → ordered 0x5FFF d ≡ true
    → ordered 0x5FFF (registered d start len number) ≡ true
unfolding registered with_block
registered-ordered d start len number s m b o = by (ℕ_discrete (register_refusal d start len) 0)
  where
    v : ℕ
    v = word_of start len number

    by : Dec (register_refusal d start len ≡ 0)
        → ordered 0x5FFF (cond (eqb (register_refusal d start len) 0) (with_block d start (word_of start len number)) d) ≡ true
    by (no r) = rw (ne_eqb (register_refusal d start len) 0 r) o
    by (yes r) =
        let c = accepted d start len r in
        let w = word_back start len number s c.block m in
        let f : fits (start_of v) (len_of v) ≡ true = rw (w.start_back, w.len-back) c.block in
        let q = fits-says start len c.block in
        let up : rises 0x5FFF v ≡ true = says-rises 0x5FFF v (rw w.start_back (omega (arith, q))) f in
        let small : v < 2 ^ 64 = omega (arith, q) in
        rw (eq-eqb (register_refusal d start len) 0 r) (go f up small w.start_back w.held (any (holds start) d) refl)
      where
        go : fits (start_of v) (len_of v) ≡ true → rises 0x5FFF v ≡ true → v < 2 ^ 64 → start_of v ≡ start → (v ≡ 0 → ⊥)
            → (t : Bool) → any (holds start) d ≡ t
            → ordered 0x5FFF (cond t (set d (first (holds start) d) v) (put v d)) ≡ true
        go f up small back held true h = replace-ordered start v 0x5FFF d back f held h o
        go f up small back held false h = put-ordered v 0x5FFF d small b held up (rw back h) o
