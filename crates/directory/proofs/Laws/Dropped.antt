-- Dropping keeps a directory fit, and a lookup afterwards finds exactly the blocks that do not go. Assumes nothing.
use Rattle.std.proofs.Common.{◌≡◌, ℕ, suc, Bool, true, false, cond, not, ◌&&◌, ◌||◌, ltb, List, [], ◌∷◌, ◌++◌, length, get_or, sym, refl, ap, ◌∙◌, add-one, eq-eqb, ne_eqb}
use native.Mathlib.Decide.{ℕ_discrete}
use Rattle.std.proofs.Math.Bool.{or-false}
use Rattle.std.proofs.lemmas.Bool.{and_right}
use Rattle.std.proofs.lemmas.List.{length_push}
use Rattle.std.proofs.lemmas.List.Recursion.{or_push, found_push_other}
use Rattle.directory.specs.Block.{start_of, len_of, fits, free, holds}
use Rattle.directory.specs.Fit.{any, sound, fit}
use Rattle.directory.specs.Calls.{Found, word_at, refused_lookup, found_of, lookup}
use Rattle.directory.specs.Drop.{goes, gone, kept, dropped}
use Rattle.directory.proofs.Laws.Pages.{gone-none}
use Rattle.directory.proofs.Laws.Sound.{holds-not-free, holds-start, holds-free, any_none, SoundCons}
use Rattle.directory.proofs.Laws.Sound.{sound-cons, cons-sound, sound-at, fit_length, fit-sound, sound-fit}

-- ---- one place: its block goes or stays

pub gone-free : (t : ℕ) → gone t 0 ≡ false
unfolding gone
gone-free t = refl

pub kept_free : (t : ℕ) → kept t 0 ≡ 0
unfolding kept gone
kept_free t = refl

-- ---- a free place behind the others

any-more : (a : ℕ) (d : List ℕ) → any (holds a) (d ++ (0 ∷ [])) ≡ any (holds a) d
unfolding any
any-more a d = or_push (any (holds a)) (holds a) refl (λ w d. refl) d 0 ∙ rw (holds-free a) (or-false (any (holds a) d))

sound_more : (d : List ℕ) → sound (d ++ (0 ∷ [])) ≡ sound d
unfolding sound
sound_more [] = refl
sound_more (w ∷ d) = rw (any-more (start_of w) d, sound_more d)

word_more : (a : ℕ) (d : List ℕ) → word_at a (d ++ (0 ∷ [])) ≡ word_at a d
unfolding word_at
word_more a d = found_push_other (word_at a) (holds a) (λ w. w) 0 refl (λ w d. refl) d 0 (holds-free a)

-- ---- all places

pub dropped-length : (t : ℕ) (d : List ℕ) → length (dropped t d) ≡ length d
unfolding dropped
dropped-length t [] = refl
dropped-length t (w ∷ d) = go (gone t w) (dropped-length t d)
  where
    go : (g : Bool) → length (dropped t d) ≡ length d → length (cond g (dropped t d ++ (0 ∷ [])) (w ∷ dropped t d)) ≡ suc (length d)
    go true ih = length_push (dropped t d) 0 ∙ add-one (length (dropped t d)) ∙ ap suc ih
    go false ih = ap suc ih

-- where no block goes the directory is as it was
pub dropped-none : (t : ℕ) (d : List ℕ) → any (gone t) d ≡ false → dropped t d ≡ d
unfolding dropped any
dropped-none t [] e = refl
dropped-none t (w ∷ d) e = go (gone t w) (dropped-none t d) e
  where
    go : (g : Bool) → (any (gone t) d ≡ false → dropped t d ≡ d) → (g || any (gone t) d) ≡ false
        → cond g (dropped t d ++ (0 ∷ [])) (w ∷ dropped t d) ≡ w ∷ d
    go true ih e = cc
    go false ih e = ap (w ∷◌) (ih e)

-- and so where no page is touched
pub dropped-untouched : (t : ℕ) (d : List ℕ) → sound d ≡ true → t ≡ 0 → dropped t d ≡ d
dropped-untouched t d s z =
    dropped-none t d (any_none (gone t) d (λ i h e.
    let n : gone t (get_or d i 0) ≡ false = rw z (gone-none (get_or d i 0) (sound-at d s i)) in
    cc))

-- ---- the directory stays fit

any-dropped : (a t : ℕ) (d : List ℕ) → any (holds a) d ≡ false → any (holds a) (dropped t d) ≡ false
unfolding any dropped
any-dropped a t [] e = refl
any-dropped a t (w ∷ d) e = go (gone t w) (holds a w) refl (any-dropped a t d) e
  where
    go : (g b : Bool) → holds a w ≡ b → (any (holds a) d ≡ false → any (holds a) (dropped t d) ≡ false)
        → (b || any (holds a) d) ≡ false → any (holds a) (cond g (dropped t d ++ (0 ∷ [])) (w ∷ dropped t d)) ≡ false
    go g true q ih e = cc
    go true false q ih e = any-more a (dropped t d) ∙ ih e
    go false false q ih e = rw q (ih e)

sound-dropped : (t : ℕ) (d : List ℕ) → sound d ≡ true → sound (dropped t d) ≡ true
unfolding dropped
sound-dropped t [] e = e
sound-dropped t (w ∷ d) e = go (gone t w) (sound-cons w d e) (sound-dropped t d (sound-cons w d e).tail)
  where
    go : (g : Bool) → SoundCons w d → sound (dropped t d) ≡ true → sound (cond g (dropped t d ++ (0 ∷ [])) (w ∷ dropped t d)) ≡ true
    go true s r = sound_more (dropped t d) ∙ r
    go false s r =
        cons-sound w (dropped t d)
        (record { tail = r; first = s.first; alone = λ m. any-dropped (start_of w) t d (s.alone m) })

pub dropped-fit : (t : ℕ) (d : List ℕ) → fit d ≡ true → fit (dropped t d) ≡ true
dropped-fit t d f = sound-fit (dropped t d) (dropped-length t d ∙ fit_length d f) (sound-dropped t d (fit-sound d f))

-- ---- what is held afterwards

word_none : (a : ℕ) (d : List ℕ) → any (holds a) d ≡ false → word_at a d ≡ 0
unfolding any word_at
word_none a [] e = refl
word_none a (w ∷ d) e = go (holds a w) (word_none a d) e
  where
    go : (b : Bool) → (any (holds a) d ≡ false → word_at a d ≡ 0) → (b || any (holds a) d) ≡ false → cond b w (word_at a d) ≡ 0
    go true ih e = cc
    go false ih e = ih e

pub word-start : (a : ℕ) (d : List ℕ) → (word_at a d ≡ 0 → ⊥) → start_of (word_at a d) ≡ a
unfolding word_at
word-start a [] n = absurd (n refl)
word-start a (w ∷ d) n = go (holds a w) refl (word-start a d) n
  where
    go : (b : Bool) → holds a w ≡ b → ((word_at a d ≡ 0 → ⊥) → start_of (word_at a d) ≡ a) → (cond b w (word_at a d) ≡ 0 → ⊥)
        → start_of (cond b w (word_at a d)) ≡ a
    go true e ih n = holds-start a w e
    go false e ih n = ih n

pub word-dropped : (a t : ℕ) (d : List ℕ) → sound d ≡ true → word_at a (dropped t d) ≡ kept t (word_at a d)
unfolding dropped word_at kept
word-dropped a t [] e = sym (kept_free t)
word-dropped a t (w ∷ d) e =
    go (gone t w) refl (holds a w) refl (word-dropped a t d (sound-cons w d e).tail) (sound-cons w d e)
  where
    go : (g : Bool) → gone t w ≡ g → (b : Bool) → holds a w ≡ b → word_at a (dropped t d) ≡ kept t (word_at a d) → SoundCons w d
        → word_at a (cond g (dropped t d ++ (0 ∷ [])) (w ∷ dropped t d)) ≡ kept t (cond b w (word_at a d))
    go true p false q ih s = word_more a (dropped t d) ∙ ih
    go true p true q ih s =
        let z : word_at a d ≡ 0 = word_none a d (rw (holds-start a w q) at (s.alone (holds-not-free a w q))) in
        word_more a (dropped t d) ∙ rw (p, ih, z) (kept_free t)
    go false p false q ih s = rw q ih
    go false p true q ih s = rw (q, p)

-- K4: none
abbrev pub none : Found
none = found_of 0

-- a lookup finds what it found before, but for the blocks that go
pub lookup-dropped : (t : ℕ) (d : List ℕ) (a : ℕ) → fit d ≡ true
    → lookup (dropped t d) a ≡ cond ((lookup d a).held && goes t a (lookup d a).len) none (lookup d a)
unfolding lookup kept gone
lookup-dropped t d a f = rw (dropped-fit t d f, f, word-dropped a t d (fit-sound d f)) (low (ltb a 0x4800))
  where
    by : (g : Bool) → gone t (word_at a d) ≡ g → found_of (kept t (word_at a d)) ≡ cond g none (found_of (word_at a d))
    by true e = rw e
    by false e = rw e

    found : Dec (word_at a d ≡ 0)
        → found_of (kept t (word_at a d)) ≡ cond (not (free (word_at a d)) && goes t a (len_of (word_at a d))) none (found_of (word_at a d))
    found (yes z) = rw (z, kept_free t)
    found (no n) =
        let e : gone t (word_at a d) ≡ (not (free (word_at a d)) && goes t a (len_of (word_at a d))) = rw (word-start a d n) in
        rw (← e) (by (gone t (word_at a d)) refl)

    low : (l : Bool) → cond l (refused_lookup 8) (found_of (kept t (word_at a d)))
        ≡ (let r = cond l (refused_lookup 8) (found_of (word_at a d)) in cond (r.held && goes t a r.len) none r)
    low true = refl
    low false = found (ℕ_discrete (word_at a d) 0)

-- ---- a block that is held is fit, and goes or stays by what was touched

pub word_fits : (a : ℕ) (d : List ℕ) → sound d ≡ true → (word_at a d ≡ 0 → ⊥) → fits (start_of (word_at a d)) (len_of (word_at a d)) ≡ true
unfolding word_at
word_fits a [] s n = absurd (n refl)
word_fits a (w ∷ d) s n = go (holds a w) n (word_fits a d (sound-cons w d s).tail)
  where
    go : (b : Bool) → (cond b w (word_at a d) ≡ 0 → ⊥)
        → ((word_at a d ≡ 0 → ⊥) → fits (start_of (word_at a d)) (len_of (word_at a d)) ≡ true)
        → fits (start_of (cond b w (word_at a d))) (len_of (cond b w (word_at a d))) ≡ true
    go true n ih = (sound-cons w d s).first n
    go false n ih = ih n

pub kept_goes : (t w : ℕ) → goes t (start_of w) (len_of w) ≡ true → kept t w ≡ 0
unfolding kept gone
kept_goes t w g = by (ℕ_discrete w 0)
  where
    by : Dec (w ≡ 0) → cond (not (free w) && goes t (start_of w) (len_of w)) 0 w ≡ 0
    by (yes z) = rw (eq-eqb w 0 z) z
    by (no n) = rw (ne_eqb w 0 n, g)

pub kept-stays : (t w : ℕ) → goes t (start_of w) (len_of w) ≡ false → kept t w ≡ w
unfolding kept gone
kept-stays t w g = rw (g, and_right (not (free w)) false refl)
