-- Registering keeps a directory fit, and what a lookup finds afterwards. Assumes nothing.
use Rattle.std.proofs.Common.{◌≡◌, ℕ, zero, suc, ◌^◌, ◌<◌, ◌≤◌, Bool, true, false, cond, not, ◌||◌, eqb, ltb, List, [], ◌∷◌, length, get_or, set, sym, refl, ap, ◌∙◌, arith, length-set, get_or-set_other, get_or-set_same, ltb-false, le-ltb, eq-eqb, ne_eqb}
use native.Mathlib.Decide.{ℕ_discrete}
use Rattle.std.proofs.lemmas.List.Recursion.{found_set_other}
use Rattle.directory.specs.Block.{start_of, len_of, number_of, word_of, fits, free, holds}
use Rattle.directory.specs.Fit.{any, first, sound, fit}
use Rattle.directory.specs.Calls.{register_refusal, put, with_block, registered, word_at, refused_lookup, found_of, lookup}
use Rattle.directory.proofs.Laws.Pages.{fits-says}
use Rattle.directory.proofs.Laws.Places.{first_any}
use Rattle.directory.proofs.Laws.Put.{put-length, sound-put, word-put}
use Rattle.directory.proofs.Laws.Sound.{holds-not-free, holds-start, holds_of, holds-other, any_at, any_none}
use Rattle.directory.proofs.Laws.Sound.{sound-cons, cons-sound, sound-once, fit_length, fit-sound, sound-fit}

-- ---- an accepted registering

pub record Accepted (d : List ℕ) (start len : ℕ) : Type 0 where
  pub fit-before : fit d ≡ true
  pub address : 0x4800 ≤ start
  pub block : fits start len ≡ true
  pub room : (any (holds start) d || any free d) ≡ true

pub accepted : (d : List ℕ) (start len : ℕ) → register_refusal d start len ≡ 0 → Accepted d start len
unfolding register_refusal
accepted d start len e =
    let r = go (fit d) (ltb start 0x4800) (fits start len) (any (holds start) d || any free d) e in
    record { fit-before = r.0; address = ltb-false _ _ r.1; block = r.2; room = r.3 }
  where
    go : (f l b r : Bool) → ◌≡◌ {A = ℕ} (cond (not f) 2 (cond l 8 (cond (not b) 13 (cond r 0 14)))) 0
        → (f ≡ true) × (l ≡ false) × (b ≡ true) × (r ≡ true)
    go true true b r e = absurd (omega arith)
    go true false true true e = (refl, refl, refl, refl)
    go true false true false e = absurd (omega arith)
    go true false false r e = absurd (omega arith)
    go false l b r e = absurd (omega arith)

-- ---- the place that it takes

pub record Place (d : List ℕ) (start i : ℕ) : Type 0 where
  pub within : i < length d
  -- no other place holds the start
  pub only : (j : ℕ) → j < length d → holds start (get_or d j 0) ≡ true → j ≡ i
  -- and this one holds no other
  pub own : (a : ℕ) → (a ≡ start → ⊥) → holds a (get_or d i 0) ≡ false

first-at : (p : ℕ → Bool) (d : List ℕ) → any p d ≡ true → p (get_or d (first p d) 0) ≡ true
unfolding any first
first-at p [] e = cc
first-at p (w ∷ d) e = go (first-at p d) (p w) refl e
  where
    go : (any p d ≡ true → p (get_or d (first p d) 0) ≡ true) → (b : Bool) → p w ≡ b → (b || any p d) ≡ true
        → p (get_or (w ∷ d) (cond b 0 (suc (first p d))) 0) ≡ true
    go ih true q e = q
    go ih false q e = ih e

-- a place that holds the start already
held_place : (d : List ℕ) (start : ℕ) → sound d ≡ true → any (holds start) d ≡ true → Place d start (first (holds start) d)
held_place d start s e =
    let at = first-at (holds start) d e in
    let w = get_or d (first (holds start) d) 0 in
    record {
      within = first_any (holds start) d e;
      only = λ j h q. sound-once d s j (first (holds start) d) (holds-not-free start (get_or d j 0) q) (holds-not-free start w at)
          (holds-start start (get_or d j 0) q ∙ sym (holds-start start w at));
      own = λ a n. holds-other a w (λ q. n (sym q ∙ holds-start start w at));
    }

-- ---- a store into that place

-- the same of the rest of a list
rest-only : (d : List ℕ) (w start i : ℕ)
    → ((j : ℕ) → j < suc (length d) → holds start (get_or (w ∷ d) j 0) ≡ true → j ≡ suc i)
    → (j : ℕ) → j < length d → holds start (get_or d j 0) ≡ true → j ≡ i
rest-only d w start i only j h q = let e : suc j ≡ suc i = only (suc j) (omega arith) q in omega arith

sound-set : (d : List ℕ) (i v : ℕ) → sound d ≡ true → i < length d → fits (start_of v) (len_of v) ≡ true
    → ((j : ℕ) → j < length d → holds (start_of v) (get_or d j 0) ≡ true → j ≡ i)
    → sound (set d i v) ≡ true
sound-set [] i v s h f only = absurd (omega arith)
sound-set (w ∷ d) zero v s h f only =
    cons-sound v d (record {
      tail = (sound-cons w d s).tail;
      first = λ n. f;
      alone = λ n. any_none (holds (start_of v)) d (λ j k q. let e : suc j ≡ 0 = only (suc j) (omega arith) q in omega arith);
    })
sound-set (w ∷ d) (suc i) v s h f only =
    cons-sound w (set d i v) (record {
      tail = sound-set d i v (sound-cons w d s).tail (omega arith) f (rest-only d w (start_of v) i only);
      first = (sound-cons w d s).first;
      alone = λ n. any_none (holds (start_of w)) (set d i v) (λ j k q. by n j (rw length-set at k) q (ℕ_discrete j i));
    })
  where
    by : (w ≡ 0 → ⊥) → (j : ℕ) → j < length d → holds (start_of w) (get_or (set d i v) j 0) ≡ true → Dec (j ≡ i) → ⊥
    by n j k q (yes e) =
        let r : holds (start_of w) v ≡ true = rw (e, get_or-set_same d i v 0 (omega arith)) at q in
        let t : start_of v ≡ start_of w = holds-start (start_of w) v r in
        let u : holds (start_of v) w ≡ true = rw t (holds_of w n) in
        let z : 0 ≡ suc i = only 0 (omega arith) u in omega arith
    by n j k q (no e) =
        let r : holds (start_of w) (get_or d j 0) ≡ true = rw (get_or-set_other d i j v 0 e) at q in
        let a : any (holds (start_of w)) d ≡ true = any_at (holds (start_of w)) d j k r in
        let b : any (holds (start_of w)) d ≡ false = (sound-cons w d s).alone n in
        cc

word_set : (d : List ℕ) (i v : ℕ) → i < length d → (v ≡ 0 → ⊥)
    → ((j : ℕ) → j < length d → holds (start_of v) (get_or d j 0) ≡ true → j ≡ i)
    → word_at (start_of v) (set d i v) ≡ v
unfolding word_at
word_set [] i v h n only = absurd (omega arith)
word_set (w ∷ d) zero v h n only = rw (holds_of v n)
word_set (w ∷ d) (suc i) v h n only = go (holds (start_of v) w) refl (word_set d i v (omega arith) n (rest-only d w (start_of v) i only))
  where
    go : (b : Bool) → holds (start_of v) w ≡ b → word_at (start_of v) (set d i v) ≡ v
        → cond b w (word_at (start_of v) (set d i v)) ≡ v
    go true e r = let z : 0 ≡ suc i = only 0 (omega arith) e in absurd (omega arith)
    go false e r = r

word-set-other : (a : ℕ) (d : List ℕ) (i v : ℕ) → holds a v ≡ false → holds a (get_or d i 0) ≡ false → word_at a (set d i v) ≡ word_at a d
unfolding word_at
word-set-other a d i v e f = found_set_other (word_at a) (holds a) (λ w. w) 0 refl (λ w d. refl) d i v 0 f e

-- ---- the word that is stored

pub record Word (start len number : ℕ) : Type 0 where
  pub start_back : start_of (word_of start len number) ≡ start
  pub len-back : len_of (word_of start len number) ≡ len
  pub number-back : number_of (word_of start len number) ≡ number
  pub held : word_of start len number ≡ 0 → ⊥

pub word_back : (start len number : ℕ) → start < 2 ^ 16 → fits start len ≡ true → number < 2 ^ 32 → Word start len number
word_back start len number s f n =
    let b = fits-says start len f in
    record {
      start_back = omega arith;
      len-back = omega arith;
      number-back = omega arith;
      held = λ e. omega arith;
    }

-- ---- the laws

module _ (d : List ℕ) (start len number : ℕ) (s : start < 2 ^ 16) (n : number < 2 ^ 32) where
  -- a refused registering alters nothing
  pub refused-same : (register_refusal d start len ≡ 0 → ⊥) → registered d start len number ≡ d
  unfolding registered
  refused-same r = rw (ne_eqb (register_refusal d start len) 0 r)

  pub accepted-with : register_refusal d start len ≡ 0 → registered d start len number ≡ with_block d start (word_of start len number)
  unfolding registered
  accepted-with r = rw (eq-eqb (register_refusal d start len) 0 r)

  -- a new block in front of all others
  in-front : Accepted d start len → any (holds start) d ≡ false → sound (word_of start len number ∷ d) ≡ true
  in-front a e =
      let w = word_back start len number s a.block n in
      cons-sound (word_of start len number) d (record {
        tail = fit-sound d a.fit-before;
        first = λ m. rw (w.start_back, w.len-back) a.block;
        alone = λ m. rw w.start_back e;
      })

  -- registering keeps a directory fit
  pub registered-fit : fit d ≡ true → fit (registered d start len number) ≡ true
  unfolding with_block
  registered-fit f = by (ℕ_discrete (register_refusal d start len) 0)
    where
      with-block : Accepted d start len → (b : Bool) → any (holds start) d ≡ b
          → fit (cond b (set d (first (holds start) d) (word_of start len number)) (put (word_of start len number) d)) ≡ true
      with-block a true e =
          let w = word_back start len number s a.block n in
          let p = held_place d start (fit-sound d f) e in
          let at = first (holds start) d in
          sound-fit (set d at (word_of start len number)) (length-set d at (word_of start len number) ∙ fit_length d f)
          (sound-set d at (word_of start len number) (fit-sound d f) p.within (rw (w.start_back, w.len-back) a.block)
          (λ j h. rw w.start_back (p.only j h)))
      with-block a false e =
          let w = word_back start len number s a.block n in
          sound-fit (put (word_of start len number) d) (put-length (word_of start len number) d ∙ fit_length d f)
          (sound-put (word_of start len number) d w.held (in-front a e))

      by : Dec (register_refusal d start len ≡ 0) → fit (registered d start len number) ≡ true
      by (no r) = rw (refused-same r) f
      by (yes r) = rw (accepted-with r) (with-block (accepted d start len r) (any (holds start) d) refl)

  -- the block that is held at each start afterwards
  pub word-registered : register_refusal d start len ≡ 0 → (a : ℕ)
      → word_at a (registered d start len number) ≡ cond (eqb a start) (word_of start len number) (word_at a d)
  unfolding with_block
  word-registered r a = rw (accepted-with r) (with-block (accepted d start len r) (any (holds start) d) refl (ℕ_discrete a start))
    where
      with-block : Accepted d start len → (b : Bool) → any (holds start) d ≡ b → Dec (a ≡ start)
          → word_at a (cond b (set d (first (holds start) d) (word_of start len number)) (put (word_of start len number) d))
          ≡ cond (eqb a start) (word_of start len number) (word_at a d)
      with-block c true e (yes q) =
          let w = word_back start len number s c.block n in
          let p = held_place d start (fit-sound d c.fit-before) e in
          rw (eq-eqb a start q, q)
          (rw w.start_back at (word_set d (first (holds start) d) (word_of start len number) p.within w.held
          (λ j h. rw w.start_back (p.only j h))))
      with-block c true e (no q) =
          let w = word_back start len number s c.block n in
          let p = held_place d start (fit-sound d c.fit-before) e in
          rw (ne_eqb a start q)
          (word-set-other a d (first (holds start) d) (word_of start len number)
          (holds-other a (word_of start len number) (λ z. q (sym z ∙ w.start_back))) (p.own a q))
      with-block c false e (yes q) =
          let w = word_back start len number s c.block n in
          let room : any free d ≡ true = rw e at c.room in
          let own : holds start (word_of start len number) ≡ true = rw w.start_back at (holds_of (word_of start len number) w.held) in
          rw (eq-eqb a start q, q, word-put start (word_of start len number) d w.held (in-front c e) room, own)
      with-block c false e (no q) =
          let w = word_back start len number s c.block n in
          let room : any free d ≡ true = rw e at c.room in
          let own : holds a (word_of start len number) ≡ false =
          holds-other a (word_of start len number) (λ z. q (sym z ∙ w.start_back)) in
          rw (ne_eqb a start q, word-put a (word_of start len number) d w.held (in-front c e) room, own)

  -- what a lookup finds after an accepted registering: the block at its start, and what it found before at each other address
  pub lookup-registered : register_refusal d start len ≡ 0 → (a : ℕ)
      → lookup (registered d start len number) a
      ≡ cond (eqb a start) (record { refusal = 0; held = true; len = len; number = number }) (lookup d a)
  unfolding lookup
  lookup-registered r a =
      let c = accepted d start len r in
      rw (registered-fit c.fit-before, c.fit-before, word-registered r a) (by (ℕ_discrete a start))
    where
      by : Dec (a ≡ start)
          → cond (ltb a 0x4800) (refused_lookup 8) (found_of (cond (eqb a start) (word_of start len number) (word_at a d)))
          ≡ cond (eqb a start) (record { refusal = 0; held = true; len = len; number = number })
          (cond (ltb a 0x4800) (refused_lookup 8) (found_of (word_at a d)))
      by (yes e) =
          let c = accepted d start len r in
          let w = word_back start len number s c.block n in
          rw (eq-eqb a start e, le-ltb a 0x4800 (omega (arith, c.address)))
          (λ i. record {
            refusal = 0;
            held = ap not (ne_eqb (word_of start len number) 0 w.held) i;
            len = w.len-back i;
            number = w.number-back i;
          })
      by (no e) = rw (ne_eqb a start e)
