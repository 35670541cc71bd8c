-- A block that is put where its start belongs: the pass that does it, and what is held afterwards. Assumes nothing.
use Rattle.std.proofs.Common.{◌≡◌, ℕ, zero, suc, ◌+◌, ◌<◌, ◌≤◌, min, max, Bool, true, false, cond, List, [], ◌∷◌, length, get_or, set, sym, refl, ap, ◌∙◌, add-one, arith, length-set, eq-eqb, ne_eqb}
use native.Mathlib.Decide.{dec_le, ℕ_discrete}
use Rattle.std.proofs.lemmas.Bool.{or_parts}
use Rattle.directory.specs.Block.{start_of, free, holds}
use Rattle.directory.specs.Fit.{any, sound}
use Rattle.directory.specs.Calls.{put, word_at}
use Rattle.directory.proofs.Laws.Sound.{holds-start, holds_of, holds-other, holds-free, sound-cons, cons-sound}

-- ---- the pass

-- with the first i places done and a block carried on
unfoldable pub put_from : ℕ → ℕ → List ℕ → List ℕ
put_from zero c d = put c d
put_from (suc i) c [] = []
put_from (suc i) c (x ∷ d) = x ∷ put_from i c d

put_next : (c i : ℕ) (d : List ℕ) → i < length d → (get_or d i 0 ≡ 0 → ⊥)
    → put_from (suc i) (max c (get_or d i 0)) (set d i (min c (get_or d i 0))) ≡ put_from i c d
unfolding put_from put
put_next c i [] h n = absurd (omega arith)
put_next c zero (x ∷ d) h n = rw (ne_eqb x 0 n)
put_next c (suc i) (x ∷ d) h n = ap (x ∷◌) (put_next c i d (omega arith) n)

put-free : (c i : ℕ) (d : List ℕ) → i < length d → get_or d i 0 ≡ 0 → set d i c ≡ put_from i c d
unfolding put_from put
put-free c i [] h e = absurd (omega arith)
put-free c zero (x ∷ d) h e = rw (eq-eqb x 0 e)
put-free c (suc i) (x ∷ d) h e = ap (x ∷◌) (put-free c i d (omega arith) e)

put-end : (c i : ℕ) (d : List ℕ) → length d ≤ i → d ≡ put_from i c d
unfolding put_from put
put-end c zero [] h = refl
put-end c (suc i) [] h = refl
put-end c zero (x ∷ d) h = absurd (omega arith)
put-end c (suc i) (x ∷ d) h = ap (x ∷◌) (put-end c i d (omega arith))

pub record Putting (w : ℕ) (d₀ : List ℕ) (c i : ℕ) (d : List ℕ) : Type 0 where
  pub long : length d ≡ length d₀
  pub left : put_from i c d ≡ put w d₀

pub putting-none : (w : ℕ) (d : List ℕ) → Putting w d w 0 d
unfolding put_from
putting-none w d = record { long = refl; left = refl }

module _ {w : ℕ} {d₀ : List ℕ} {c i : ℕ} {d : List ℕ} (p : Putting w d₀ c i d) where
  pub putting-next : i < length d → (get_or d i 0 ≡ 0 → ⊥)
      → Putting w d₀ (max c (get_or d i 0)) (i + 1) (set d i (min c (get_or d i 0)))
  putting-next h n =
      record {
        long = length-set d i (min c (get_or d i 0)) ∙ p.long;
        left = rw add-one (put_next c i d h n ∙ p.left);
      }

  pub putting-free : i < length d → get_or d i 0 ≡ 0 → set d i c ≡ put w d₀
  putting-free h e = put-free c i d h e ∙ p.left

  pub putting-end : length d ≤ i → d ≡ put w d₀
  putting-end h = put-end c i d h ∙ p.left

-- ---- what is held afterwards

pub put-length : (c : ℕ) (d : List ℕ) → length (put c d) ≡ length d
unfolding put
put-length c [] = refl
put-length c (x ∷ d) = go (put-length (max c x) d) (free x)
  where
    go : length (put (max c x) d) ≡ length d → (b : Bool) → length (cond b (c ∷ d) (min c x ∷ put (max c x) d)) ≡ suc (length d)
    go ih true = refl
    go ih false = ap suc ih

-- the two blocks of a step stay as they are or change places
data Swap (c x : ℕ) : Type 0 where
  stays : min c x ≡ c → max c x ≡ x → Swap c x
  swaps : min c x ≡ x → max c x ≡ c → Swap c x

swap : (c x : ℕ) → Swap c x
swap c x = by (dec_le c x)
  where
    by : Dec (c ≤ x) → Swap c x
    by (yes h) = stays (omega arith) (omega arith)
    by (no h) = swaps (omega (arith, h)) (omega (arith, h))

any-put : (a c : ℕ) (d : List ℕ) → holds a c ≡ false → any (holds a) d ≡ false → any (holds a) (put c d) ≡ false
unfolding any put
any-put a c [] h e = refl
any-put a c (x ∷ d) h e = by (λ y. any-put a y d) (ℕ_discrete x 0) (swap c x)
  where
    head : holds a x ≡ false
    head = (or_parts (holds a x) (any (holds a) d) e).0

    tail : any (holds a) d ≡ false
    tail = (or_parts (holds a x) (any (holds a) d) e).1

    by : ((y : ℕ) → holds a y ≡ false → any (holds a) d ≡ false → any (holds a) (put y d) ≡ false) → Dec (x ≡ 0) → Swap c x
        → any (holds a) (cond (free x) (c ∷ d) (min c x ∷ put (max c x) d)) ≡ false
    by ih (yes z) s = rw (eq-eqb x 0 z, h) tail
    by ih (no n) (stays p q) = rw (ne_eqb x 0 n, p, q, h) (ih x head tail)
    by ih (no n) (swaps p q) = rw (ne_eqb x 0 n, p, q, head) (ih c h tail)

-- a directory without its second place
without : (c x : ℕ) (d : List ℕ) → sound (c ∷ x ∷ d) ≡ true → sound (c ∷ d) ≡ true
unfolding any
without c x d s =
    let k = sound-cons c (x ∷ d) s in
    cons-sound c d (record {
      tail = (sound-cons x d k.tail).tail;
      first = k.first;
      alone = λ m. (or_parts (holds (start_of c) x) (any (holds (start_of c)) d) (k.alone m)).1;
    })

-- of two blocks in a directory, neither has the other's start
module _ (c x : ℕ) (d : List ℕ) (m : c ≡ 0 → ⊥) (n : x ≡ 0 → ⊥) (s : sound (c ∷ x ∷ d) ≡ true) where
  alone : any (holds (start_of c)) (x ∷ d) ≡ false
  alone = (sound-cons c (x ∷ d) s).alone m

  other : holds (start_of c) x ≡ false
  unfolding any
  other = (or_parts (holds (start_of c) x) (any (holds (start_of c)) d) alone).0

  behind : any (holds (start_of c)) d ≡ false
  unfolding any
  behind = (or_parts (holds (start_of c) x) (any (holds (start_of c)) d) alone).1

  differ : start_of c ≡ start_of x → ⊥
  differ q =
      let t : holds (start_of c) x ≡ true = rw q (holds_of x n) in
      cc other

pub sound-put : (c : ℕ) (d : List ℕ) → (c ≡ 0 → ⊥) → sound (c ∷ d) ≡ true → sound (put c d) ≡ true
unfolding put
sound-put c [] m s = (sound-cons c [] s).tail
sound-put c (x ∷ d) m s = by (λ y. sound-put y d) (ℕ_discrete x 0) (swap c x)
  where
    after : sound (x ∷ d) ≡ true
    after = (sound-cons c (x ∷ d) s).tail

    by : ((y : ℕ) → (y ≡ 0 → ⊥) → sound (y ∷ d) ≡ true → sound (put y d) ≡ true) → Dec (x ≡ 0) → Swap c x
        → sound (cond (free x) (c ∷ d) (min c x ∷ put (max c x) d)) ≡ true
    by ih (yes z) w = rw (eq-eqb x 0 z) (without c x d s)
    by ih (no n) (stays p q) =
        rw (ne_eqb x 0 n, p, q)
        (cons-sound c (put x d) (record {
          tail = ih x n after;
          first = (sound-cons c (x ∷ d) s).first;
          alone = λ k. any-put (start_of c) x d (other c x d m n s) (behind c x d m n s);
        }))
    by ih (no n) (swaps p q) =
        rw (ne_eqb x 0 n, p, q)
        (cons-sound x (put c d) (record {
          tail = ih c m (without c x d s);
          first = (sound-cons x d after).first;
          alone = λ k. any-put (start_of x) c d (holds-other (start_of x) c (differ c x d m n s)) ((sound-cons x d after).alone k);
        }))

pub word-put : (a c : ℕ) (d : List ℕ) → (c ≡ 0 → ⊥) → sound (c ∷ d) ≡ true → any free d ≡ true
    → word_at a (put c d) ≡ cond (holds a c) c (word_at a d)
unfolding any put word_at
word-put a c [] m s r = cc
word-put a c (x ∷ d) m s r = by (λ y. word-put a y d) (ℕ_discrete x 0) (swap c x)
  where
    after : sound (x ∷ d) ≡ true
    after = (sound-cons c (x ∷ d) s).tail

    room : (x ≡ 0 → ⊥) → any free d ≡ true
    room n = rw (ne_eqb x 0 n) at r

    both : (p q : Bool) → holds a c ≡ p → holds a x ≡ q → (x ≡ 0 → ⊥)
        → cond q x (cond p c (word_at a d)) ≡ cond p c (cond q x (word_at a d))
    both true true e f n = absurd (differ c x d m n s (holds-start a c e ∙ sym (holds-start a x f)))
    both true false e f n = refl
    both false q e f n = refl

    by : ((y : ℕ) → (y ≡ 0 → ⊥) → sound (y ∷ d) ≡ true → any free d ≡ true
        → word_at a (put y d) ≡ cond (holds a y) y (word_at a d)) → Dec (x ≡ 0) → Swap c x
        → word_at a (cond (free x) (c ∷ d) (min c x ∷ put (max c x) d)) ≡ cond (holds a c) c (cond (holds a x) x (word_at a d))
    by ih (yes z) w = rw (eq-eqb x 0 z, z, holds-free a)
    by ih (no n) (stays p q) = rw (ne_eqb x 0 n, p, q, ih x n after (room n))
    by ih (no n) (swaps p q) =
        rw (ne_eqb x 0 n, p, q, ih c m (without c x d s) (room n)) (both (holds a c) (holds a x) refl refl n)
