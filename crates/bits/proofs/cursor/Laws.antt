-- Laws of the cursor: what one write or read does, and how they compose.
use mathlib.Core.Path.{◌≡◌, refl, sym, ap, ap₂, ◌∙◌, subst}
use mathlib.Core.List.{List, [], ◌∷◌, ◌++◌}
use Prim.Native.Nat.{ℕ, ◌+◌, ◌-◌, ◌*◌, ◌^◌, ◌/◌, ◌%◌, ◌≤◌, ◌<◌}
use native.Mathlib.Nat.{mul-le-mul_right, lt_of_lt_of_le, le_refl, add_comm, div-one, mod-one}
use native.Mathlib.Numerals.{add-one}
use native.Mathlib.Omega.{arith}
use lib.Pow.{pow-add, pow_mono, shl_exact, shr_lt, split}
use lib.Arith.{digits_lt, lt-one}
use lib.ListN.{length, take, drop, set, get_or, replicate, length-replicate, length-drop}
use lib.Seq.{take-suc, take-suc-set, get_or-drop, paste, take-paste, drop-paste, length-paste, take_all, take-add, length-take-le}
use lib.Seq.{take-length, drop-drop}
use Rattle.bits.specs.Fields.{total, pack, unpack, Fit, after, times, each}
use Rattle.bits.specs.Words.{word_of, eights}
use Rattle.bits.specs.Cursor.{Held, Wrote, bits_written, Behind, Read, bits_read, start}
use Rattle.bits.specs.declared.cursor.Cursor.{Cursor}
use Rattle.bits.proofs.Fields.{total-append, pack-unpack, unpack-pack, fit-unpack, after-append, after-word, fit_length, fit_append}
use Rattle.bits.proofs.Fields.{replicate-snoc, each_append, times-add, times-each}
use Rattle.bits.proofs.Lists.{holds-take}
use Rattle.bits.proofs.words.Laws.{total-eights, word-append, length-bytes, word-of-bytes, fit-bytes, bytes-of-word}

-- ---- one field

pub acc-exact : (held n width : ℕ) → n < 8 → width ≤ 56 → held < 2 ^ n → (held * 2 ^ width) % 2 ^ 64 ≡ held * 2 ^ width
acc-exact held n width l k h = shl_exact n width 64 h (omega arith)

pub acc_lt : (held n width v : ℕ) → held < 2 ^ n → v < 2 ^ width → held * 2 ^ width + v < 2 ^ (n + width)
acc_lt held n width v h l = rw (pow-add 2 n width) (digits_lt h l)

-- fewer than 64 bits fit
pub fits63 : (x n : ℕ) → x < 2 ^ n → n < 64 → x < 2 ^ 64
fits63 x n h l = lt_of_lt_of_le h (pow_mono {i = n} {j = 64} (omega arith))

regroup : (a p m x r : ℕ) → (a * p + x) * m + r ≡ a * (p * m) + (x * m + r)
regroup a p m x r = omega arith

-- what a write leaves: the bytes before, those stored and the bits held
pub put-bits : (img img' : List ℕ) (at n held width v k m acc : ℕ) → k * 8 + m ≡ n + width → at + k ≤ length img → held < 2 ^ n
    → v < 2 ^ width
    → acc ≡ held * 2 ^ width + v → img' ≡ paste img at (unpack (eights k) (acc / 2 ^ m)) k
    → word_of (take (at + k) img') * 2 ^ m + acc % 2 ^ m ≡ (word_of (take at img) * 2 ^ n + held) * 2 ^ width + v
put-bits img img' at n held width v k m acc e room hh hv ea ei =
    let bs = unpack (eights k) (acc / 2 ^ m) in
    let small : acc < 2 ^ (k * 8 + m) = rw (ea, e) (acc_lt held n width v hh hv) in
    let front : take (at + k) img' ≡ take at img ++ bs =
    ap (take (at + k)) ei ∙ take-paste img at bs k (omega arith) (rw length-bytes (le_refl k))
    ∙ ap (λ (l : List ℕ). take at img ++ l) (take_all k bs (rw length-bytes (le_refl k))) in
    let bytes : word_of (take (at + k) img') ≡ word_of (take at img) * 2 ^ (k * 8) + acc / 2 ^ m =
    ap word_of front ∙ word-append (take at img) bs ∙
    ap₂ (λ (l x : ℕ). word_of (take at img) * 2 ^ (l * 8) + x) (length-bytes k (acc / 2 ^ m))
    (word-of-bytes k (acc / 2 ^ m) (shr_lt (k * 8) m small)) in
    ap (λ (x : ℕ). x * 2 ^ m + acc % 2 ^ m) bytes
    ∙ regroup (word_of (take at img)) (2 ^ (k * 8)) (2 ^ m) (acc / 2 ^ m) (acc % 2 ^ m)
    ∙ ap₂ (λ (p x : ℕ). word_of (take at img) * p + x) (sym (pow-add 2 (k * 8) m) ∙ ap (λ (x : ℕ). 2 ^ x) e ∙ pow-add 2 n width)
    (split acc m ∙ ea)
    ∙ sym (regroup (word_of (take at img)) (2 ^ n) (2 ^ width) held v)

-- what a read takes: its bits stand behind those passed, and those then held behind these
pub get-bits : (img : List ℕ) (at n held width k m acc : ℕ) → m + width ≡ n + k * 8 → at + k ≤ length img
    → held ≡ word_of (take at img) % 2 ^ n → acc ≡ held * 2 ^ (k * 8) + word_of (take k (drop at img))
    → word_of (take (at + k) img) ≡ (word_of (take at img) / 2 ^ n * 2 ^ width + acc / 2 ^ m) * 2 ^ m + acc % 2 ^ m
get-bits img at n held width k m acc e room eh ea =
    let N = word_of (take at img) in
    let mid = take k (drop at img) in
    let q = N / 2 ^ n in
    let lm : length mid ≡ k = length-take-le k (drop at img) (rw length-drop (omega arith)) in
    let now : word_of (take (at + k) img) ≡ N * 2 ^ (k * 8) + word_of mid =
    ap word_of (take-add at k img) ∙ word-append (take at img) mid ∙ ap (λ (l : ℕ). N * 2 ^ (l * 8) + word_of mid) lm in
    let before : q * 2 ^ n + held ≡ N = ap (λ (x : ℕ). q * 2 ^ n + x) eh ∙ split N n in
    now ∙ ap (λ (x : ℕ). x * 2 ^ (k * 8) + word_of mid) (sym before)
    ∙ regroup q (2 ^ n) (2 ^ (k * 8)) held (word_of mid)
    ∙ ap₂ (λ (p x : ℕ). q * p + x)
    (sym (pow-add 2 n (k * 8)) ∙ ap (λ (x : ℕ). 2 ^ x) (sym e ∙ add_comm m width) ∙ pow-add 2 width m)
    (sym ea ∙ sym (split acc m))
    ∙ sym (regroup q (2 ^ width) (2 ^ m) (acc / 2 ^ m) (acc % 2 ^ m))

pub got-lt : (held n width k m acc : ℕ) → m + width ≡ n + k * 8 → held < 2 ^ n → acc < (held + 1) * 2 ^ (k * 8)
    → acc / 2 ^ m < 2 ^ width
got-lt held n width k m acc e h l =
    shr_lt width m (rw (add_comm width m, e, pow-add 2 n (k * 8)) (lt_of_lt_of_le l (mul-le-mul_right (2 ^ (k * 8)) (omega arith))))

-- ---- fields behind fields

pub wrote_none : (img : List ℕ) (w : Cursor) → Held w → Wrote img img w w [] []
unfolding after total pack
wrote_none img w h = record { held = h; pos = omega arith; bits = omega arith; rest = refl; len = refl }

-- what stays behind a place stays behind a later one
rest-later : (i j : ℕ) (a b : List ℕ) → i ≤ j → drop i b ≡ drop i a → drop j b ≡ drop j a
rest-later i j a b h e =
    let k : i + (j - i) ≡ j = omega arith in
    rw (← k, ← drop-drop (j - i) i b, ← drop-drop (j - i) i a, e)

pub wrote-append : (a b c : List ℕ) (u v w : Cursor) (ws vs us xs : List ℕ) → length ws ≡ length vs → Wrote a b u v ws vs
    → Wrote b c v w us xs → Wrote a c u w (ws ++ us) (vs ++ xs)
wrote-append a b c u v w ws vs us xs e p q = record {
  held = q.held;
  pos = omega (arith, total-append ws us, p.pos, q.pos);
  bits = q.bits ∙ ap (λ (S : ℕ). after S us xs) p.bits ∙ after-append (bits_written a u) ws vs us xs e;
  rest = q.rest ∙ rest-later v.at w.at a b (omega (arith, q.pos, q.held.few)) p.rest;
  len = q.len ∙ p.len;
}

pub read_none : (img : List ℕ) (r : Cursor) → Behind img r → Read img r r [] []
unfolding after total pack
read_none img r h = record { behind = h; pos = omega arith; fit = tt; bits = omega arith }

pub read-append : (img : List ℕ) (p q r : Cursor) (ws vs us xs : List ℕ) → Read img p q ws vs → Read img q r us xs
    → Read img p r (ws ++ us) (vs ++ xs)
read-append img p q r ws vs us xs f g = record {
  behind = g.behind;
  pos = omega (arith, total-append ws us, f.pos, g.pos);
  fit = fit_append ws us vs xs f.fit g.fit;
  bits = g.bits ∙ ap (λ (S : ℕ). after S us xs) f.bits ∙ after-append (bits_read img p) ws vs us xs (fit_length ws vs f.fit);
}

pub wrote-suc : (a b c : List ℕ) (u v w : Cursor) (width : ℕ) (xs : List ℕ) (i : ℕ) → i < length xs
    → Wrote a b u v (replicate i width) (take i xs) → Wrote b c v w (width ∷ []) (get_or xs i 0 ∷ [])
    → Wrote a c u w (replicate (i + 1) width) (take (i + 1) xs)
wrote-suc a b c u v w width xs i h p q =
    rw (← replicate-snoc i width, add-one i, take-suc xs i 0 h)
    (wrote-append a b c u v w (replicate i width) (take i xs) (width ∷ []) (get_or xs i 0 ∷ [])
    (length-replicate i width ∙ sym (length-take-le i xs (omega arith))) p q)

pub read-suc : (img : List ℕ) (p q r : Cursor) (width : ℕ) (xs : List ℕ) (i v : ℕ) → i < length xs
    → Read img p q (replicate i width) (take i xs) → Read img q r (width ∷ []) (v ∷ [])
    → Read img p r (replicate (i + 1) width) (take (i + 1) (set xs i v))
read-suc img p q r width xs i v h f g =
    rw (← replicate-snoc i width, add-one i, take-suc-set xs i v h)
    (read-append img p q r (replicate i width) (take i xs) (width ∷ []) (v ∷ []) f g)

-- ---- several fields in one word

pub wrote-word : (a b : List ℕ) (u v : Cursor) (ws vs : List ℕ) → Wrote a b u v (total ws ∷ []) (pack ws vs ∷ [])
    → Wrote a b u v ws vs
unfolding total
wrote-word a b u v ws vs p =
    record {
      held = p.held;
      pos = omega (arith, p.pos);
      bits = p.bits
          ∙ after-word (bits_written a u) ws vs;
      rest = p.rest;
      len = p.len;
    }

pub read_word : (img : List ℕ) (p q : Cursor) (ws : List ℕ) (v : ℕ) → Read img p q (total ws ∷ []) (v ∷ [])
    → Read img p q ws (unpack ws v)
unfolding total
read_word img p q ws v f = record {
  behind = f.behind;
  pos = omega (arith, f.pos);
  fit = fit-unpack ws v;
  bits = f.bits ∙ ap (λ (x : ℕ). after (bits_read img p) (total ws ∷ []) (x ∷ [])) (sym (pack-unpack ws v f.fit.0))
      ∙ after-word (bits_read img p) ws (unpack ws v);
}

-- ---- the fields of each element of an array

-- n more elements
pub wrote-more : {A : Type 0} (f : A → List ℕ) (ws : List ℕ) → ((x : A) → length ws ≡ length (f x))
    → (a b c : List ℕ) (u v w : Cursor) (xs : List A) (i n : ℕ) → i ≤ length xs
    → Wrote a b u v (times i ws) (each f (take i xs)) → Wrote b c v w (times n ws) (each f (take n (drop i xs)))
    → Wrote a c u w (times (i + n) ws) (each f (take (i + n) xs))
wrote-more f ws h a b c u v w xs i n l p q =
    rw (times-add i n ws, take-add i n xs, each_append f (take i xs) (take n (drop i xs)))
    (wrote-append a b c u v w (times i ws) (each f (take i xs)) (times n ws) (each f (take n (drop i xs)))
    (times-each f ws h i (take i xs) (length-take-le i xs l)) p q)

-- ---- a whole slice

written_all : (img : List ℕ) (w : Cursor) → Held w → w.at * 8 + w.n ≡ length img * 8 → bits_written img w ≡ word_of img
unfolding bits_written
written_all img w h e =
    let n0 : w.n ≡ 0 = omega (arith, h.few) in
    let a0 : w.at ≡ length img = omega (arith, h.few) in
    let z : w.acc ≡ 0 = lt-one (rw n0 at h.small) in
    rw (n0, a0, z, take-length img) (omega arith)

written_start : (img : List ℕ) → bits_written img start ≡ 0
unfolding bits_written pack
written_start img = refl

pub finish : (img img' : List ℕ) (w : Cursor) (ws vs : List ℕ) → Wrote img img' start w ws vs → total ws ≡ length img' * 8
    → ((i : ℕ) → get_or img' i 0 < 2 ^ 8) → img' ≡ unpack (eights (length img')) (pack ws vs)
unfolding after
finish img img' w ws vs p e h =
    let whole : word_of img' ≡ pack ws vs =
    sym (written_all img' w p.held (omega (arith, p.pos))) ∙ p.bits
    ∙ rw written_start (omega arith) in
    sym (bytes-of-word img' h) ∙ ap (unpack (eights (length img'))) whole

read-start : (img : List ℕ) → bits_read img start ≡ 0
unfolding bits_read pack
read-start img = refl

read_all : (img : List ℕ) (r : Cursor) → Behind img r → r.at * 8 ≡ r.n + length img * 8 → bits_read img r ≡ word_of img
unfolding bits_read
read_all img r h e =
    let n0 : r.n ≡ 0 = omega (arith, h.few) in
    let a0 : r.at ≡ length img = omega (arith, h.few) in
    rw (n0, a0, take-length img) (div-one (word_of img))

-- what was read of a whole image is its fields
pub finish-read : (img : List ℕ) (r : Cursor) (ws vs : List ℕ) → Read img start r ws vs → total ws ≡ length img * 8
    → unpack ws (word_of img) ≡ vs
unfolding after
finish-read img r ws vs p e =
    let whole : word_of img ≡ pack ws vs =
    sym (read_all img r p.behind (omega (arith, p.pos))) ∙ p.bits ∙ rw read-start (omega arith) in
    ap (unpack ws) whole ∙ unpack-pack ws vs p.fit

-- ---- whole bytes

pub bytes-wrote : (img img' : List ℕ) (w w' : Cursor) (xs : List ℕ) → w.n ≡ 0 → w.acc ≡ 0 → w.at + length xs ≤ length img
    → img' ≡ paste img w.at xs (length xs) → w'.n ≡ 0 → w'.acc ≡ 0 → w'.at ≡ w.at + length xs
    → Wrote img img' w w' (eights (length xs)) xs
unfolding bits_written after
bytes-wrote img img' w w' xs n a l e n' a' t = record {
  held = record { few = omega arith; small = rw (n', a') (omega arith) };
  pos = omega (arith, total-eights (length xs));
  bits =
      rw (n', a', n, a, t)
      (ap (λ (x : ℕ). x * 2 ^ 0 + 0)
      (ap word_of (ap (take (w.at + length xs)) e ∙ take-paste img w.at xs (length xs) (omega arith) (le_refl (length xs))
      ∙ ap (λ (r : List ℕ). take w.at img ++ r) (take-length xs))
      ∙ word-append (take w.at img) xs)
      ∙ rw total-eights (omega arith));
  rest = rw (t, e) (drop-paste img w.at xs (length xs) (omega arith) (le_refl (length xs)));
  len = ap length e ∙ length-paste img w.at xs (length xs) l (le_refl (length xs));
}

pub bytes_read : (img : List ℕ) (r r' : Cursor) (xs : List ℕ) (k : ℕ) → r.n ≡ 0 → r.acc ≡ 0 → r.at + k ≤ length img
    → ((i : ℕ) → get_or img i 0 < 2 ^ 8)
    → xs ≡ take k (drop r.at img) → r'.n ≡ 0 → r'.acc ≡ 0 → r'.at ≡ r.at + k → Read img r r' (eights k) xs
unfolding bits_read after
bytes_read img r r' xs k n a l b e n' a' t =
    let lx : length xs ≡ k = ap length e ∙ length-take-le k (drop r.at img) (rw length-drop (omega arith)) in
    let small : (i : ℕ) → get_or xs i 0 < 2 ^ 8 =
    λ i. subst (λ (ys : List ℕ). get_or ys i 0 < 2 ^ 8) (sym e)
    (holds-take (λ x. x < 2 ^ 8) k (drop r.at img) 0 (omega arith)
    (λ j. rw (get_or-drop r.at img j 0) (b (r.at + j))) i) in
    record {
      behind = record { few = omega arith; inside = omega arith; last = rw (n', a') (sym (mod-one (word_of (take r'.at img)))) };
      pos = omega (arith, total-eights k);
      fit = subst (λ (m : ℕ). Fit (eights m) xs) lx (fit-bytes xs small);
      bits =
          rw (n', n, t)
          (div-one (word_of (take (r.at + k) img))
          ∙ ap word_of (take-add r.at k img ∙ ap (λ (y : List ℕ). take r.at img ++ y) (sym e))
          ∙ word-append (take r.at img) xs
          ∙ ap₂ (λ (m y : ℕ). y * 2 ^ (m * 8) + word_of xs) lx (sym (div-one (word_of (take r.at img))))
          ∙ ap₂ (λ (m y : ℕ). word_of (take r.at img) / 1 * 2 ^ m + y) (sym (total-eights k))
          (ap (λ (m : ℕ). pack (eights m) xs) lx));
    }
