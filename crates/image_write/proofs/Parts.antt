-- Laws of parts: words of several fields, and parts one behind the other.
use mathlib.Core.Path.{◌≡◌, refl, sym, ap, ◌∙◌}
use mathlib.Core.Bool.{Bool, true, false}
use Rattle.std.specs.Int.{from_bool}
use mathlib.Core.List.{List, [], ◌∷◌, ◌++◌, map, append_assoc, map-append}
use Prim.Native.Nat.{ℕ, zero, suc, ◌+◌, ◌*◌, ◌^◌, ◌≤◌, ◌<◌}
use native.Mathlib.Numerals.{add-one}
use native.Mathlib.Omega.{arith}
use lib.Pow.{pow-add, pow_mono}
use lib.ListN.{length, take, drop, get_or, replicate, length-append, length-replicate, length-map, length-drop}
use Rattle.std.proofs.lemmas.List.{take-append-drop}
use lib.Arith.{lt-one}
use lib.Seq.{take-suc, take_all, length-take-le}
use Rattle.bits.specs.Fields.{total, pack, Fit, bit}
use Rattle.bits.specs.Words.{word_of, eights}
use Rattle.bits.specs.Cursor.{Held, Wrote}
use Rattle.bits.specs.declared.cursor.Cursor.{Cursor}
use Rattle.bits.proofs.Fields.{pack-append, replicate-snoc}
use Rattle.bits.proofs.cursor.Laws.{wrote-append, wrote_none, wrote-word}
use Rattle.memory.specs.declared.mirroring.Mirroring.{Mirroring}
use Rattle.memory.specs.declared.mirroring.Mirroring.TheVariants.{Vertical, Horizontal, SingleScreenA, SingleScreenB, FourScreen}
use Rattle.memory.specs.Mirroring.{mirroring_num}
use Rattle.image_write.specs.Image.{joined, byte_at}

-- ---- words of several fields

-- a yes/no as a number is its bit
pub bit-is : (b : Bool) → from_bool b ≡ bit b
bit-is true = refl
bit-is false = refl

pub bit-small : (b : Bool) → from_bool b < 2
bit-small true = omega arith
bit-small false = omega arith

pub mirroring-small : (m : Mirroring) → mirroring_num m < 5
mirroring-small Vertical = omega arith
mirroring-small Horizontal = omega arith
mirroring-small SingleScreenA = omega arith
mirroring-small SingleScreenB = omega arith
mirroring-small FourScreen = omega arith

-- ---- words of fields of one width

pub pack-snoc : (n w : ℕ) (vs : List ℕ) (v : ℕ) → length vs ≡ n
    → pack (replicate (n + 1) w) (vs ++ v ∷ []) ≡ pack (replicate n w) vs * 2 ^ w + v
unfolding pack total
pack-snoc n w vs v e =
    ap (λ (ws : List ℕ). pack ws (vs ++ v ∷ [])) (sym (replicate-snoc n w))
    ∙ pack-append (replicate n w) (w ∷ []) vs (v ∷ []) (length-replicate n w ∙ sym e)
    ∙ rw (let z : w + 0 ≡ w = omega arith in z) (omega arith)

pub flags-more : (xs : List Bool) (i : ℕ) → i < length xs
    → pack (replicate (i + 1) 1) (map bit (take (i + 1) xs)) ≡ pack (replicate i 1) (map bit (take i xs)) * 2 + bit (get_or xs i false)
flags-more xs i h =
    ap (λ (l : List Bool). pack (replicate (i + 1) 1) (map bit l)) (ap (λ (k : ℕ). take k xs) (add-one i) ∙ take-suc xs i false h)
    ∙ ap (pack (replicate (i + 1) 1)) (map-append bit (take i xs) (get_or xs i false ∷ []))
    ∙ pack-snoc i 1 (map bit (take i xs)) (bit (get_or xs i false)) (length-map (take i xs) bit ∙ length-take-le i xs (omega arith))

pub doubled : (a b i : ℕ) → a < 2 ^ i → b < 2 → a * 2 + b < 2 ^ (i + 1)
doubled a b i h l = rw (pow-add 2 i 1) (omega arith)

pub below-12 : (a i : ℕ) → a < 2 ^ i → i ≤ 12 → a < 4096
below-12 a i h l = omega (arith, pow_mono {i = i} {j = 12} l)

-- ---- places at the start of a byte

at_byte : (w : Cursor) (k : ℕ) → Held w → w.at * 8 + w.n ≡ k * 8 → w ≡ byte_at k
at_byte w k h e =
    let n0 : w.n ≡ 0 = omega (arith, h.few) in
    let a0 : w.at ≡ k = omega (arith, h.few) in
    let z : w.acc ≡ 0 = lt-one (rw n0 at h.small) in
    λ i. record { acc = z i; n = n0 i; at = a0 i }

pub byte-held : (k : ℕ) → Held (byte_at k)
byte-held k = record { few = omega arith; small = omega arith }

-- a write that ends with a byte
pub wrote-to : (a b : List ℕ) (j k : ℕ) (w : Cursor) (ws vs : List ℕ) → j * 8 + total ws ≡ k * 8 → Wrote a b (byte_at j) w ws vs
    → Wrote a b (byte_at j) (byte_at k) ws vs
wrote-to a b j k w ws vs e p = rw (← at_byte w k p.held (omega (arith, p.pos))) p

-- a word that holds several fields, written
pub wrote-fields : {a b : List ℕ} {u v : Cursor} (ws vs : List ℕ) {x : ℕ} → x ≡ pack ws vs → Wrote a b u v (total ws ∷ []) (x ∷ [])
    → Wrote a b u v ws vs
wrote-fields {a} {b} {u} {v} ws vs e p = wrote-word a b u v ws vs (rw e at p)

-- ---- twelve bytes in two words of six

six : (xs : List ℕ) (k m : ℕ) → length (take 6 (drop k xs)) ≡ 6 → m ≡ 0 * 2 ^ 48 + word_of (take 6 (drop k xs))
    → m ≡ pack (replicate 6 8) (take 6 (drop k xs))
six xs k m l e =
    let f : m ≡ word_of (take 6 (drop k xs)) = omega arith in
    f ∙ ap (λ (n : ℕ). pack (eights n) (take 6 (drop k xs))) l

pub wrote-twelve : (a b c : List ℕ) (u v w : Cursor) (xs : List ℕ) (m n : ℕ) → length xs ≡ 12
    → m ≡ 0 * 2 ^ 48 + word_of (take 6 (drop 0 xs)) → n ≡ 0 * 2 ^ 48 + word_of (take 6 (drop 6 xs))
    → Wrote a b u v (48 ∷ []) (m ∷ []) → Wrote b c v w (48 ∷ []) (n ∷ []) → Wrote a c u w (replicate 12 8) xs
unfolding total
wrote-twelve a b c u v w xs m n l d e p q =
    let l0 : length (take 6 (drop 0 xs)) ≡ 6 = length-take-le 6 (drop 0 xs) (omega arith) in
    let l6 : length (take 6 (drop 6 xs)) ≡ 6 = length-take-le 6 (drop 6 xs) (rw length-drop (omega arith)) in
    let t : take 6 (drop 6 xs) ≡ drop 6 xs = take_all 6 (drop 6 xs) (rw length-drop (omega arith)) in
    let whole : take 6 (drop 0 xs) ++ take 6 (drop 6 xs) ≡ xs = rw t (take-append-drop 6 xs) in
    rw whole at (wrote-append a b c u v w (replicate 6 8) (take 6 (drop 0 xs)) (replicate 6 8) (take 6 (drop 6 xs)) (sym l0)
    (wrote-fields (replicate 6 8) (take 6 (drop 0 xs)) (six xs 0 m l0 d) p)
    (wrote-fields (replicate 6 8) (take 6 (drop 6 xs)) (six xs 6 n l6 e) q))

-- ---- values that fit

pub fit-replicate : (n w : ℕ) (xs : List ℕ) → length xs ≡ n → ((i : ℕ) → i < n → get_or xs i 0 < 2 ^ w) → Fit (replicate n w) xs
fit-replicate zero w [] e h = tt
fit-replicate zero w (x ∷ xs) e h = absurd (let z : ⊥ = omega arith in z)
fit-replicate (suc n) w [] e h = absurd (let z : ⊥ = omega arith in z)
fit-replicate (suc n) w (x ∷ xs) e h =
    (h 0 (omega arith), fit-replicate n w xs (omega arith) (λ i l. h (suc i) (omega arith)))

-- ---- parts one behind the other

pub wrote-part : (a b c : List ℕ) (u v w : Cursor) (ws vs : List ℕ) (wss vss : List (List ℕ)) → length ws ≡ length vs
    → Wrote a b u v ws vs → Wrote b c v w (joined wss) (joined vss) → Wrote a c u w (joined (ws ∷ wss)) (joined (vs ∷ vss))
unfolding joined
wrote-part a b c u v w ws vs wss vss e p q = wrote-append a b c u v w ws vs (joined wss) (joined vss) e p q

pub joined-append : (xs ys : List (List ℕ)) → joined (xs ++ ys) ≡ joined xs ++ joined ys
unfolding joined
joined-append [] ys = refl
joined-append (x ∷ xs) ys = ap (λ (l : List ℕ). x ++ l) (joined-append xs ys) ∙ sym (append_assoc x (joined xs) (joined ys))

-- a fact of the first part, then those of the parts behind it
infixr 4 ◌then◌
abbrev pub ◌then◌ : {A B : Type 0} → A → B → A × B
◌then◌ a b = (a, b)

-- as many parts, and R of each two
abbrev pub PartByPart : (List ℕ → List ℕ → Type 0) → List (List ℕ) → List (List ℕ) → Type 0
PartByPart R [] [] = Unit
PartByPart R [] (v ∷ vs) = ⊥
PartByPart R (w ∷ ws) [] = ⊥
PartByPart R (w ∷ ws) (v ∷ vs) = R w v × PartByPart R ws vs

-- as many values as widths, part by part
abbrev pub SameLengths : List (List ℕ) → List (List ℕ) → Type 0
SameLengths = PartByPart (λ w v. length w ≡ length v)

pub joined-lengths : (ws vs : List (List ℕ)) → SameLengths ws vs → length (joined ws) ≡ length (joined vs)
unfolding joined
joined-lengths [] [] h = refl
joined-lengths [] (v ∷ vs) h = absurd h
joined-lengths (w ∷ ws) [] h = absurd h
joined-lengths (w ∷ ws) (v ∷ vs) h =
    omega (arith, length-append w (joined ws), length-append v (joined vs), h.0, joined-lengths ws vs h.1)

pub wrote-parts : (a b c : List ℕ) (u v w : Cursor) (ws vs us xs : List (List ℕ)) → SameLengths ws vs
    → Wrote a b u v (joined ws) (joined vs) → Wrote b c v w (joined us) (joined xs)
    → Wrote a c u w (joined (ws ++ us)) (joined (vs ++ xs))
wrote-parts a b c u v w ws vs us xs h p q =
    rw (joined-append ws us, joined-append vs xs)
    (wrote-append a b c u v w (joined ws) (joined vs) (joined us) (joined xs) (joined-lengths ws vs h) p q)

pub wrote-end : (a : List ℕ) (w : Cursor) → Held w → Wrote a a w w (joined []) (joined [])
unfolding joined
wrote-end a w h = wrote_none a w h
