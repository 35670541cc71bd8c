-- Laws of bytes as one number.
use mathlib.Core.Path.{◌≡◌, refl, sym, ap, ◌∙◌}
use mathlib.Core.List.{List, [], ◌∷◌, ◌++◌}
use Prim.Native.Nat.{ℕ, zero, suc, ◌+◌, ◌-◌, ◌*◌, ◌^◌, ◌/◌, ◌%◌, ◌≤◌, ◌<◌}
use native.Mathlib.Nat.{one-mul, not-suc-le-zero, le_of_suc-le-suc, mul-le-mul, lt_of_lt_of_le}
use native.Mathlib.Numerals.{add-one}
use native.Mathlib.Omega.{arith}
use lib.Pow.{pow-add, pow_mono, shl_exact}
use lib.ListN.{replicate, length, take, drop, get_or, length-append, length-replicate, replicate-append-replicate, length-drop}
use lib.Seq.{take-suc, get_or-drop, length-take-le}
use Rattle.std.proofs.lemmas.List.{get_or-take}
use Rattle.std.specs.Int.{w64, to_be_bytes}
use Rattle.bits.specs.Fields.{total, pack, unpack, Fit}
use Rattle.bits.specs.Words.{word_of, eights}
use Rattle.bits.proofs.Fields.{pack-append, pack-unpack, unpack-pack, length-unpack, total-replicate}

pub total-eights : (n : ℕ) → total (eights n) ≡ n * 8
total-eights n = total-replicate n 8

pub word-append : (xs ys : List ℕ) → word_of (xs ++ ys) ≡ word_of xs * 2 ^ (length ys * 8) + word_of ys
word-append xs ys =
    ap (λ (ws : List ℕ). pack ws (xs ++ ys))
    (ap eights (length-append xs ys) ∙ sym (replicate-append-replicate (length xs) (length ys) 8))
    ∙ pack-append (eights (length xs)) (eights (length ys)) xs ys (length-replicate (length xs) 8)
    ∙ ap (λ (k : ℕ). word_of xs * 2 ^ k + word_of ys) (total-eights (length ys))

-- a byte more
pub word-snoc : (xs : List ℕ) (b : ℕ) → word_of (xs ++ b ∷ []) ≡ word_of xs * 2 ^ 8 + b
unfolding total pack
word-snoc xs b = word-append xs (b ∷ []) ∙ omega arith

-- 1 << k
pub one_shl : (k : ℕ) → k < 64 → (1 * 2 ^ k) % 2 ^ 64 ≡ 2 ^ k
one_shl k h = shl_exact 1 k 64 (omega arith) (omega arith) ∙ one-mul (2 ^ k)

pub length-bytes : (k n : ℕ) → length (unpack (eights k) n) ≡ k
length-bytes k n = length-unpack (eights k) n ∙ length-replicate k 8

-- field j of k of b bits
pub field_at : (b k j x : ℕ) → j < k → get_or (unpack (replicate k b) x) j 0 ≡ x / 2 ^ ((k - 1 - j) * b) % 2 ^ b
unfolding unpack
field_at b zero j x h = absurd (not-suc-le-zero h)
field_at b (suc k) zero x h = rw (total-replicate k b, let e : suc k - 1 - 0 ≡ k = omega arith in e)
field_at b (suc k) (suc j) x h = rw (let e : suc k - 1 - suc j ≡ k - 1 - j = omega arith in e) (field_at b k j x (le_of_suc-le-suc h))

-- byte j of k
pub byte_at : (k j x : ℕ) → j < k → get_or (unpack (eights k) x) j 0 ≡ x / 2 ^ ((k - 1 - j) * 8) % 2 ^ 8
byte_at k j x h = field_at 8 k j x h

-- ---- reading byte after byte

pub pow8 : (j : ℕ) → 2 ^ ((j + 1) * 8) ≡ 2 ^ (j * 8) * 2 ^ 8
pow8 j = ap (λ (e : ℕ). 2 ^ e) (let e : (j + 1) * 8 ≡ j * 8 + 8 = omega arith in e) ∙ pow-add 2 (j * 8) 8

-- k bytes from a place on
pub length-part : (img : List ℕ) (at k : ℕ) → at + k ≤ length img → length (take (at + k - at) (drop at img)) ≡ k
length-part img at k h = rw (let n : at + k - at ≡ k = omega arith in n) (length-take-le k (drop at img) (rw length-drop (omega arith)))

pub part_lt : (img : List ℕ) (at k j : ℕ) → ((i : ℕ) → get_or img i 0 < 2 ^ 8) → j < k
    → get_or (take (at + k - at) (drop at img)) j 0 < 256
part_lt img at k j h l =
    rw (let n : at + k - at ≡ k = omega arith in n, get_or-take k (drop at img) j 0 l, get_or-drop at img j 0) (h (at + j))

pub load-zero : (acc : ℕ) (xs : List ℕ) → acc ≡ acc * 2 ^ (0 * 8) + word_of (take 0 xs)
unfolding pack
load-zero acc xs = omega arith

pub load-suc : (acc a : ℕ) (xs : List ℕ) (j : ℕ) → j < length xs → a ≡ acc * 2 ^ (j * 8) + word_of (take j xs)
    → a * 256 + get_or xs j 0 ≡ acc * 2 ^ ((j + 1) * 8) + word_of (take (j + 1) xs)
load-suc acc a xs j h e = rw (pow8 j, add-one j, take-suc xs j 0 h, word-snoc (take j xs) (get_or xs j 0)) (omega arith)

pub load-small : (acc a b j : ℕ) → a < (acc + 1) * 2 ^ (j * 8) → b < 256 → a * 256 + b < (acc + 1) * 2 ^ ((j + 1) * 8)
load-small acc a b j h l = rw pow8 (omega arith)

-- what is read so far fits, with a byte more
pub load_fits : (acc j a : ℕ) → acc < 256 → j < 7 → a < (acc + 1) * 2 ^ (j * 8) → a < 2 ^ 56
load_fits acc j a h l s =
    lt_of_lt_of_le s (mul-le-mul {n₂ = 2 ^ 8} (omega arith) (pow_mono {i = j * 8} {j = 48} (omega arith)))

pub word-of-bytes : (k x : ℕ) → x < 2 ^ (k * 8) → word_of (unpack (eights k) x) ≡ x
word-of-bytes k x h =
    ap (λ (l : ℕ). pack (eights l) (unpack (eights k) x)) (length-bytes k x) ∙ pack-unpack (eights k) x (rw total-eights h)

pub fit-bytes : (xs : List ℕ) → ((i : ℕ) → get_or xs i 0 < 2 ^ 8) → Fit (eights (length xs)) xs
fit-bytes [] h = tt
fit-bytes (x ∷ xs) h = (h 0, fit-bytes xs (λ i. h (suc i)))

-- bytes are those of their number
pub bytes-of-word : (xs : List ℕ) → ((i : ℕ) → get_or xs i 0 < 2 ^ 8) → unpack (eights (length xs)) (word_of xs) ≡ xs
bytes-of-word xs h = unpack-pack (eights (length xs)) xs (fit-bytes xs h)

-- ---- the low bytes are the last of all

drop-bytes : (j k x : ℕ) → drop j (unpack (eights (j + k)) x) ≡ unpack (eights k) x
unfolding unpack
drop-bytes zero k x = let e : 0 + k ≡ k = omega arith in rw e refl
drop-bytes (suc j) k x = let e : suc j + k ≡ suc (j + k) = omega arith in rw e (drop-bytes j k x)

eight-bytes : (x : ℕ) → to_be_bytes w64 x ≡ unpack (eights 8) x
unfolding unpack total
eight-bytes x =
    let e : x ≡ x / 1 = omega arith in
    ap (λ (y : ℕ). x / 0x100000000000000 % 256 ∷ x / 0x1000000000000 % 256 ∷ x / 0x10000000000 % 256 ∷ x / 0x100000000 % 256
    ∷ x / 0x1000000 % 256 ∷ x / 0x10000 % 256 ∷ x / 0x100 % 256 ∷ y % 256 ∷ []) e

pub last-bytes : (k x : ℕ) → k ≤ 8 → drop (8 - k) (to_be_bytes w64 x) ≡ unpack (eights k) x
last-bytes k x h =
    let e : 8 - k + k ≡ 8 = omega arith in
    ap (drop (8 - k)) (eight-bytes x) ∙ (rw e at (drop-bytes (8 - k) k x))
