-- What a loop over a table has made of it so far, how a signed number counts banks, and that a bank begins inside its region.
-- Assumes nothing.
use Prim.Native.Nat.{ℕ, zero, suc, ◌+◌, ◌*◌, ◌/◌, ◌%◌, ◌^◌, ◌≤◌, ◌<◌}
use mathlib.Core.Path.{◌≡◌, refl}
use mathlib.Core.List.{List}
use native.Mathlib.Omega.{arith}
use native.Mathlib.Numerals.{add-one}
use native.Mathlib.Nat.{suc-mul, div-add-mod', mod-lt, le_trans, mul-le-mul_right, div-mul-le_self}
use lib.IntN.{ℤ, pos, negsuc}
use lib.ListN.{length, length-set, get_or, set}
use Rattle.std.specs.Prelude.{max}
use Rattle.std.specs.Int.{int_rem_euclid}
use Rattle.std.proofs.Math.Nat.{div-le_self}
use Rattle.limits.specs.Limits.{arena_most}
use Rattle.memory.specs.declared.page.Page.{Page}
use Rattle.memory.specs.Page.{unmapped}
use Rattle.memory_map.specs.Windows.{banks_of, modulo, window_base, each_page}

-- ---- tables

pub length-each : (k : ℕ) (f : ℕ → Page → Page) (slot n : ℕ) (t : List Page) → length (each_page k f slot n t) ≡ length t
unfolding each_page
length-each k f slot zero t = refl
length-each k f slot (suc n) t = simp (length-set, length-each k f slot n t)

-- what a loop over `count` entries of a table of k has made before turn i: the entries of the turns so far
pub record Turned (k : ℕ) (f : ℕ → Page → Page) (slot count : ℕ) (start : List Page) (i : ℕ) (pages : List Page) : Type 0 where
  pub within : i ≤ count
  pub long : length pages ≡ k
  pub made : pages ≡ each_page k f slot i start

pub turned_none : {k : ℕ} {f : ℕ → Page → Page} {slot count : ℕ} {start : List Page} → length start ≡ k
    → Turned k f slot count start 0 start
unfolding each_page
turned_none e = record { within = omega arith; long = e; made = refl }

pub turned-next : {k : ℕ} {f : ℕ → Page → Page} {slot count : ℕ} {start : List Page} {i : ℕ} {pages : List Page}
    → Turned k f slot count start i pages → i < count
    → Turned k f slot count start (i + 1) (set pages ((slot + i) % k) (f i (get_or pages ((slot + i) % k) unmapped)))
unfolding each_page
turned-next t more =
    record { within = omega arith; long = simp (length-set, t.long); made = rw (add-one, t.made) }

-- ---- banks

pub banks-pos : (len s : ℕ) → 0 < banks_of len s
unfolding banks_of
banks-pos len s = omega arith

pub modulo-lt : (b : ℤ) (n : ℕ) → 0 < n → modulo b n < n
modulo-lt (pos k) n h = mod-lt k h
modulo-lt (negsuc k) n h = omega arith

-- it is the remainder below 0 too: with −1 − k taken away, a whole number of n is left
pub modulo-whole : (k n : ℕ) → 0 < n → suc k + modulo (negsuc k) n ≡ suc (k / n) * n
modulo-whole k n h = rw suc-mul (omega (arith, mod-lt k h, div-add-mod' k n))

-- the machine's remainder is that of the definition
pub rem-modulo : (b : ℤ) (n : ℕ) → int_rem_euclid b (pos n) ≡ pos (modulo b n)
rem-modulo (pos k) n = refl
rem-modulo (negsuc k) n = refl

-- a region has few banks
pub banks-small : (len s : ℕ) → len ≤ arena_most → banks_of len s < 2 ^ 31
unfolding banks_of
banks-small len s h = omega (arith, div-le_self len s)

-- a bank begins in its region: b is at most banks − 1, and banks − 1 at most len / s
pub base-le : (len s : ℕ) (b : ℤ) → window_base len s b ≤ len
unfolding window_base banks_of
base-le len s b =
    let k : modulo b (banks_of len s) ≤ len / s = omega (arith, modulo-lt b (banks_of len s) (banks-pos len s)) in
    le_trans (mul-le-mul_right s k) (div-mul-le_self len s)

-- and so does its window, unless the region is shorter than one
banks-fit : (len s : ℕ) → banks_of len s * s ≤ max len s
unfolding banks_of
banks-fit len s = go (len / s) refl
  where
    go : (q : ℕ) → len / s ≡ q → max 1 q * s ≤ max len s
    go zero e = let o : max 1 0 ≡ 1 = omega arith in rw o (omega arith)
    go (suc q) e =
        let o : max 1 (suc q) ≡ suc q = omega arith in
        let f : suc q * s ≤ len = rw e at (div-mul-le_self len s) in
        rw o (omega (arith, f))

pub base-window : (len s : ℕ) (b : ℤ) → window_base len s b + s ≤ max len s
unfolding window_base
base-window len s b =
    let k : suc (modulo b (banks_of len s)) ≤ banks_of len s = modulo-lt b (banks_of len s) (banks-pos len s) in
    let f : modulo b (banks_of len s) * s + s ≤ banks_of len s * s = rw suc-mul at (mul-le-mul_right s k) in
    omega (arith, f, banks-fit len s)
