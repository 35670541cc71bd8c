-- The fewest digits of a number, as `io::decimal` gives them, are its decimal digits. Assumes nothing.
use Prim.Native.Nat.{ℕ, zero, suc, ◌*◌, ◌/◌, ◌%◌, ◌^◌, ◌≤◌, ◌<◌}
use mathlib.Core.Path.{◌≡◌}
use native.Mathlib.Omega.{arith}
use native.Mathlib.Nat.{mod-lt, mod-eq_of_lt, pow-suc, one-le-pow}
use native.Mathlib.Numerals.{unary_clauses}
use borrow.Author.Tests.{le-ltb, lt-ltb}
use Rattle.io.specs.Digits.{last_digits, IsDigitCount}
use Rattle.replay_text.specs.Decimal.{decimal_in}

-- below ten a number is its own digit
one-digit : (k n : ℕ) → n < 10 → last_digits 10 1 n ≡ decimal_in k n
unfolding decimal_in
one-digit zero n h = simp (mod-eq_of_lt h, lt-ltb n 10 h)
one-digit (suc k) n h = simp (mod-eq_of_lt h, lt-ltb n 10 h)

-- the fewest digits, with the power of ten that their first place counts
fewest : (n r : ℕ) → IsDigitCount 10 1 n (suc (suc r)) → 10 ^ r * 10 ≤ n
fewest n r f = simp unary_clauses at (f.2 (omega arith))

at-least-ten : (n r : ℕ) → IsDigitCount 10 1 n (suc (suc r)) → 10 ≤ n
at-least-ten n r f = omega (arith, fewest n r f, one-le-pow r 10 (omega arith))

pub decimal-digits : (k n r : ℕ) → IsDigitCount 10 1 n r → n < 10 ^ (suc k) → last_digits 10 r n ≡ decimal_in k n
unfolding decimal_in
decimal-digits k n zero f h = absurd (omega arith)
decimal-digits k n (suc zero) f h = one-digit k n f.1
decimal-digits zero n (suc (suc r)) f h = absurd (omega (arith, at-least-ten n r f))
decimal-digits (suc k) n (suc (suc r)) f h =
    let rest : IsDigitCount 10 1 (n / 10) (suc r) = (
      omega arith,
      omega (arith, rw (pow-suc 10 (suc r)) at f.1),
      λ q. simp unary_clauses (omega (arith, fewest n r f)),
    ) in
    rw (
      le-ltb n 10 (at-least-ten n r f),
      lt-ltb (n % 10) 10 (mod-lt n (omega arith)),
      ← decimal-digits k (n / 10) (suc r) rest (omega (arith, rw (pow-suc 10 (suc k)) at h)),
    )
