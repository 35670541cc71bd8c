-- The tests of an address against a range.
use Prim.Native.Nat.{ℕ, ◌≤◌, ◌<◌}
use mathlib.Core.Path.{◌≡◌}
use mathlib.Core.Bool.{true, false}
use borrow.Author.Tests.{le-leb, lt-leb}
use Rattle.sound.specs.Registers.{within}

pub inside : (lo hi addr : ℕ) → lo ≤ addr → addr ≤ hi → within lo hi addr ≡ true
inside lo hi addr l h = simp (le-leb lo addr l, le-leb addr hi h)

pub past : (lo hi addr : ℕ) → lo ≤ addr → hi < addr → within lo hi addr ≡ false
past lo hi addr l h = simp (le-leb lo addr l, lt-leb addr hi h)
