-- What a lookup answers of a fit directory is what the search without tests finds. Assumes nothing.
use Rattle.std.proofs.Common.{◌≡◌, ℕ, ◌<◌, ◌≤◌, true, List, arith, le-ltb}
use native.Mathlib.Decide.{ℕ_discrete}
use Rattle.directory.specs.Fit.{fit}
use Rattle.directory.specs.Calls.{word_at, found_of, lookup}
use Rattle.directory.proofs.Laws.Dropped.{word-start, word_fits}
use Rattle.directory.proofs.Laws.Pages.{fits-says}
use Rattle.directory.proofs.Laws.Sound.{fit-sound}

pub lookup-finds : (d : List ℕ) (start : ℕ) → fit d ≡ true → 0x4800 ≤ start → lookup d start ≡ found_of (word_at start d)
unfolding lookup
lookup-finds d start f s = rw (f, le-ltb start 0x4800 s)

-- and below 6000 it finds nothing, also below 4800, where a lookup is refused
pub low-none : (d : List ℕ) (start : ℕ) → fit d ≡ true → start < 0x6000 → word_at start d ≡ 0
low-none d start f l = by (ℕ_discrete (word_at start d) 0)
  where
    by : Dec (word_at start d ≡ 0) → word_at start d ≡ 0
    by (yes z) = z
    by (no n) = absurd (omega (arith, (fits-says _ _ (word_fits start d (fit-sound d f) n)).from, word-start start d n))
