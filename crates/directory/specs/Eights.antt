-- What the code's quick tests of eight places at a time say. No public contract has them.
use Rattle.std.specs.Prelude.{◌≡◌, ℕ, ◌/◌, ◌^◌, ◌<◌, ◌≤◌, true, List, ◌++◌, length}
use Rattle.directory.specs.Block.{start_of}
use Rattle.directory.specs.Fit.{any, sound}
use Rattle.directory.specs.Drop.{gone}
use Rattle.directory.specs.Ordered.{ordered}

-- the touched pages from a block's first page on, at bit 0
abbrev pub seen_from : ℕ → ℕ → ℕ
seen_from touched w = touched / 2 ^ (start_of w / 1024)

-- the rest decides whether a block goes
pub record Decides (touched : ℕ) (d after : List ℕ) : Type 0 where
  pub shorter : length after < length d
  pub goes : sound d ≡ true → any (gone touched) after ≡ any (gone touched) d
  pub stays : sound d ≡ true → sound after ≡ true

-- places in order above s, the last with start b: what comes behind them decides
pub record Climbs (s : ℕ) (d : List ℕ) (b : ℕ) : Type 0 where
  pub high : s ≤ b
  pub rest : (after : List ℕ) → ordered s (d ++ after) ≡ ordered b after

pub record Climbed (s : ℕ) (d : List ℕ) (b : ℕ) (after : List ℕ) : Type 0 where
  pub high : s ≤ b
  pub shorter : length after < length d
  pub rest : ordered b after ≡ ordered s d
