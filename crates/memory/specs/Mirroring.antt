-- The kinds of nametable mirroring by number.
use Rattle.std.specs.Prelude.{ℕ}
use Rattle.memory.specs.declared.mirroring.Mirroring.{Mirroring}
use Rattle.memory.specs.declared.mirroring.Mirroring.TheVariants.{Vertical, Horizontal, SingleScreenA, SingleScreenB, FourScreen}

-- H1, F16: the Rust's numbers, 0 to 4
abbrev pub mirroring_num : Mirroring → ℕ
mirroring_num Vertical = 0
mirroring_num Horizontal = 1
mirroring_num SingleScreenA = 2
mirroring_num SingleScreenB = 3
mirroring_num FourScreen = 4
