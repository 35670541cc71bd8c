-- H11: a channel output in range is written as the field of its whole number, in 12 bits.
use Prim.Native.Nat.{ℕ, suc, ◌-◌, ◌≤◌, ◌<◌}
use mathlib.Core.Path.{◌≡◌, refl}
use mathlib.Core.Bool.{Bool, cond, not}
use native.Mathlib.Omega.{arith}
use lib.IntN.{ℤ, pos, negsuc, nat_abs}
use lib.Dec.{T}
use lib.Ieee.{Float, is_nan}
use Rattle.limits.specs.Limits.{level_most, out_most}
use Rattle.sound.specs.Levels.{is_neg, whole_part}
use Rattle.sound.specs.Range.{Level, size_bits}
use Rattle.sound.proofs.range.Laws.{level-size, level-parts}
use Rattle.image_write.specs.Image.{level_num}

-- a whole number as 12 bits
abbrev pub field_of : ℤ → ℕ
field_of (pos n) = n
field_of (negsuc n) = 4096 - suc n

pub field-small : (z : ℤ) → nat_abs z ≤ level_most → field_of z < 4096
field-small (pos n) h = omega arith
field-small (negsuc n) h = omega arith

field-by-sign : (z : ℤ) → cond (not (is_neg z)) (nat_abs z) (4096 - nat_abs z) ≡ field_of z
field-by-sign (pos n) = refl
field-by-sign (negsuc n) = refl

pub level-num : (signed : Bool) (x : Float) (l : Level signed x) → level_num x ≡ field_of l.number
unfolding level_num
level-num signed x l =
    let p = level-parts signed x l in
    rw (p.sign, p.part) (field-by-sign l.number)

-- what its writing asks of an output: a number, whose size has a whole part, and 12 bits
pub record LevelFits (x : Float) : Type 0 where
  pub number : T (not (is_nan x))
  pub size : size_bits x ≤ out_most
  pub part : whole_part (size_bits x) ≤ level_most
  pub field : level_num x < 4096

pub level-fits : (signed : Bool) (x : Float) → Level signed x → LevelFits x
level-fits signed x l =
    let p = level-parts signed x l in
    let n = level-size signed l.number l.within in
    record {
      number = p.number;
      size = p.size;
      part = rw p.part n;
      field = rw (level-num signed x l) (field-small l.number n);
    }
