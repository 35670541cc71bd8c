-- A bank counts by its remainder, below 0 too.
use native.Mathlib.Omega.{arith}
use mathlib.Core.Path.{◌≡◌}
use Prim.Native.Nat.{◌*◌, ◌^◌, ◌<◌}
use lib.IntN.{nat_abs}
use mir.Syntax.{w32}
use mir.Val.{SFits, to_z, of_z}
use mir.Facts.{to_z-of_z, to_z_pos}
use Rattle.memory_map.specs.Windows.{window_base}
use Rattle.memory_map.proofs.Laws.Windows.{banks-small, rem-modulo, base-le}
use Rattle.memory_map.proofs.windows.window_base.Goals as goal

small : (c : goal.After-banks) → c.banks.result < 2 ^ 31
small c = rw c.banks.ensures.0 (banks-small c.args.len c.args.size c.requires.1)

pub overflow_cast-banks : goal.overflow_cast-banks
overflow_cast-banks c = record { sfits = small c }

pub rem_euclid-requires-clause-no_overflow : goal.rem_euclid-requires-clause-no_overflow
rem_euclid-requires-clause-no_overflow c = λ e z. absurd (omega (arith, rw (to_z_pos w32 (small c)) at e, small c))

base : (c : goal.After-rem_euclid) → nat_abs (to_z w32 (of_z w32 c.rem_euclid.result)) * c.args.size ≡ window_base c.args.len c.args.size c.args.bank
unfolding window_base
base c =
    let n : c.banks.result < 2 ^ 31 = rw c.banks.ensures.0 (banks-small c.args.len c.args.size c.requires.1) in
    let f : SFits w32 c.rem_euclid.result = record { sfits = c.rem_euclid.type_inv } in
    rw (to_z-of_z f, c.rem_euclid.ensures.value, to_z-of_z c.ranges.bank, to_z_pos w32 n, rem-modulo, c.banks.ensures.0)

pub overflow_mul-result : goal.overflow_mul-result
overflow_mul-result c = record { fits = rw (base c) (omega (arith, base-le c.args.len c.args.size c.args.bank)) }

pub returns : goal.returns
returns c = (base c, rw (base c) (base-le c.args.len c.args.size c.args.bank))
