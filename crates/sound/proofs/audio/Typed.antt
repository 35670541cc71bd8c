-- What owning an `Audio` tells of its fields: the arrays have their lengths, bytes are below 256, and the outputs and `out` are f32 values.
use Prim.Native.Nat.{ℕ, zero, suc}
use mathlib.Core.List.{List, [], ◌∷◌}
use lib.Dec.{T}
use lib.ListN.{get_or}
use lib.Ieee.{Float, nan, binary32, fits}
use mir.Syntax.{w8}
use mir.Val.{Val}
use denote.Shadow.{shadow}
use denote.Array.{each}
use denote.Laws.{Is}
use denote.Struct.Field.{f32-field}
use borrow.Author.Rules.{elem_Fits}
use Rattle.sound.specs.declared.audio.Audio.{Audio}
use Rattle.sound.specs.Range.{Typed}
use Rattle.sound.specs.contracts.audio.Audio as Row

pub floats-fit : (xs : List Float) (us : List Val) → shadow (each f32-field.row.Denot f32-field.row.own_val xs us)
    → (i : ℕ) → T (fits binary32 (get_or xs i nan))
unfolding fits
floats-fit [] us s i = tt
floats-fit (x ∷ xs) [] s i = absurd s
floats-fit (x ∷ xs) (u ∷ us) s zero = rw s.0.1 tt
floats-fit (x ∷ xs) (u ∷ us) s (suc i) = floats-fit xs us s.1 i

pub typed : (a : Audio) (vs : List Val) → Is Row.the_row a vs → Typed a
typed a vs is =
    let ram = is.1.1.0 in
    let outs = is.1.1.1.1.1.1.1.1.0 in
    let rest = is.1.1.1.1.1.1.1.1.1 in
    record {
      ram_length = ram.1.0.1;
      bytes = λ i. (elem_Fits w8 w8 a.ram ram.0 i ram.1.1 tt).fits;
      outputs_length = outs.1.0.1;
      outputs_fit = floats-fit a.channel_out outs.0 outs.1.1;
      phases_length = rest.1.0.1.0.1;
      out_fits = rw rest.0.1 tt;
    }
