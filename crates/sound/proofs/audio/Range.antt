-- A state is typed or in range where another is that differs in other fields only; and the fresh state is both.
use Prim.Native.Nat.{ℕ, ◌≤◌, ◌<◌}
use mathlib.Core.Path.{◌≡◌, refl}
use mathlib.Core.Bool.{Bool}
use mathlib.Core.Logic.{inl}
use native.Mathlib.Omega.{arith}
use lib.Dec.{T}
use lib.ListN.{get_or-replicate}
use lib.IntN.{pos}
use lib.Ieee.{Float, nan, binary32, of_bits, to_bits, is_nan, fits}
use lib.Ieee.Fits.{nan-fits}
use lib.Ieee.Bits.{of_bits-fits}
use Rattle.limits.specs.Limits.{update_most, channel_most, address_most, phase_limit}
use Rattle.sound.specs.declared.audio.Audio.{Audio}
use Rattle.sound.specs.Audio.{fresh, with_counter, with_choice}
use Rattle.sound.specs.Range.{InRange, Typed, Known}
use Rattle.limits.proofs.Each.{each-replicate}
use Rattle.sound.proofs.levels.Laws.{zero_bits}

-- an answer that is a state in range is in range
pub with-range : (r a : Audio) → r ≡ a → InRange a → (r ≡ a) × InRange r
with-range r a e h = (e, rw e h)

-- what the types say stays where these four fields do
pub other-typed : (a b : Audio) → b.ram ≡ a.ram → b.channel_out ≡ a.channel_out → b.out ≡ a.out → b.phase_ext
    ≡ a.phase_ext
    → Typed a → Typed b
other-typed a b m c o p t =
    record {
      ram_length = rw m t.ram_length;
      bytes = rw m t.bytes;
      outputs_length = rw c t.outputs_length;
      outputs_fit = rw c t.outputs_fit;
      phases_length = rw p t.phases_length;
      out_fits = rw o t.out_fits;
    }

-- and the range where three do and the choices, with a counter, a channel and an address in range; the sound RAM may hold anything
pub other-range : (a b : Audio) → b.update_counter ≤ update_most → b.current_channel ≤ channel_most → b.addr ≤ address_most
    → b.channel_out ≡ a.channel_out → b.out ≡ a.out → b.phase_ext ≡ a.phase_ext
    → b.signed_levels ≡ a.signed_levels → b.plain_sum ≡ a.plain_sum → InRange a → InRange b
other-range a b u k d c o p g q r =
    record {
      counter = u;
      channel = k;
      address = d;
      phases = rw p r.phases;
      outputs = rw (c, g) r.outputs;
      mixed = rw (o, g, q) r.mixed;
    }

-- another counter
pub counter-typed : (a : Audio) (u : ℕ) → Typed a → Typed (with_counter a u)
counter-typed a u t = other-typed a _ refl refl refl refl t

pub counter-known : (a : Audio) (u : ℕ) → u ≤ update_most → Known a → Known (with_counter a u)
counter-known a u h k =
    let r = k.range in
    record { typed = counter-typed a u k.typed; range = other-range a _ h r.channel r.address refl refl refl refl refl r }

-- ---- a fresh state

pub fresh-typed : (signed plain : Bool) → Typed (with_choice fresh signed plain)
fresh-typed signed plain =
    record {
      ram_length = refl;
      bytes = each-replicate (λ (x : ℕ). x < 256) 128 0 0 (omega arith) (omega arith);
      outputs_length = refl;
      outputs_fit = each-replicate (λ (x : Float). T (fits binary32 x)) 8 (of_bits binary32 0) nan (of_bits-fits binary32 0)
          (nan-fits binary32);
      phases_length = refl;
      out_fits = of_bits-fits binary32 0;
    }

pub fresh-range : (signed plain : Bool) → InRange (with_choice fresh signed plain)
unfolding of_bits to_bits is_nan
fresh-range signed plain =
    record {
      counter = omega arith;
      channel = omega arith;
      address = omega arith;
      phases = each-replicate (λ (x : ℕ). x < phase_limit) 8 0 0 (omega arith) (omega arith);
      outputs = λ i h. rw (get_or-replicate 8 i (of_bits binary32 0) nan h, zero_bits)
          (record { number = pos 0; within = omega arith; is = refl });
      mixed = record { number = tt; bits = inl (omega arith) };
    }
