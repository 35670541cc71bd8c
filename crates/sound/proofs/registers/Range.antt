-- The registers' reads and writes keep a state typed and in range.
use Prim.Native.Nat.{ℕ, ◌+◌, ◌/◌, ◌%◌, ◌≤◌, ◌<◌}
use mathlib.Core.Path.{◌≡◌, refl, ◌∙◌}
use mathlib.Core.Bool.{Bool, true, false, cond}
use mathlib.Core.List.{List}
use native.Mathlib.Omega.{arith}
use lib.Dec.{eqb}
use lib.ListN.{get_or, set, length, length-set}
use Rattle.limits.specs.Limits.{address_most}
use Rattle.sound.specs.declared.audio.Audio.{Audio}
use Rattle.sound.specs.Audio.{with_ram, with_addr, with_disabled}
use Rattle.sound.specs.Registers.{within, advanced, written}
use Rattle.sound.specs.Range.{InRange, Typed}
use Rattle.limits.proofs.Each.{below_set}
use Rattle.sound.proofs.audio.Range.{other-typed, other-range}

pub ram-typed : (a : Audio) (ram : List ℕ) → length ram ≡ 128 → ((i : ℕ) → get_or ram i 0 < 256) → Typed a → Typed (with_ram a ram)
ram-typed a ram l b t =
    record {
      ram_length = l;
      bytes = b;
      outputs_length = t.outputs_length;
      outputs_fit = t.outputs_fit;
      phases_length = t.phases_length;
      out_fits = t.out_fits;
    }

pub ram-range : (a : Audio) (ram : List ℕ) → InRange a → InRange (with_ram a ram)
ram-range a ram r = other-range a _ r.counter r.channel r.address refl refl refl refl refl r

addr-range : (a : Audio) (x : ℕ) (auto : Bool) → x ≤ address_most → InRange a → InRange (with_addr a x auto)
addr-range a x auto h r = other-range a _ r.counter r.channel h refl refl refl refl refl r

pub advanced-typed : (a : Audio) → Typed a → Typed (advanced a)
unfolding advanced
advanced-typed a t = go a.auto_increment
  where
    go : (b : Bool) → Typed (cond b (with_addr a ((a.addr + 1) % 128) a.auto_increment) a)
    go true = other-typed a _ refl refl refl refl t
    go false = t

pub advanced-range : (a : Audio) → InRange a → InRange (advanced a)
unfolding advanced
advanced-range a r = go a.auto_increment
  where
    go : (b : Bool) → InRange (cond b (with_addr a ((a.addr + 1) % 128) a.auto_increment) a)
    go true = addr-range a _ _ (omega arith) r
    go false = r

pub written-typed : (a : Audio) (addr val : ℕ) → val < 256 → Typed a → Typed (written a addr val)
unfolding written
written-typed a addr val h t = go (within 0x4800 0x4FFF addr) (within 0xE000 0xE7FF addr) (within 0xF800 0xFFFF addr)
  where
    go : (x y z : Bool) → Typed
        (cond x (advanced (with_ram a (set a.ram a.addr val)))
        (cond y (with_disabled a (eqb (val / 64 % 2) 1)) (cond z (with_addr a (val % 128) (eqb (val / 128) 1)) a)))
    go true y z =
        advanced-typed _ (ram-typed a _ (length-set a.ram a.addr val ∙ t.ram_length)
        (below_set a.ram a.addr val 256 t.bytes h) t)
    go false true z = other-typed a _ refl refl refl refl t
    go false false true = other-typed a _ refl refl refl refl t
    go false false false = t

pub written-range : (a : Audio) (addr val : ℕ) → InRange a → InRange (written a addr val)
unfolding written
written-range a addr val r = go (within 0x4800 0x4FFF addr) (within 0xE000 0xE7FF addr) (within 0xF800 0xFFFF addr)
  where
    go : (x y z : Bool) → InRange
        (cond x (advanced (with_ram a (set a.ram a.addr val)))
        (cond y (with_disabled a (eqb (val / 64 % 2) 1)) (cond z (with_addr a (val % 128) (eqb (val / 128) 1)) a)))
    go true y z = advanced-range _ (ram-range a _ r)
    go false true z = other-range a _ r.counter r.channel r.address refl refl refl refl refl r
    go false false true = addr-range a _ _ (omega arith) r
    go false false false = r
