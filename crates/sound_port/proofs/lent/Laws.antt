-- S10: the port at an address in range, and at any other.
use Prim.Native.Nat.{ℕ, ◌+◌, ◌<◌}
use mathlib.Core.Path.{◌≡◌, refl, sym, ap}
use mathlib.Core.Bool.{true, false}
use native.Mathlib.Nat.{mod-eq_of_lt}
use native.Mathlib.Omega.{arith}
use lib.ListN.{get_or}
use Rattle.sound_port.specs.declared.lent.Port.{Port}
use Rattle.sound_port.specs.Lent.{byte_of, after_read}

pub byte-in-range : (p : Port) → p.addr < 128 → byte_of p ≡ get_or p.ram p.addr 0
byte-in-range p in-range = ap (λ (n : ℕ). get_or p.ram n 0) (mod-eq_of_lt in-range)

pub moves-on : (p : Port) → p.auto_increment ≡ true → p.addr < 127 → (after_read p).addr ≡ p.addr + 1
unfolding after_read
moves-on p on below = rw on (omega arith)

pub goes-to-0 : (p : Port) → p.auto_increment ≡ true → p.addr ≡ 127 → (after_read p).addr ≡ 0
unfolding after_read
goes-to-0 p on last = rw on (omega arith)

-- an address of 128 or more reads the byte at its remainder, and an address that moved is in range
pub byte_past : (p : Port) (k : ℕ) → p.addr ≡ 128 + k → k < 128 → byte_of p ≡ get_or p.ram k 0
byte_past p k e h = ap (λ (n : ℕ). get_or p.ram n 0) (omega arith)

pub moved-in-range : (p : Port) → p.auto_increment ≡ true → (after_read p).addr < 128
unfolding after_read
moved-in-range p on = rw on (omega arith)

-- with auto-increment clear nothing changes, whatever the address
address_stays : (p : Port) → p.auto_increment ≡ false → (after_read p).addr ≡ p.addr
unfolding after_read
address_stays p off = rw off refl

pub stays : (p : Port) → p.auto_increment ≡ false → p ≡ after_read p
unfolding after_read
stays p off =
    λ i. record { ram = p.ram; addr = sym (address_stays p off) i; auto_increment = p.auto_increment }
