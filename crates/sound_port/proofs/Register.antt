-- A read of the lent port is the sound chip's `read_register` on the same bytes, and so are n reads.
use Prim.Native.Nat.{ℕ, zero, suc, ◌+◌, ◌%◌, ◌≤◌, ◌<◌}
use mathlib.Core.Path.{◌≡◌, refl, sym, ap, ◌∙◌}
use mathlib.Core.Bool.{Bool, true, false, cond}
use mathlib.Core.List.{◌∷◌}
use native.Mathlib.Nat.{mod-eq_of_lt}
use native.Mathlib.Omega.{arith}
use lib.ListN.{get_or}
use Rattle.sound.specs.declared.audio.Audio.{Audio}
use Rattle.sound.specs.Registers.{SoundRead}
use Rattle.sound.specs.Audio.{with_addr}
use Rattle.sound.specs.Registers.{peeked, advanced, read_of}
use Rattle.sound.proofs.registers.Laws.{inside}
use Rattle.sound_port.specs.Lent.{place_of, byte_of, after_read, port_of, with_port}
use Rattle.sound_port.specs.Block.{reads, after_reads, register_reads, after_register_reads}
use Rattle.sound_port.proofs.lent.Laws.{byte-in-range}

same_byte : (a : Audio) (x : ℕ) → 0x4800 ≤ x → x ≤ 0x4FFF → a.addr < 128 → peeked a x ≡ byte_of (port_of a)
unfolding peeked
same_byte a x l h r =
    ap (λ b. cond b (get_or a.ram a.addr 0) 0) (inside 0x4800 0x4FFF x l h) ∙ sym (byte-in-range (port_of a) r)

-- the address after an access, by the flag
moved : (a : Audio) → a.addr < 128 → (b : Bool)
    → cond b (with_addr a ((a.addr + 1) % 128) a.auto_increment) a
    ≡ with_addr a (cond b ((place_of (port_of a) + 1) % 128) a.addr) a.auto_increment
moved a r true = ap (λ (n : ℕ). with_addr a ((n + 1) % 128) a.auto_increment) (sym (mod-eq_of_lt r))
moved a r false = refl

same-audio : (a : Audio) → a.addr < 128 → advanced a ≡ with_port a (after_read (port_of a))
unfolding advanced after_read
same-audio a r = moved a r a.auto_increment

-- at 4800..4FFF, with the address in range: the same byte, and the same sound chip once the port is put back
pub as-register : (a : Audio) (x : ℕ) → 0x4800 ≤ x → x ≤ 0x4FFF → a.addr < 128
    → read_of a x ≡ record { byte = byte_of (port_of a); audio = with_port a (after_read (port_of a)) }
unfolding read_of
as-register a x l h r = λ i. record { byte = same_byte a x l h r i; audio = same-audio a r i }

-- a read leaves an address in range
pub stays-in-range : (a : Audio) → a.addr < 128 → (read_of a 0x4800).audio.addr < 128
unfolding read_of advanced
stays-in-range a r = go a.auto_increment
  where
    go : (b : Bool) → (cond b (with_addr a ((a.addr + 1) % 128) a.auto_increment) a).addr < 128
    go true = omega arith
    go false = r

-- the port of the sound chip after a read
port-after : (a : Audio) → a.addr < 128 → after_read (port_of a) ≡ port_of (read_of a 0x4800).audio
unfolding after_read
port-after a r = ap (λ (s : SoundRead). port_of s.audio) (sym (as-register a 0x4800 (omega arith) (omega arith) r))

-- n reads are n calls of `read_register`
pub block-as-registers : (n : ℕ) (a : Audio) → a.addr < 128
    → (reads n (port_of a) ≡ register_reads n a) × (after_reads n (port_of a) ≡ port_of (after_register_reads n a))
unfolding reads after_reads register_reads after_register_reads
block-as-registers zero a r = (refl, refl)
block-as-registers (suc n) a r =
    let b = ap (λ (s : SoundRead). s.byte) (as-register a 0x4800 (omega arith) (omega arith) r) in
    let next = block-as-registers n (read_of a 0x4800).audio (stays-in-range a r) in
    let after = port-after a r in
    (λ i. sym b i ∷ (ap (reads n) after ∙ next.0) i, ap (after_reads n) after ∙ next.1)
