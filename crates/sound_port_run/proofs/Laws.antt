-- Laws of the count of bytes that agree.
use Prim.Native.Nat.{ℕ, zero, suc, ◌+◌, ◌≤◌, ◌<◌}
use mathlib.Core.Path.{◌≡◌, refl, ap, ◌∙◌}
use mathlib.Core.Bool.{cond}
use mathlib.Core.List.{List}
use native.Mathlib.Numerals.{add-one}
use native.Mathlib.Omega.{arith}
use borrow.Author.Tests.{eq-eqb}
use lib.Dec.{eqb}
use lib.ListN.{length, get_or, drop, drop_of_length-le}
use lib.Seq.{drop-cons}
use Rattle.sound.specs.declared.audio.Audio.{Audio}
use Rattle.sound.specs.Registers.{read_of}
use Rattle.sound_port.specs.Lent.{port_of}
use Rattle.sound_port.specs.Block.{reads, register_reads}
use Rattle.sound_port.proofs.Register.{block-as-registers}
use Rattle.sound_port_run.specs.Agree.{agree}

-- all bytes of n calls of `read_register` do
pub agree-all : (n : ℕ) (a : Audio) → agree (register_reads n a) a ≡ n
unfolding agree register_reads
agree-all zero a = refl
agree-all (suc n) a =
    omega (
      arith,
      agree-all n (read_of a 0x4800).audio,
      ap {B = ℕ} (λ b. cond b 1 0) (eq-eqb (read_of a 0x4800).byte (read_of a 0x4800).byte refl),
    )

-- and so do n reads of the port
pub agree-block : (n : ℕ) (a : Audio) (l : List ℕ) → a.addr < 128 → l ≡ reads n (port_of a) → agree l a ≡ n
agree-block n a l r e = ap (λ (k : List ℕ). agree k a) (e ∙ (block-as-registers n a r).0) ∙ agree-all n a

-- one more byte is counted; b and s are the call's answer, and e whether its byte is the next one
pub agree-more : (l : List ℕ) (a : Audio) (i same e all b : ℕ) (s : Audio) → i < length l
    → (b ≡ (read_of a 0x4800).byte) × (s ≡ (read_of a 0x4800).audio)
    → e ≡ cond (eqb b (get_or l i 0)) 1 0 → same + agree (drop i l) a ≡ all → same + e + agree (drop (i + 1) l) s ≡ all
unfolding agree
agree-more l a i same e all b s h r q t =
    let u : agree (drop i l) a ≡ e + agree (drop (i + 1) l) s = rw (drop-cons l i 0 h, add-one i, q, r.0, r.1) refl in
    omega (arith, u, t)

pub agree-end : (l : List ℕ) (a : Audio) (i : ℕ) → length l ≤ i → agree (drop i l) a ≡ 0
unfolding agree
agree-end l a i h = rw (drop_of_length-le l h) refl
