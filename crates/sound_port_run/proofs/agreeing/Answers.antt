-- What is counted and what is still to be counted make the whole count.
use Rattle.std.proofs.Common.{◌≡◌, ◌<◌, ◌≤◌, ◌+◌, ℕ, cond, List, length, get_or, drop, sym, ap, arith, eqb}
use Rattle.std.proofs.lemmas.Bool.{eq-eqb, ne_eqb}
use Rattle.sound.specs.declared.audio.Audio.{Audio}
use Rattle.sound.specs.Registers.{read_of}
use Rattle.sound_port.proofs.Register.{stays-in-range}
use Rattle.sound_port_run.specs.Agree.{agree}
use Rattle.sound_port_run.proofs.Laws.{agree-more, agree-end}
use Rattle.sound_port_run.proofs.agreeing.Goals as goal
use Rattle.sound_port_run.proofs.agreeing.Goals.{then-read_register-byte, else-read_register-byte}

-- one more byte is compared; `more` is 1 where it is that of the call's answer
next : (l : List ℕ) (a : Audio) (i same more after all b : ℕ) (s : Audio) → i < length l
    → (b ≡ (read_of a 0x4800).byte) × (s ≡ (read_of a 0x4800).audio)
    → more ≡ cond (eqb b (get_or l i 0)) 1 0 → after ≡ same + more → more ≤ 1
    → (same ≤ i) × (a.addr < 128) × (same + agree (drop i l) a ≡ all)
    → (after ≤ i + 1) × (s.addr < 128) × (after + agree (drop (i + 1) l) s ≡ all)
next l a i same more after all b s h r e q m (bound, in-range, t) =
    (omega arith, rw r.1 (stays-in-range a in-range), rw q (agree-more l a i same more all b s h r e t))

pub loop-byte-preserved : goal.loop-byte-preserved
loop-byte-preserved c =
    let l = c.args.bytes.now in
    let i = c.loop-byte.byte-index in elim c.if-read_register-byte.branch [
      | then-read_register-byte w ↦
          next l c.loop-byte.audio i c.loop-byte.same 1 _ _ _ _ c.loop-byte-test.true c.read_register.ensures
          (sym (ap {B = ℕ} (λ b. cond b 1 0) (eq-eqb _ _ w.if-read_register-byte.true))) w.same-is (omega arith) c.loop-byte.invariant
      | else-read_register-byte w ↦
          next l c.loop-byte.audio i c.loop-byte.same 0 _ _ _ _ c.loop-byte-test.true c.read_register.ensures
          (sym (ap {B = ℕ} (λ b. cond b 1 0) (ne_eqb _ _ w.if-read_register-byte.false))) (omega arith) (omega arith) c.loop-byte.invariant
    ]

pub returns : goal.returns
returns c = omega (arith, c.loop-byte.invariant.2, agree-end c.args.bytes.now c.loop-byte.audio c.loop-byte.byte-index (omega arith))
