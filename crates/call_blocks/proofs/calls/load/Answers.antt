-- `load` meets its contract: another number of places, the load refused, and accepted.
use Prim.Native.Nat.{ℕ}
use mathlib.Core.Path.{sym, ap, ◌∙◌}
use lib.ListN.{length, replicate}
use Rattle.refusals.proofs.Numbers.{numbered, errs}
use Rattle.call_load.specs.Cartridge.{Loaded}
use Rattle.call_blocks.proofs.Laws.{load-unfit, load-refused, load-accepted, load-number}
use Rattle.call_blocks.proofs.calls.load.Goals as goal

pub returns-then-d-ne256 : goal.returns-then-d-ne256
returns-then-d-ne256 c =
    let a = c.args in
    let k = a.cartridge in
    let u = load-unfit a.d.now k.mapper k.submapper k.flags k.known k.sizes k.options a.arena.now c.if-d-ne256.true in
    record { value = sym u.0; arena_after = sym u.1.0; d_after = sym u.1.1 }

pub returns-in_err-fresh : goal.returns-in_err-fresh
returns-in_err-fresh c =
    let a = c.args in
    let k = a.cartridge in
    let l = c.in_err-fresh.ensures in
    let number = ap (λ (l : Loaded). l.refusal) l.0
    ∙ load-number k.mapper k.submapper k.flags k.known k.sizes k.options (length a.arena.now) in
    let t = load-refused a.d.now k.mapper k.submapper k.flags k.known k.sizes k.options a.arena.now c.if-d-ne256.false
    (λ z. numbered _ (number ∙ z)) in
    record {
      value = rw (errs _ _ c.from_residual.ensures.1) (l.0 ∙ sym t.0);
      arena_after = l.1 ∙ sym t.1.0;
      d_after = sym t.1.1;
    }

pub returns : goal.returns
returns c =
    let a = c.args in
    let k = a.cartridge in
    let l = c.in_ok-fresh.ensures in
    let number = ap (λ (l : Loaded). l.refusal) l.0
    ∙ load-number k.mapper k.submapper k.flags k.known k.sizes k.options (length a.arena.now) in
    let t = load-accepted a.d.now k.mapper k.submapper k.flags k.known k.sizes k.options a.arena.now c.if-d-ne256.false (sym number) in
    let all = c.fill.ensures.after (λ y e. e) ∙ ap (λ (k : ℕ). replicate k 0) c.if-d-ne256.false in
    record { value = l.0 ∙ sym t.0; arena_after = l.1 ∙ sym t.1.0; d_after = all ∙ sym t.1.1 }
