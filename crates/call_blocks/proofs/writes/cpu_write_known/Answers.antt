-- `cpu_write_known` meets its contract: the directory unfit, the write refused, and accepted.
use Prim.Native.Nat.{ℕ}
use mathlib.Core.Path.{◌≡◌, refl, sym, ap, ap₂, ◌∙◌}
use mathlib.Core.List.{List}
use lib.Bits.{bit_or}
use lib.ListN.{length}
use Rattle.directory.specs.Drop.{dropped}
use Rattle.board_state.specs.declared.State.{State}
use Rattle.refusals.proofs.Numbers.{numbered, errs}
use Rattle.call_refusals.specs.Refusals.{cpu_checks, first_of}
use Rattle.call_cpu.specs.Calls.{WriteAnswer, refused_write, cpu_write}
use Rattle.call_blocks.specs.Blocks.{cpu_write_answer, cpu_write_leaves, cpu_write_drops}
use Rattle.call_blocks.proofs.Laws.{given-unfit, given-fit, told-unfit, told-refused, told-accepted}
use Rattle.call_blocks.proofs.Laws.{write-number, touched-written}
use Rattle.call_blocks.proofs.writes.cpu_write_known.Goals as goal

pub returns-in_err-check_directory : goal.returns-in_err-check_directory
unfolding cpu_write_answer cpu_write_leaves cpu_write_drops
returns-in_err-check_directory c =
    let s = c.args.s.state in
    let unfit = c.in_err-check_directory.ensures.1 in
    let own = cpu_checks s (length c.args.arena.now) c.args.addr in
    let told = (told-unfit c.args.d.now own c.args.arena.now _ _ unfit).1 in
    record {
      value = rw (errs _ _ c.from_residual.ensures.1, c.in_err-check_directory.ensures.0)
          (sym (given-unfit c.args.d.now _ (refused_write s) _ unfit));
      arena_after = told.0;
      d_after = told.1;
    }

-- the number that the write answered is its checks'
number : (s : State) (arena : List ℕ) (addr val : ℕ) {w : WriteAnswer} → w ≡ cpu_write s arena addr val
    → w.refusal ≡ first_of (cpu_checks s (length arena) addr)
number s arena addr val e = ap (λ (w : WriteAnswer). w.refusal) e ∙ write-number s arena addr val

pub returns-in_err-written : goal.returns-in_err-written
unfolding cpu_write_answer cpu_write_leaves cpu_write_drops
returns-in_err-written c =
    let a = c.args in
    let w = c.in_err-written.ensures in
    let fits = c.in_ok-check_directory.ensures in
    let told =
    (told-refused a.d.now _ a.arena.now _ _ fits (number a.s.state a.arena.now a.addr a.val w.0, w.1) (numbered _)).1 in
    record {
      value = rw (errs _ _ c.from_residual-in_err-written.ensures.1) (w.0 ∙ sym (given-fit a.d.now (refused_write a.s.state) _ fits));
      arena_after = told.0;
      d_after = told.1;
    }

pub returns : goal.returns
unfolding cpu_write_answer cpu_write_leaves cpu_write_drops
returns c =
    let a = c.args in
    let w = c.in_ok-written.ensures in
    let fits = c.in_ok-check_directory.ensures in
    let answered = number a.s.state a.arena.now a.addr a.val w.0 in
    let mask = ap₂ bit_or (ap (λ (x : WriteAnswer). x.changed.prg.mask) w.0) c.stored_prg-stored.ensures
    ∙ touched-written a.s.state a.arena.now a.addr a.val (sym answered) in
    let gone = c.drop_touched.ensures ∙ ap (λ (x : ℕ). dropped x a.d.now) mask in
    let told = (told-accepted a.d.now _ a.arena.now _ _ fits (answered, w.1) refl gone).1 in
    record { value = w.0 ∙ sym (given-fit a.d.now (refused_write a.s.state) _ fits); arena_after = told.0; d_after = told.1 }
