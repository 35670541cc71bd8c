-- `preview_on` meets its contract: refused, and accepted, as the write is. The PRG mask has no bit below 24, so it and the CHR mask do not
-- meet.
use Prim.Native.Nat.{◌+◌, ◌*◌, ◌%◌, ◌^◌}
use mathlib.Core.Path.{◌≡◌, refl, sym, ap, ◌∙◌}
use mathlib.Core.List.{[]}
use Rattle.refusals.specs.Refusal.{number_of}
use Rattle.refusals.proofs.Numbers.{numbered, passed-word}
use Rattle.call_cpu.specs.Calls.{cpu_write}
use Rattle.call_preview.specs.Preview.{Previewed, preview}
use Rattle.thm_range.proofs.Calls.{cpu-write-mask}
use Rattle.host_state.proofs.Laws.{write-called, word_of}
use Rattle.host_preview.proofs.preview_on.Goals as goal

-- `call` here and below is the write by its own answer
pub returns-in_err-preview_known : goal.returns-in_err-preview_known
unfolding preview
returns-in_err-preview_known c =
    let a = c.args in
    let write = cpu_write a.s.state a.arena.now a.addr a.val in
    let call = write-called a.s.state [] a.arena.now a.addr a.val write refl in
    let refusal : number_of _ ≡ write.refusal = ap (λ (x : Previewed). x.refusal) c.in_err-preview_known.ensures in
    passed-word _ _ c.from_residual.ensures.1 ∙ refusal ∙ word_of (call.refused (λ z. numbered _ (refusal ∙ z)))

pub changes_word-requires : goal.changes_word-requires
unfolding preview
changes_word-requires c =
    ap (λ (x : Previewed). x.changed.prg.mask % 2 ^ 24) c.in_ok-preview_known.ensures
    ∙ cpu-write-mask c.args.s.state c.args.arena.now c.args.addr c.args.val

pub returns : goal.returns
unfolding preview
returns c =
    let a = c.args in
    let write = cpu_write a.s.state a.arena.now a.addr a.val in
    let call = write-called a.s.state [] a.arena.now a.addr a.val write refl in
    let gives = c.in_ok-preview_known.ensures in
    c.changes_word.ensures ∙ ap (λ (x : Previewed). x.changed.chr.mask * 2 ^ 8 + x.changed.prg.mask) gives
    ∙ word_of (call.accepted (sym (ap (λ (x : Previewed). x.refusal) gives)))
