-- S16: from every load, after every list of calls, in every choice.
use Prim.Native.Nat.{ℕ, zero, suc, ◌^◌, ◌<◌}
use mathlib.Core.Path.{◌≡◌, refl}
use mathlib.Core.Bool.{Bool, true, false}
use mathlib.Core.List.{List, [], ◌∷◌}
use mathlib.Core.Logic.{inl, inr}
use native.Mathlib.Omega.{arith}
use lib.Ieee.{Float, nan, binary32, to_bits}
use lib.ListN.{length, get_or, take, drop}
use lib.Seq.{take_at}
use Rattle.cut.specs.Calls.{Call, Trace, start}
use Rattle.cut.specs.Contract.{run_by}
use Rattle.cut.specs.Demand3.{observed}
use Rattle.cut.specs.Always.{AllTyped, Each, EachSample}
use Rattle.cut.proofs.Always.{each-sample}
use Rattle.sound.specs.Range.{Level, OutInRange, out_low, out_high, BitsIn}
use Rattle.sound.proofs.Floats.Bits.{high-finite}
use Rattle.sound_wave.specs.Mix.{NoMinusZero}
use Rattle.sound_wave.proofs.Floats.Zero.{whole-no-minus}
use Rattle.sound_clock.specs.Run.{samples_of}
use Rattle.sound_clock.specs.Exact.{UpdateExact}
use Rattle.sound_clock.proofs.Range.Clock.{update-exact}
use Rattle.sound_clock.proofs.Range.Run.{samples-no-minus}
use Rattle.board_chip.specs.Namco163.{is163}
use Rattle.board_state.specs.declared.State.{State}
use Rattle.board_state.specs.State.{Known}
use Rattle.board_state.proofs.Range.{known-audio}
use Rattle.call_refusals.specs.Refusals.{first_of}
use Rattle.call_run.specs.Run.{clocks, run_checks, run_gave}
use Rattle.call_run.proofs.run.Laws.{sounds-samples, silent-samples}
use Rattle.thm_machine.specs.Calls.{Held, Other, CallTyped}
use Rattle.thm_machine.specs.Board.{run_gives, board}
use Rattle.thm_machine.specs.Start.{Loaded, loaded}
use Rattle.thm_range.specs.Fit.{Fit}
use Rattle.thm_range.specs.Zero.{NeverMinusZero}
use Rattle.thm_range.proofs.Calls.{load_fits}
use Rattle.thm_range.proofs.Lists.{kept, always-fit}

-- ---- outputs and `out` of a state in range

level-no-minus : (signed : Bool) (x : Float) → Level signed x → NoMinusZero x
level-no-minus signed x l = rw l.is (whole-no-minus l.number)

out-no-minus : (signed plain : Bool) (x : Float) → OutInRange signed plain x → NoMinusZero x
out-no-minus signed plain x o e = go o.bits
  where
    go : BitsIn (out_low signed plain) (out_high signed plain) (to_bits binary32 x) → ⊥
    go (inl h) = omega (arith, high-finite signed plain, e, h)
    go (inr h) = omega (arith, h.0, e)

-- ---- the samples of a list

each_of : (P : Float → Type 0) (xs : List Float) → ((i : ℕ) → i < length xs → P (get_or xs i nan)) → Each P xs
each_of P [] h = tt
each_of P (x ∷ xs) h = (h 0 (omega arith), each_of P xs (λ i l. h (suc i) (omega arith)))

clocks-no-minus : (n : ℕ) (s : State) → Known s → Each NoMinusZero (clocks n s).stretch.samples
clocks-no-minus n s k = go (is163 s.chip.board) refl
  where
    go : (t : Bool) → is163 s.chip.board ≡ t → Each NoMinusZero (clocks n s).stretch.samples
    go true e =
        rw (sounds-samples n s e)
        (each_of NoMinusZero (samples_of n s.chip.audio) (samples-no-minus n s.chip.audio (known-audio s k)))
    go false e = rw (silent-samples n s e) tt

-- an accepted run's samples are those of its clocks
pub run-no-minus : (n : ℕ) (lent : List Float) (h : Held) → Fit h → let g = run_gives n lent h in
    g.refusal ≡ 0 → Each NoMinusZero (take g.made g.samples)
unfolding run_gives run_gave
run-no-minus n lent h f = go (first_of (run_checks h.state n (length lent)))
  where
    go : (q : ℕ) → let g = run_by q (clocks n h.state) lent h.state in g.refusal ≡ 0 → Each NoMinusZero (take g.made g.samples)
    go zero e =
        let w = (clocks n h.state).stretch.samples in
        rw (take_at w (drop (length w) lent) (length w) refl) (clocks-no-minus n h.state f.known)
    go (suc q) e = absurd (omega arith)

-- of a state that is known, behind samples that are not
pub none-minus : {Arg Answer : Type 0} (s : State) → Known s → (t : Trace Float Arg Answer) → EachSample NoMinusZero t
    → NeverMinusZero s.chip.audio t
none-minus s k t e =
    let a = k.range.chip.audio in
    record { outputs = λ i h. level-no-minus _ _ (a.outputs i h); out = out-no-minus _ _ _ a.mixed; samples = e }

pub never-minus-zero : (l : Loaded) → l.submapper < 2 ^ 8 → (calls : List (Call Float Other)) → AllTyped CallTyped calls
    → let o = observed board calls (loaded l) in NeverMinusZero o.state.state.chip.audio o.trace
never-minus-zero l sub calls t =
    none-minus _ (always-fit l sub calls t).known _
    (each-sample board CallTyped Fit kept NoMinusZero run-no-minus calls (start (loaded l)) t (load_fits l sub) tt)

-- S7, S14 to S16: what the next update makes is exact, from every load after every list of calls
pub next-update-exact : (l : Loaded) → l.submapper < 2 ^ 8 → (calls : List (Call Float Other)) → AllTyped CallTyped calls
    → UpdateExact (observed board calls (loaded l)).state.state.chip.audio
next-update-exact l sub calls t =
    let s = (observed board calls (loaded l)).state.state in update-exact s.chip.audio (known-audio s (always-fit l sub calls t).known)
