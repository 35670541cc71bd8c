-- Samples as bytes, and a run whose room is cut to what any run makes.
use Prim.Native.Nat.{ℕ, zero, suc, ◌+◌, ◌*◌, ◌/◌, ◌%◌, min, ◌≤◌, ◌<◌}
use Rattle.std.proofs.Math.Nat.{min-eq_left, min-eq_right}
use mathlib.Core.Path.{◌≡◌, refl, sym, ap, ◌∙◌}
use mathlib.Core.Bool.{Bool, true, false, cond, not}
use mathlib.Core.List.{List, [], ◌∷◌, ◌++◌, append_assoc}
use native.Mathlib.Numerals.{add-one}
use native.Mathlib.Omega.{arith}
use borrow.Author.Tests.{le-ltb, ltb-true, ltb-false}
use lib.Dec.{T, ltb}
use lib.Ieee.{Float, nan, binary32, to_bits, is_nan}
use lib.ListN.{length, take, drop, get_or, length-append, length-drop, take-append-drop}
use lib.Seq.{sets, sets-eq, take_at, drop-append-add, drop-append-le, drop-drop, length-take-le, take-length, take-suc}
use Rattle.bits.specs.Fields.{total, unpack, each}
use Rattle.bits.specs.Words.{bytes_of}
use Rattle.bits.proofs.Fields.{each_snoc}
use Rattle.bits.proofs.words.Laws.{length-bytes}
use Rattle.cut.specs.Calls.{Point}
use Rattle.cut.specs.Contract.{last_or, run_by}
use Rattle.sound_clock.proofs.Range.Run.{samples-number}
use Rattle.board_chip.specs.Namco163.{is163}
use Rattle.board_state.specs.declared.State.{State}
use Rattle.board_state.specs.State.{Known}
use Rattle.board_state.proofs.Range.{known-audio}
use Rattle.call_refusals.specs.Refusals.{first_of}
use Rattle.call_run.specs.declared.run.Ran.{Ran}
use Rattle.call_run.specs.Run.{clocks, made, run_limit, samples_most, run_checks, RunAnswer, ran_of}
use Rattle.call_run.proofs.run.Laws.{run-good, made-most, sounds-samples, silent-samples}
use Rattle.host_samples.specs.Samples.{sample_bytes, run_in, HoldsRun}

-- ---- bytes

pub four : (w : ℕ) → bytes_of 4 w ≡ w / 16777216 % 256 ∷ w / 65536 % 256 ∷ w / 256 % 256 ∷ w % 256 ∷ []
unfolding unpack total
four w = let e : w / 1 ≡ w = omega arith in ap (λ (x : ℕ). w / 16777216 % 256 ∷ w / 65536 % 256 ∷ w / 256 % 256 ∷ x % 256 ∷ []) e

length-each : (xs : List Float) → length (each sample_bytes xs) ≡ 4 * length xs
unfolding each
length-each [] = refl
length-each (x ∷ xs) =
    length-append (sample_bytes x) (each sample_bytes xs) ∙ omega (arith, length-bytes 4 (to_bits binary32 x), length-each xs)

length-first : (xs : List Float) (j : ℕ) → j ≤ length xs → length (each sample_bytes (take j xs)) ≡ 4 * j
length-first xs j h = length-each (take j xs) ∙ ap (λ (n : ℕ). 4 * n) (length-take-le j xs h)

pub put-none : (xs : List Float) (l : List ℕ) → l ≡ each sample_bytes (take 0 xs) ++ drop (4 * 0) l
unfolding each
put-none xs l = refl

pub put-length : (xs : List Float) (l : List ℕ) (j : ℕ) → j ≤ length xs → 4 * j ≤ length l
    → length (each sample_bytes (take j xs) ++ drop (4 * j) l) ≡ length l
put-length xs l j h r =
    omega (arith, length-append (each sample_bytes (take j xs)) (drop (4 * j) l), length-first xs j h, length-drop (4 * j) l)

pub put-more : (xs : List Float) (l : List ℕ) (j : ℕ) → j < length xs → 4 * j + 4 ≤ length l
    → sets (each sample_bytes (take j xs) ++ drop (4 * j) l) (4 * j) (sample_bytes (get_or xs j nan))
    ≡ each sample_bytes (take (j + 1) xs) ++ drop (4 * (j + 1)) l
put-more xs l j h r =
    let done = each sample_bytes (take j xs) in
    let old = drop (4 * j) l in
    let vs = sample_bytes (get_or xs j nan) in
    let n : length done ≡ 4 * j = length-first xs j (omega arith) in
    let v : length vs ≡ 4 = length-bytes 4 (to_bits binary32 (get_or xs j nan)) in
    let m : 4 * j + length vs ≡ 4 * (j + 1) = omega (arith, v) in
    let first : done ++ vs ≡ each sample_bytes (take (j + 1) xs) =
    sym (each_snoc sample_bytes (take j xs) (get_or xs j nan)) ∙ ap (each sample_bytes) (sym (rw (add-one, take-suc xs j nan h))) in
    let rest : drop (4 * j + length vs) (done ++ old) ≡ drop (4 * (j + 1)) l =
    ap (λ (x : ℕ). drop (x + length vs) (done ++ old)) (sym n) ∙ drop-append-add done old (length vs)
    ∙ drop-drop (length vs) (4 * j) l ∙ ap (λ (x : ℕ). drop x l) m in
    sets-eq vs (done ++ old) (4 * j) (omega (arith, v, put-length xs l j (omega arith) (omega arith)))
    ∙ ap (λ (x : List ℕ). x ++ vs ++ drop (4 * j + length vs) (done ++ old)) (take_at done old (4 * j) n)
    ∙ ap (λ (x : List ℕ). x ++ drop (4 * j + length vs) (done ++ old)) first
    ∙ ap (λ (x : List ℕ). each sample_bytes (take (j + 1) xs) ++ x) rest

pub put-all : (xs : List Float) (l : List ℕ) (j : ℕ) → j ≡ length xs
    → each sample_bytes (take j xs) ++ drop (4 * j) l ≡ each sample_bytes xs ++ drop (4 * length xs) l
put-all xs l j e = rw e (ap (λ (ys : List Float). each sample_bytes ys ++ drop (4 * length xs) l) (take-length xs))

-- ---- a run's room: more than a buffer that holds the run changes nothing

pub room-enough : (s : State) (n room places : ℕ) → HoldsRun s n places
    → first_of (run_checks s n (min places room)) ≡ first_of (run_checks s n room)
unfolding first_of
room-enough s n room places holds = go (ltb run_limit n) (ltb room places) refl refl
  where
    go : (l b : Bool) → ltb run_limit n ≡ l → ltb room places ≡ b
        → first_of (run_checks s n (min places room)) ≡ first_of (run_checks s n room)
    go true b le be = rw le
    go false true le be = rw (min-eq_right {n = room} {m = places} (omega (arith, ltb-true room places be)))
    go false false le be =
        let m = holds (ltb-false run_limit n le) in
        rw (
          min-eq_left {n = places} {m = room} (ltb-false room places be),
          le,
          le-ltb places (made n s) m,
          le-ltb room (made n s) (omega (arith, m, ltb-false room places be)),
        )

pub run-number : (q : ℕ) (t : Point State Float) (lent : List Float) (s : State) → (run_by q t lent s).refusal ≡ q
run-number zero t lent s = refl
run-number (suc q) t lent s = refl

-- the answer does not look at the lent samples
pub answer-alone : (q : ℕ) (t : Point State Float) (lent other : List Float) (s : State)
    → ran_of (run_by q t lent s) ≡ ran_of (run_by q t other s)
answer-alone zero t lent other s = refl
answer-alone (suc q) t lent other s = refl

-- the samples of a run into the buffer's first places, and the rest of the buffer
pub whole-buffer : (q : ℕ) (t : Point State Float) (buf : List Float) (p : ℕ) (s : State)
    → (q ≡ 0 → length t.stretch.samples ≤ length (take p buf))
    → (run_by q t (take p buf) s).samples ++ drop p buf ≡ (run_by q t buf s).samples
whole-buffer zero t buf p s h =
    let w = t.stretch.samples in
    append_assoc w (drop (length w) (take p buf)) (drop p buf)
    ∙ ap (λ (l : List Float). w ++ l) (sym (drop-append-le (length w) (take p buf) (drop p buf) (h refl)))
    ∙ ap (λ (l : List Float). w ++ drop (length w) l) (take-append-drop p buf)
whole-buffer (suc q) t buf p s h = take-append-drop p buf

-- ---- what an accepted run knows

abbrev ran_to : Point State Float → Ran
ran_to t = record { made = length t.stretch.samples; rise = last_or 0 t.stretch.rises; state = t.state }

abbrev accepted : Ran → RunAnswer
accepted r = record { refusal = 0; made = r.made; rise = r.rise; state = r.state }

-- its answer, its samples first in the buffer, and that they are few enough for a buffer that holds the run and for the host's bytes
pub record Ended (s : State) (n : ℕ) (bytes : List ℕ) (r : Ran) (after : List Float) : Type 0 where
  pub is : r ≡ ran_to (clocks n s)
  pub first : take r.made after ≡ (clocks n s).stretch.samples
  pub buffer : r.made ≤ samples_most
  pub held : (places : ℕ) → HoldsRun s n places → r.made ≤ places
  pub lent : 4 * r.made ≤ length bytes

pub ended : (s : State) (n : ℕ) (bytes : List ℕ) (lent : List Float) (r : Ran) (after : List Float)
    → (accepted r ≡ ran_of (run_in s n (length bytes / 4) lent)) × (after ≡ (run_in s n (length bytes / 4) lent).samples)
    → Known s → Ended s n bytes r after
unfolding made
ended s n bytes lent r after e k =
    let q = first_of (run_checks s n (length bytes / 4)) in
    let t = clocks n s in
    let w = t.stretch.samples in
    let z : q ≡ 0 = sym (ap (λ (x : RunAnswer). x.refusal) e.0 ∙ run-number q t lent s) in
    let g = run-good s n (length bytes / 4) z in
    let i : accepted r ≡ ran_of (run_by 0 t lent s) = e.0 ∙ ap (λ (x : ℕ). ran_of (run_by x t lent s)) z in
    let m : r.made ≡ length w = ap (λ (x : RunAnswer). x.made) i in
    record {
      is = ap (λ (x : RunAnswer). record { made = x.made; rise = x.rise; state = x.state }) i;
      first =
          ap (λ (k : ℕ). take k after) m ∙ ap (take (length w)) (e.1 ∙ ap (λ (x : ℕ). (run_by x t lent s).samples) z)
          ∙ take_at w (drop (length w) lent) (length w) refl;
      buffer = omega (arith, m, made-most n s k.range.chip.audio.counter g.short);
      held = λ places h. omega (arith, m, h g.short);
      lent = omega (arith, m, g.enough);
    }

-- no sample is a NaN
pub samples-numbers : (s : State) (n : ℕ) → Known s → (j : ℕ) → j < length (clocks n s).stretch.samples
    → T (not (is_nan (get_or (clocks n s).stretch.samples j nan)))
samples-numbers s n k j = go (is163 s.chip.board) refl
  where
    go : (t : Bool) → is163 s.chip.board ≡ t → j < length (clocks n s).stretch.samples
        → T (not (is_nan (get_or (clocks n s).stretch.samples j nan)))
    go true b h =
        rw (sounds-samples n s b) (samples-number n s.chip.audio (known-audio s k) j (rw (sounds-samples n s b) at h))
    go false b h = absurd (omega (arith, rw (silent-samples n s b) at h))
