-- D3.2: the counter 0x8000 + n first raises the line after 0x7FFF − n clocks, in every list of calls that leaves it alone.
use Prim.Native.Nat.{ℕ, zero, suc, ◌+◌, ◌-◌, ◌≤◌, ◌<◌}
use mathlib.Core.Path.{◌≡◌, refl, sym, ap, ◌∙◌}
use mathlib.Core.Bool.{Bool, true, false, cond}
use mathlib.Core.List.{List, [], ◌∷◌, ◌++◌, append_assoc, append-nil}
use native.Mathlib.Nat.{add-zero, add-suc}
use native.Mathlib.Omega.{arith}
use lib.Dec.{ltb}
use lib.ListN.{length}
use borrow.Author.Tests.{le-ltb, ne_eqb, eq-eqb, ltb-true, ltb-false}
use Rattle.cut.specs.Calls.{Call, run, other, Board, Trace, Point, from, start, all_clocks, all_rises}
use Rattle.cut.specs.Machine.{Clocked, Paper, tick, ticks, machine_run, other_of, machine}
use Rattle.cut.specs.Contract.{Keeps}
use Rattle.cut.specs.Counter.{Counter, moves, next_counter, rises_from}
use Rattle.cut.specs.Demand3.{observed, Untouched, RisesInTime}
use Rattle.cut.proofs.Machine.{ticks-add, ticks-count, ticks-clocks}
use Rattle.cut.proofs.Cutting.{as-machine}
use Rattle.cut.proofs.Counter.{counter-once}

-- ---- the counter's numbers

moves-on : (x : ℕ) → x < 0x7FFF → moves (0x8000 + x) ≡ true
unfolding moves
moves-on x h = rw (le-ltb (0x8000 + x) 0x8000 (omega arith), ne_eqb (0x8000 + x) 0xFFFF (omega arith))

next-on : (x : ℕ) → x < 0x7FFF → next_counter (0x8000 + x) ≡ 0x8000 + suc x
unfolding next_counter
next-on x h = rw (moves-on x h) (omega arith)

quiet-on : (x : ℕ) → suc x < 0x7FFF → rises_from (0x8000 + x) ≡ false
unfolding rises_from
quiet-on x h = rw (moves-on x (omega arith), next-on x (omega arith)) (ne_eqb (0x8000 + suc x) 0xFFFF (omega arith))

rises-on : (x : ℕ) → suc x ≡ 0x7FFF → rises_from (0x8000 + x) ≡ true
unfolding rises_from
rises-on x h = rw (moves-on x (omega arith), next-on x (omega arith)) (eq-eqb (0x8000 + suc x) 0xFFFF (omega arith))

-- ---- runs

module _ {State Sample : Type 0} (clock : State → Clocked State Sample) (c : Counter clock) where
  -- how the counter, the line and the rises noted stand at a point
  record At (x : ℕ) (up : Bool) (rs : List ℕ) (p : Point State Sample) : Type 0 where
    counter : c.counter p.state ≡ x
    line : c.line p.state ≡ up
    rises : p.stretch.rises ≡ rs

  -- one clock, by whether its counter rises
  one-tick : (x : ℕ) (up r : Bool) (p : Point State Sample) {rs : List ℕ} → rises_from x ≡ r → At x up rs p
      → At (next_counter x) (cond r true up) (rs ++ cond r (suc p.count ∷ []) []) (tick clock p)
  unfolding tick
  one-tick x up r p e a =
      record {
        counter = c.counts p.state ∙ ap next_counter a.counter;
        line = rw (c.pends p.state, a.counter, e, a.line);
        rises = rw (c.rises p.state, a.counter, e, a.rises);
      }

  stays-clear : (m n : ℕ) (p : Point State Sample) {rs : List ℕ} → n + m < 0x7FFF → At (0x8000 + n) false rs p
      → At (0x8000 + (n + m)) false rs (ticks clock m p)
  unfolding ticks
  stays-clear zero n p h a = rw add-zero a
  stays-clear (suc m) n p {rs} h a =
      let t = one-tick (0x8000 + (n + m)) false false (ticks clock m p) (quiet-on (n + m) (omega arith))
      (stays-clear m n p (omega arith) a) in
      rw add-suc (rw (next-on (n + m) (omega arith), append-nil rs) at t)

  -- the clock that raises the line
  raises : (d n : ℕ) (p : Point State Sample) {rs : List ℕ} → n + d ≡ 0x7FFF → 0 < d → At (0x8000 + n) false rs p
      → At 0xFFFF true (rs ++ (p.count + d) ∷ []) (ticks clock d p)
  unfolding ticks
  raises zero n p e h a = absurd (omega arith)
  raises (suc d) n p e h a =
      let t = one-tick (0x8000 + (n + d)) false true (ticks clock d p) (rises-on (n + d) (omega arith))
      (stays-clear d n p (omega arith) a) in
      let top : 0x8000 + suc (n + d) ≡ 0xFFFF = omega arith in
      rw add-suc (rw (next-on (n + d) (omega arith), top, ticks-count clock d p) at t)

  -- and after it
  stays_up : (m : ℕ) (p : Point State Sample) {rs : List ℕ} → At 0xFFFF true rs p → At 0xFFFF true rs (ticks clock m p)
  unfolding ticks rises_from next_counter moves
  stays_up zero p a = a
  stays_up (suc m) p {rs} a = rw (append-nil rs) at (one-tick 0xFFFF true false (ticks clock m p) refl (stays_up m p a))

  raises-within : (m d n : ℕ) (p : Point State Sample) {rs : List ℕ} → n + d ≡ 0x7FFF → 0 < d → d ≤ m → At (0x8000 + n) false rs p
      → At 0xFFFF true (rs ++ (p.count + d) ∷ []) (ticks clock m p)
  raises-within m d n p {rs} e h l a =
      let k : d + (m - d) ≡ m = omega arith in
      rw (← k, ← ticks-add clock d (m - d) p) (stays_up (m - d) (ticks clock d p) (raises d n p e h a))

-- ---- lists of calls, by the machine

module _ {State Sample Arg Answer : Type 0} (paper : Paper State Sample Arg Answer) where
  -- a run adds as many clocks to the stretch as to the count
  moved : (q n : ℕ) (p : Point State Sample)
      → let t = machine_run paper.clock q n p in
      (j : ℕ) × (t.stretch.clocks ≡ p.stretch.clocks + j) × (t.count ≡ p.count + j)
  moved zero n p = (n, ticks-clocks paper.clock n p, ticks-count paper.clock n p)
  moved (suc q) n p = (0, sym (add-zero p.stretch.clocks), sym (add-zero p.count))

  -- a stretch only grows
  grows : (calls : List (Call Sample Arg)) (p : Point State Sample) → p.stretch.clocks ≤ all_clocks (machine paper calls p).trace
  unfolding machine
  grows [] p = omega arith
  grows (run n lent ∷ calls) p =
      let q = paper.refuses_run n (length lent) p.state in
      omega (arith, grows calls (machine_run paper.clock q n p), (moved q n p).1)
  grows (other a ∷ calls) p = omega arith

  -- A list taken apart: the point that the first calls reach, and the rises and clocks of the stretches before that point's.
  record Parted (first rest : List (Call Sample Arg)) (p : Point State Sample) : Type 0 where
    point : Point State Sample
    earlier : List ℕ
    before : ℕ
    state-first : (machine paper first p).state ≡ point.state
    state-all : (machine paper (first ++ rest) p).state ≡ (machine paper rest point).state
    rises-first : all_rises (machine paper first p).trace ≡ earlier ++ point.stretch.rises
    rises-all : all_rises (machine paper (first ++ rest) p).trace ≡ earlier ++ all_rises (machine paper rest point).trace
    clocks-first : all_clocks (machine paper first p).trace ≡ before + point.stretch.clocks
    clocks-all : all_clocks (machine paper (first ++ rest) p).trace ≡ before + all_clocks (machine paper rest point).trace
    count : point.count + p.stretch.clocks ≡ p.count + all_clocks (machine paper first p).trace

  parted : (first rest : List (Call Sample Arg)) (p : Point State Sample) → Parted first rest p
  unfolding machine
  parted [] rest p =
      record {
        point = p;
        earlier = [];
        before = 0;
        state-first = refl;
        state-all = refl;
        rises-first = refl;
        rises-all = refl;
        clocks-first = omega arith;
        clocks-all = omega arith;
        count = refl;
      }
  parted (run n lent ∷ first) rest p =
      let q = paper.refuses_run n (length lent) p.state in
      let b = parted first rest (machine_run paper.clock q n p) in
      record {
        point = b.point;
        earlier = b.earlier;
        before = b.before;
        state-first = b.state-first;
        state-all = b.state-all;
        rises-first = b.rises-first;
        rises-all = b.rises-all;
        clocks-first = b.clocks-first;
        clocks-all = b.clocks-all;
        count = omega (arith, b.count, (moved q n p).1, (moved q n p).2);
      }
  parted (other a ∷ first) rest p =
      let b = parted first rest (from (other_of paper a p.state).state p.count) in
      record {
        point = b.point;
        earlier = p.stretch.rises ++ b.earlier;
        before = p.stretch.clocks + b.before;
        state-first = b.state-first;
        state-all = b.state-all;
        rises-first = rw (b.rises-first, append_assoc);
        rises-all = rw (b.rises-all, append_assoc);
        clocks-first = omega (arith, b.clocks-first);
        clocks-all = omega (arith, b.clocks-all);
        count = omega (arith, b.count);
      }

module _ {State Sample Arg Answer : Type 0} (board : Board State Sample Arg Answer) (paper : Paper State Sample Arg Answer)
    (keeps : Keeps board paper) (c : Counter paper.clock) where
  -- a call that leaves the counter and the line
  kept : (a : Arg) (s : State) (x : ℕ) (up : Bool) (k : ℕ) (calls : List (Call Sample Arg))
      → Untouched board c.counter c.line (other a ∷ calls)
      → c.counter s ≡ x → c.line s ≡ up → At paper.clock c x up [] (from (other_of paper a s).state k)
  kept a s x up k calls u e f =
      record { counter = rw (← keeps.other a s) ((u.0 s).0 ∙ e); line = rw (← keeps.other a s) ((u.0 s).1 ∙ f); rises = refl }

  -- once the line is up, no rise is noted
  list-stays-up : (calls : List (Call Sample Arg)) (p : Point State Sample) {rs : List ℕ} → At paper.clock c 0xFFFF true rs p
      → Untouched board c.counter c.line calls
      → (all_rises (machine paper calls p).trace ≡ rs) × (c.line (machine paper calls p).state ≡ true)
  unfolding machine
  list-stays-up [] p a u = (a.rises, a.line)
  list-stays-up (run n lent ∷ calls) p {rs} a u = go (paper.refuses_run n (length lent) p.state) (λ p a. list-stays-up calls p a u)
    where
      go : (q : ℕ)
          → ((p : Point State Sample) → At paper.clock c 0xFFFF true rs p
          → (all_rises (machine paper calls p).trace ≡ rs) × (c.line (machine paper calls p).state ≡ true))
          → let t = machine paper calls (machine_run paper.clock q n p) in (all_rises t.trace ≡ rs) × (c.line t.state ≡ true)
      go zero ih = ih (ticks paper.clock n p) (stays_up paper.clock c n p a)
      go (suc q) ih = ih p a
  list-stays-up (other b ∷ calls) p a u =
      let w = list-stays-up calls (from (other_of paper b p.state).state p.count)
      (kept b p.state _ _ _ calls u a.counter a.line) u.1 in
      (rw (w.0, append-nil) a.rises, w.1)

  -- `FirstRise` from a point, where d clocks are to go
  record RisesBy (trace : Trace Sample Arg Answer) (s : State) (rs : List ℕ) (k d more : ℕ) : Type 0 where
    early : more < d → (all_rises trace ≡ rs) × (c.line s ≡ false)
    due : d ≤ more → (all_rises trace ≡ rs ++ (k + d) ∷ []) × (c.line s ≡ true)

  abbrev ListRises : List (Call Sample Arg) → Point State Sample → List ℕ → ℕ → ℕ → ℕ → Type 0
  ListRises calls p rs k d more = let t = machine paper calls p in RisesBy t.trace t.state rs k d more

  list-rises : (calls : List (Call Sample Arg)) (p : Point State Sample) {rs : List ℕ} (n d more : ℕ) → n + d ≡ 0x7FFF → 0 < d
      → At paper.clock c (0x8000 + n) false rs p
      → Untouched board c.counter c.line calls
      → all_clocks (machine paper calls p).trace ≡ p.stretch.clocks + more
      → ListRises calls p rs p.count d more
  unfolding machine
  list-rises [] p n d more e h a u m =
      record { early = λ l. (a.rises, a.line); due = λ l. absurd (omega arith) }
  list-rises (run j lent ∷ calls) p {rs} n d more e h a u m =
      go (paper.refuses_run j (length lent) p.state) (λ p n d more e h a m. list-rises calls p n d more e h a u m) m
    where
      go : (q : ℕ)
          → ((p : Point State Sample) (n d more : ℕ) → n + d ≡ 0x7FFF → 0 < d → At paper.clock c (0x8000 + n) false rs p
          → all_clocks (machine paper calls p).trace ≡ p.stretch.clocks + more → ListRises calls p rs p.count d more)
          → all_clocks (machine paper calls (machine_run paper.clock q j p)).trace ≡ p.stretch.clocks + more
          → ListRises calls (machine_run paper.clock q j p) rs p.count d more
      go zero ih m = by (ltb j d) refl
        where
          far : j ≤ more
          far = omega (arith, grows paper calls (ticks paper.clock j p), ticks-clocks paper.clock j p)

          by : (b : Bool) → ltb j d ≡ b → ListRises calls (ticks paper.clock j p) rs p.count d more
          by true t =
              let l = ltb-true j d t in
              let w = ih (ticks paper.clock j p) (n + j) (d - j) (more - j) (omega arith) (omega arith)
              (stays-clear paper.clock c j n p (omega arith) a)
              (omega (arith, ticks-clocks paper.clock j p, far)) in
              let k : (ticks paper.clock j p).count + (d - j) ≡ p.count + d = omega (arith, ticks-count paper.clock j p) in
              record {
                early = λ l. w.early (omega (arith, far));
                due = λ l.
                    (rw (← k) (w.due (omega arith)).0, (w.due (omega arith)).1);
              }
          by false t =
              let w = list-stays-up calls (ticks paper.clock j p)
              (raises-within paper.clock c j d n p e h (ltb-false j d t) a) u in
              record { early = λ l. absurd (omega (arith, far, ltb-false j d t)); due = λ l. w }
      go (suc q) ih m = ih p n d more e h a m
  list-rises (other b ∷ calls) p n d more e h a u m =
      let w = list-rises calls (from (other_of paper b p.state).state p.count) n d more e h
      (kept b p.state _ _ _ calls u a.counter a.line) u.1 (omega arith) in
      record {
        early = λ l. (rw ((w.early l).0, append-nil) a.rises, (w.early l).1);
        due = λ l. (rw ((w.due l).0, a.rises), (w.due l).1);
      }

  pub rises-in-time : RisesInTime board c.counter c.line
  rises-in-time first rest s n more e h f u m =
      record {
        early = λ l. (
          rw (plain (first ++ rest), plain first, b.rises-all, b.rises-first, (w.early l).0),
          rw (plain (first ++ rest), b.state-all) (w.early l).1,
        );
        due =
            λ l. (
              rw (plain (first ++ rest), plain first, b.rises-all, b.rises-first, (w.due l).0, ← k, append_assoc),
              rw (plain (first ++ rest), b.state-all) (w.due l).1,
            );
      }
    where
      plain : (calls : List (Call Sample Arg)) → observed board calls s ≡ machine paper calls (start s)
      plain calls = as-machine board paper keeps (record { one = λ n room s e. counter-once paper.clock c n s }) calls s

      b : Parted paper first rest (start s)
      b = parted paper first rest (start s)

      k : b.point.count ≡ all_clocks (machine paper first (start s)).trace
      k = omega (arith, b.count)

      clocks : all_clocks (machine paper rest b.point).trace ≡ b.point.stretch.clocks + more
      clocks = let g = rw (plain (first ++ rest), plain first) at m in omega (arith, g, b.clocks-first, b.clocks-all)

      w : ListRises rest b.point b.point.stretch.rises b.point.count (0x7FFF - n) more
      w =
          list-rises rest b.point n (0x7FFF - n) more (omega arith) (omega arith)
          (record { counter = rw (← b.state-first, ← plain first) e; line = rw (← b.state-first, ← plain first) f; rises = refl })
          u
          clocks
