-- K9: what drops a block is exactly its causes: the test by touched pages holds where there is a `Cause`, both ways.
use Prim.Native.Nat.{ℕ, zero, suc, ◌/◌, ◌<◌}
use mathlib.Core.Path.{◌≡◌, refl, sym, ap, ◌∙◌}
use mathlib.Core.Bool.{Bool, true, false, not, ◌&&◌, ◌||◌}
use mathlib.Core.List.{List}
use mathlib.Core.Logic.{◌⊎◌, inl, inr}
use mathlib.Core.Option.{Option, some, none}
use native.Mathlib.Omega.{arith}
use native.Mathlib.Decide.{ℕ_discrete}
use borrow.Author.Tests.{eq-eqb, ne_eqb, eqb-true, eqb-false}
use lib.ListN.{length, get_or}
use Rattle.limits.proofs.Every.{and_left, and_right}
use Rattle.memory.specs.declared.page.Page.{Page}
use Rattle.memory.specs.Changes.{same}
use Rattle.memory.specs.Page.{has_bit, unmapped, offset_of}
use Rattle.call_cpu.specs.Calls.{write_register}
use Rattle.directory.specs.Block.{start_of, len_of, under}
use Rattle.directory.specs.Drop.{some_below, goes}
use Rattle.directory_touched.specs.Touched.{shows, touched_at, touched}
use Rattle.directory_touched.proofs.Laws.{bit-touched}
use Rattle.call_blocks.specs.Blocks.{cpu_touched, chr_touched, region_touched}
use Rattle.thm_machine.specs.Calls.{Other, cpu_read, cpu_peek, cpu_write, chr_read, chr_write, fill, region_peek, region_write, sram}
use Rattle.thm_machine.specs.Calls.{reset, sync_battery, restore_battery, write_image}
use Rattle.thm_blocks.specs.Calls.{HeldBlocks}
use Rattle.thm_blocks.specs.Cause.{stores_at, Cause, entry, stored, filled, synced}
use Rattle.thm_blocks.specs.Handed.{Typed}
use Rattle.thm_blocks.proofs.Lawful.{cause_by, typed-write}

-- ---- a number below n that passes

record Below (n : ℕ) (p : ℕ → Bool) : Type 0 where
  at : ℕ
  low : at < n
  passes : p at ≡ true

some-says : (n : ℕ) (p : ℕ → Bool) → some_below n p ≡ true → Below n p
unfolding some_below
some-says zero p e = let z : ◌≡◌ {A = ℕ} 0 1 = cc in absurd (omega arith)
some-says (suc n) p e = go (p n) refl e (some-says n p)
  where
    go : (b : Bool) → p n ≡ b → (b || some_below n p) ≡ true → (some_below n p ≡ true → Below n p) → Below (suc n) p
    go true q e ih = record { at = n; low = omega arith; passes = q }
    go false q e ih = let r = ih e in record { at = r.at; low = omega (arith, r.low); passes = r.passes }

says_some : (n : ℕ) (p : ℕ → Bool) (k : ℕ) → k < n → p k ≡ true → some_below n p ≡ true
unfolding some_below
says_some zero p k h e = absurd (omega arith)
says_some (suc n) p k h e = by (ℕ_discrete k n) (p n) refl (λ l. says_some n p k l e)
  where
    by : Dec (k ≡ n) → (b : Bool) → p n ≡ b → (k < n → some_below n p ≡ true) → (b || some_below n p) ≡ true
    by d true q ih = refl
    by (yes s) false q ih = let t : true ≡ false = sym e ∙ (ap p s ∙ q) in let z : ◌≡◌ {A = ℕ} 0 1 = cc in absurd (omega arith)
    by (no s) false q ih = ih (omega (arith, s))

-- ---- a touched page

module _ (old new : List Page) (at : Option ℕ) (lo : length old ≡ 64) (ln : length new ≡ 64) (start len : ℕ) where
  -- its entry changed, or it shows what was stored
  record Touches : Type 0 where
    k : ℕ
    low : k < 64
    beneath : under start len k ≡ true
    why : ((get_or new k unmapped).0 ≡ (get_or old k unmapped).0 → ⊥) ⊎ (shows (get_or old k unmapped) at ≡ true)

  goes-says : goes (touched old new at) start len ≡ true → Touches
  unfolding goes
  goes-says e =
      let r = some-says 64 (λ k. under start len k && has_bit k (touched old new at)) e in
      let k = r.at in
      let t : touched_at old new at k ≡ true =
      sym (bit-touched old new at k (lo ∙ sym ln) (rw lo r.low)) ∙ and_right (under start len k) (has_bit k (touched old new at))
      r.passes in
      record {
        k = k;
        low = r.low;
        beneath = and_left (under start len k) (has_bit k (touched old new at)) r.passes;
        why = go k (same (get_or old k unmapped) (get_or new k unmapped)) refl t;
      }
    where
      go : (k : ℕ) (b : Bool) → same (get_or old k unmapped) (get_or new k unmapped) ≡ b → (not b || shows (get_or old k unmapped) at) ≡ true
          → ((get_or new k unmapped).0 ≡ (get_or old k unmapped).0 → ⊥) ⊎ (shows (get_or old k unmapped) at ≡ true)
      go k false q t = inl (λ e. eqb-false (get_or old k unmapped).0 (get_or new k unmapped).0 q (sym e))
      go k true q t = inr t

  says-goes : (k : ℕ) → k < 64 → under start len k ≡ true → touched_at old new at k ≡ true → goes (touched old new at) start len ≡ true
  unfolding goes
  says-goes k h u t =
      says_some 64 (λ k. under start len k && has_bit k (touched old new at)) k h
      (rw (u, bit-touched old new at k (lo ∙ sym ln) (rw lo h)) t)

  changed-goes : (k : ℕ) → k < 64 → under start len k ≡ true → ((get_or new k unmapped).0 ≡ (get_or old k unmapped).0 → ⊥)
      → goes (touched old new at) start len ≡ true
  changed-goes k h u d = says-goes k h u (rw (ne_eqb (get_or old k unmapped).0 (get_or new k unmapped).0 (λ e. d (sym e))))

  shown-goes : (i k : ℕ) → at ≡ some i → k < 64 → under start len k ≡ true → offset_of (get_or old k unmapped) / 1024 ≡ i / 1024
      → goes (touched old new at) start len ≡ true
  shown-goes i k a h u s =
      says-goes k h u (rw (a, eq-eqb (offset_of (get_or old k unmapped) / 1024) (i / 1024) s)
      (or-true (not (same (get_or old k unmapped) (get_or new k unmapped)))))
    where
      or-true : (b : Bool) → (b || true) ≡ true
      or-true true = refl
      or-true false = refl

-- where an entry shows what was stored, a byte was
record Stored (p : Page) (at : Option ℕ) : Type 0 where
  i : ℕ
  is : at ≡ some i
  page : offset_of p / 1024 ≡ i / 1024

shows-says : (p : Page) (at : Option ℕ) → shows p at ≡ true → Stored p at
shows-says p none e = let z : ◌≡◌ {A = ℕ} 0 1 = cc in absurd (omega arith)
shows-says p (some i) e = record { i = i; is = refl; page = eqb-true (offset_of p / 1024) (i / 1024) e }

-- ---- both ways

module _ (h : HeldBlocks) (t : Typed h) (w : ℕ) where
  abbrev Why : Other → Type 0
  Why b = Cause b h (start_of w) (len_of w)

  stored-why : (b : Other) (at : Option ℕ) → stores_at b h.held ≡ at
      → Touches h.held.state.memory.prg_pages h.held.state.memory.prg_pages at t.prg t.prg (start_of w) (len_of w)
      → Why b
  stored-why b at e r = go r.why
    where
      go : ((get_or h.held.state.memory.prg_pages r.k unmapped).0 ≡ (get_or h.held.state.memory.prg_pages
          r.k unmapped).0 → ⊥)
          ⊎ (shows (get_or h.held.state.memory.prg_pages r.k unmapped) at ≡ true) → Why b
      go (inl d) = absurd (d refl)
      go (inr s) =
          let q = shows-says (get_or h.held.state.memory.prg_pages r.k unmapped) at s in
          stored q.i r.k (e ∙ q.is) r.low r.beneath q.page

  pub test-says : (b : Other) → cause_by b h.held w ≡ true → Why b
  unfolding cpu_touched chr_touched region_touched
  test-says (cpu_read addr) e = let z : ◌≡◌ {A = ℕ} 0 1 = cc in absurd (omega arith)
  test-says (cpu_peek addr) e = let z : ◌≡◌ {A = ℕ} 0 1 = cc in absurd (omega arith)
  test-says (cpu_write addr v) e =
      let s = h.held.state in
      let r = goes-says s.memory.prg_pages (write_register s addr v).memory.prg_pages _ t.prg (typed-write s addr v t).prg
      (start_of w) (len_of w) e in
      go r r.why
    where
      at : Option ℕ
      at = stores_at (cpu_write addr v) h.held

      go : (r : Touches h.held.state.memory.prg_pages (write_register h.held.state addr v).memory.prg_pages
          (stores_at (cpu_write addr v) h.held) t.prg (typed-write h.held.state addr v t).prg (start_of w) (len_of w))
          → ((get_or (write_register h.held.state addr v).memory.prg_pages r.k unmapped).0
          ≡ (get_or h.held.state.memory.prg_pages r.k unmapped).0 → ⊥)
          ⊎ (shows (get_or h.held.state.memory.prg_pages r.k unmapped) (stores_at (cpu_write addr v) h.held) ≡ true)
          → Why (cpu_write addr v)
      go r (inl d) = entry addr v r.k refl r.low r.beneath d
      go r (inr s) =
          let q = shows-says (get_or h.held.state.memory.prg_pages r.k unmapped) _ s in
          stored q.i r.k q.is r.low r.beneath q.page
  test-says (chr_read addr) e = let z : ◌≡◌ {A = ℕ} 0 1 = cc in absurd (omega arith)
  test-says (chr_write addr v) e = stored-why (chr_write addr v) _ refl (goes-says _ _ _ t.prg t.prg (start_of w) (len_of w) e)
  test-says (fill src bytes) e = filled src bytes refl
  test-says (region_peek src offset) e = let z : ◌≡◌ {A = ℕ} 0 1 = cc in absurd (omega arith)
  test-says (region_write src offset v) e =
      stored-why (region_write src offset v) _ refl (goes-says _ _ _ t.prg t.prg (start_of w) (len_of w) e)
  test-says sram e = let z : ◌≡◌ {A = ℕ} 0 1 = cc in absurd (omega arith)
  test-says (reset kind) e = let z : ◌≡◌ {A = ℕ} 0 1 = cc in absurd (omega arith)
  test-says sync_battery e = synced refl
  test-says restore_battery e = let z : ◌≡◌ {A = ℕ} 0 1 = cc in absurd (omega arith)
  test-says (write_image buffer) e = let z : ◌≡◌ {A = ℕ} 0 1 = cc in absurd (omega arith)

  -- a call that stores is one of three
  stores-test : (b : Other) (i k : ℕ) → stores_at b h.held ≡ some i → k < 64 → under (start_of w) (len_of w) k ≡ true
      → offset_of (get_or h.held.state.memory.prg_pages k unmapped) / 1024 ≡ i / 1024 → cause_by b h.held w ≡ true
  unfolding cpu_touched chr_touched region_touched
  stores-test (cpu_read addr) i k e l u p = let z : ◌≡◌ {A = ℕ} 0 1 = cc in absurd (omega arith)
  stores-test (cpu_peek addr) i k e l u p = let z : ◌≡◌ {A = ℕ} 0 1 = cc in absurd (omega arith)
  stores-test (cpu_write addr v) i k e l u p =
      shown-goes _ _ _ t.prg (typed-write h.held.state addr v t).prg (start_of w) (len_of w) i k e l u p
  stores-test (chr_read addr) i k e l u p = let z : ◌≡◌ {A = ℕ} 0 1 = cc in absurd (omega arith)
  stores-test (chr_write addr v) i k e l u p = shown-goes _ _ _ t.prg t.prg (start_of w) (len_of w) i k e l u p
  stores-test (fill src bytes) i k e l u p = let z : ◌≡◌ {A = ℕ} 0 1 = cc in absurd (omega arith)
  stores-test (region_peek src offset) i k e l u p = let z : ◌≡◌ {A = ℕ} 0 1 = cc in absurd (omega arith)
  stores-test (region_write src offset v) i k e l u p = shown-goes _ _ _ t.prg t.prg (start_of w) (len_of w) i k e l u p
  stores-test sram i k e l u p = let z : ◌≡◌ {A = ℕ} 0 1 = cc in absurd (omega arith)
  stores-test (reset kind) i k e l u p = let z : ◌≡◌ {A = ℕ} 0 1 = cc in absurd (omega arith)
  stores-test sync_battery i k e l u p = let z : ◌≡◌ {A = ℕ} 0 1 = cc in absurd (omega arith)
  stores-test restore_battery i k e l u p = let z : ◌≡◌ {A = ℕ} 0 1 = cc in absurd (omega arith)
  stores-test (write_image buffer) i k e l u p = let z : ◌≡◌ {A = ℕ} 0 1 = cc in absurd (omega arith)

  pub says-test : (b : Other) → Why b → cause_by b h.held w ≡ true
  unfolding cpu_touched
  says-test b (entry addr v k e l u d) =
      rw e (changed-goes _ _ _ t.prg (typed-write h.held.state addr v t).prg (start_of w) (len_of w) k l u d)
  says-test b (stored i k e l u p) = stores-test b i k e l u p
  says-test b (filled src bytes e) = rw e
  says-test b (synced e) = rw e
