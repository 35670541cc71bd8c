-- A call with a directory: refused where that is unfit, else as the call's own checks say.
use Prim.Native.Nat.{ℕ}
use mathlib.Core.Path.{◌≡◌, refl, sym, ap, ◌∙◌}
use mathlib.Core.Bool.{Bool, true, false, cond, not, ◌||◌}
use mathlib.Core.List.{List, []}
use mathlib.Core.Option.{Option}
use lib.Bits.{bit_or}
use lib.Dec.{ltb}
use lib.ListN.{length, replicate}
use borrow.Author.Tests.{eq-eqb, ne_eqb}
use Rattle.std.specs.Prelude.{Result, IsErrAnd}
use Rattle.refusals.specs.declared.Refusal.{Refusal}
use Rattle.refusals.specs.declared.Refusal.TheVariants.{State as Unranged}
use Rattle.refusals.specs.Refusal.{number_of, refusal_of}
use Rattle.refusals.proofs.Numbers.{numbered, errs}
use Rattle.memory.specs.Changes.{changes, prg_changes}
use Rattle.memory_bytes.specs.Bytes.{prg_entry, stored_at}
use Rattle.memory.specs.declared.layout.MemoryLayout.{MemoryLayout}
use Rattle.memory.specs.declared.page.Page.{Page}
use Rattle.board_state.specs.declared.Options.{Options}
use Rattle.board_state.specs.declared.State.{State}
use Rattle.board_state.specs.None.{no_state}
use Rattle.board_state.specs.State.{in_range}
use Rattle.call_refusals.specs.Refusals.{Check, first_of, unless_refused, unless_kept, cpu_checks, load_checks}
use Rattle.call_refusals.proofs.Laws.{refused-is, accepted-is, number_is}
use Rattle.call_cpu.specs.Calls.{WriteAnswer, refused_write, cpu_write, cpu_write_arena}
use Rattle.call_load.specs.Cartridge.{Loaded, load_answer, load_arena}
use Rattle.directory.specs.Block.{fits, free, holds}
use Rattle.directory.specs.Fit.{any, fit}
use Rattle.directory.specs.Calls.{register_refusal}
use Rattle.directory.specs.Drop.{dropped}
use Rattle.directory.proofs.Laws.Sound.{fit_length}
use Rattle.directory_touched.specs.Touched.{shown_by, touched}
use Rattle.directory_touched.proofs.Laws.{touched-same}
use Rattle.call_blocks.specs.Blocks.{with_directory, emptied, cpu_touched, cpu_write_answer, cpu_write_leaves, cpu_write_drops}
use Rattle.call_blocks.specs.Blocks.{register_checks, load_gives, load_leaves, load_drops}

module _ (d : List ℕ) (cs : List Check) where
  pub unfit-number : fit d ≡ false → first_of (with_directory d cs) ≡ 2
  unfolding first_of
  unfit-number e = rw e

  pub fit-number : fit d ≡ true → first_of (with_directory d cs) ≡ first_of cs
  unfolding first_of
  fit-number e = rw e

module _ {A : Type 0} (d : List ℕ) (cs : List Check) (r : ℕ → A) (a : A) where
  -- unfit
  pub given-unfit : fit d ≡ false → unless_refused (with_directory d cs) r a ≡ r 2
  given-unfit e = rw (unfit-number d cs e)

  -- fit, and the call's own checks refuse
  pub given-refused : fit d ≡ true → (first_of cs ≡ 0 → ⊥) → unless_refused (with_directory d cs) r a ≡ r (first_of cs)
  given-refused e h = rw (fit-number d cs e) (refused-is cs r a h)

  -- fit, and none of them does
  pub given-accepted : fit d ≡ true → first_of cs ≡ 0 → unless_refused (with_directory d cs) r a ≡ a
  given-accepted e z = rw (fit-number d cs e) (accepted-is cs r a z)

-- without own checks
pub given-fit : {A : Type 0} (d : List ℕ) (r : ℕ → A) (a : A) → fit d ≡ true → unless_refused (with_directory d []) r a ≡ a
unfolding first_of
given-fit d r a e = given-accepted d [] r a e refl

-- ---- what a call answers, and what it leaves of the arena and of the places: `own` are its own checks, `after` the arena that the call
-- without a directory leaves, and `drop` the places without the blocks that go; `call` is what that call answered and left

module _ (d : List ℕ) (own : List Check) (arena after drop : List ℕ) where
  abbrev Told : ℕ → List ℕ → List ℕ → Type 0
  Told q left places =
      (q ≡ first_of (with_directory d own)) × ((left ≡ unless_kept (with_directory d []) arena after)
      × (places ≡ unless_kept (with_directory d own) d drop))

  pub told-unfit : fit d ≡ false → Told 2 arena d
  told-unfit e = (sym (unfit-number d own e), (sym (given-unfit d [] (λ q. arena) after e), sym (given-unfit d own (λ q. d) drop e)))

  pub told-refused : fit d ≡ true → {q : ℕ} {left : List ℕ} → (q ≡ first_of own) × (left ≡ after) → (q ≡ 0 → ⊥) → Told q left d
  told-refused e call h = (
    call.0 ∙ sym (fit-number d own e),
    (call.1 ∙ sym (given-fit d (λ q. arena) after e), sym (given-refused d own (λ q. d) drop e (λ z. h (call.0 ∙ z)))),
  )

  pub told-accepted : fit d ≡ true → {q : ℕ} {left : List ℕ} → (q ≡ first_of own) × (left ≡ after) → q ≡ 0
      → {places : List ℕ} → places ≡ drop → Told 0 left places
  told-accepted e call z gone =
      let n = sym call.0 ∙ z in (
        sym (fit-number d own e ∙ n),
        (call.1 ∙ sym (given-fit d (λ q. arena) after e), gone ∙ sym (given-accepted d own (λ q. d) drop e n)),
      )

  -- the same as `?` hands it on: the directory's refusal, and the call's
  pub handed-unfit : {A : Type 0} (r : Result A Refusal) (q : Refusal) → IsErrAnd r (λ e. e ≡ q) → (q ≡ Unranged) × (fit d ≡ false)
      → Told (refusal_of r) arena d
  handed-unfit r q h unfit = rw (errs r q h, unfit.0) (told-unfit unfit.1)

  pub handed-refused : {A : Type 0} (r : Result A Refusal) (q : Refusal) → IsErrAnd r (λ e. e ≡ q) → fit d ≡ true → {left : List ℕ}
      → (number_of q ≡ first_of own) × (left ≡ after) → Told (refusal_of r) left d
  handed-refused r q h e call = rw (errs r q h) (told-refused e call (numbered q))

-- K5: where no entry changes, the blocks go over the pages that show the stored byte
pub stored-gone : (pages : List Page) (at : Option ℕ) (d : List ℕ) {mask : ℕ} {left : List ℕ} → mask ≡ shown_by pages at
    → left ≡ dropped mask d → left ≡ dropped (touched pages pages at) d
stored-gone pages at d is gone = gone ∙ ap (λ (x : ℕ). dropped x d) (is ∙ sym (touched-same pages at))

-- K6: all places of a fit directory
pub all-gone : (d : List ℕ) {left : List ℕ} → fit d ≡ true → left ≡ replicate (length d) 0 → left ≡ emptied
all-gone d e gone = gone ∙ ap (λ (k : ℕ). replicate k 0) (fit_length d e)

-- ---- registering

pub register-number : (d : List ℕ) (start len : ℕ) → first_of (register_checks d start len) ≡ register_refusal d start len
unfolding first_of register_refusal
register-number d start len =
    ap (λ (n : ℕ). cond (not (fit d)) 2 (cond (ltb start 0x4800) 8 (cond (not (fits start len)) 13 n)))
    (go (any (holds start) d || any free d))
  where
    go : (r : Bool) → ◌≡◌ {A = ℕ} (cond (not r) 14 0) (cond r 0 14)
    go true = refl
    go false = refl

-- ---- CPU write

abbrev refusal : WriteAnswer → ℕ
refusal w = w.refusal

-- the number that it answers is its checks'
pub write-number : (s : State) (arena : List ℕ) (addr v : ℕ) → (cpu_write s arena addr v).refusal ≡ first_of (cpu_checks s (length arena) addr)
unfolding cpu_write
write-number s arena addr v = number_is (cpu_checks s (length arena) addr) (refused_write s) _ refusal refl (λ q. refl)

-- the pages that it touches: its own mask, and those that show the stored byte
pub touched-written : (s : State) (arena : List ℕ) (addr v : ℕ) → first_of (cpu_checks s (length arena) addr) ≡ 0
    → bit_or (cpu_write s arena addr v).changed.prg.mask (shown_by s.memory.prg_pages (stored_at (prg_entry s.memory addr) addr))
    ≡ cpu_touched s addr v
unfolding cpu_write cpu_touched touched changes prg_changes
touched-written s arena addr v e = rw e

-- a state out of range is refused by the directory's number, whether that is fit or not
pub unranged : (d : List ℕ) (s : State) (arena : List ℕ) (addr v : ℕ) → in_range s ≡ false
    → (cpu_write_answer d s arena addr v ≡ refused_write s 2)
    × ((cpu_write_leaves d s arena addr v ≡ arena) × (cpu_write_drops d s arena addr v ≡ d))
unfolding first_of cpu_write cpu_write_arena cpu_write_answer cpu_write_leaves cpu_write_drops
unranged d s arena addr v e = go (fit d) refl
  where
    go : (f : Bool) → fit d ≡ f
        → (cpu_write_answer d s arena addr v ≡ refused_write s 2)
        × ((cpu_write_leaves d s arena addr v ≡ arena) × (cpu_write_drops d s arena addr v ≡ d))
    go true f = (rw (f, e), (rw (f, e), rw (f, e)))
    go false f = (rw f, (rw f, rw f))

-- ---- load

pub load-number : (mapper sub flags : ℕ) (known : Bool) (sizes : MemoryLayout) (options : Options) (len : ℕ)
    → (load_answer mapper sub flags known sizes options len).refusal ≡ first_of (load_checks mapper sizes len)
unfolding load_answer
load-number mapper sub flags known sizes options len =
    number_is (load_checks mapper sizes len) (λ q. record { refusal = q; state = no_state }) _ (λ (l : Loaded). l.refusal) refl (λ q. refl)

module _ (d : List ℕ) (mapper sub flags : ℕ) (known : Bool) (sizes : MemoryLayout) (options : Options) (arena : List ℕ) where
  abbrev Leaves : Loaded → List ℕ → List ℕ → Type 0
  Leaves l a p =
      (load_gives d mapper sub flags known sizes options (length arena) ≡ l)
      × ((load_leaves d mapper sizes arena ≡ a) × (load_drops d mapper sizes arena ≡ p))

  pub load-unfit : (length d ≡ 256 → ⊥) → Leaves (record { refusal = 2; state = no_state }) arena d
  unfolding first_of load_gives load_leaves load_drops
  load-unfit h = let e = ne_eqb (length d) 256 h in (rw e, (rw e, rw e))

  abbrev loaded : Loaded
  loaded = load_answer mapper sub flags known sizes options (length arena)

  pub load-refused : length d ≡ 256 → (first_of (load_checks mapper sizes (length arena)) ≡ 0 → ⊥)
      → Leaves loaded (load_arena mapper sizes arena) d
  unfolding first_of load_gives load_leaves load_drops
  load-refused long h =
      let e = eq-eqb (length d) 256 long in
      let n = ne_eqb (first_of (load_checks mapper sizes (length arena))) 0 h in
      (rw e, (rw e, rw (e, n)))

  pub load-accepted : length d ≡ 256 → first_of (load_checks mapper sizes (length arena)) ≡ 0
      → Leaves loaded (load_arena mapper sizes arena) emptied
  unfolding first_of load_gives load_leaves load_drops
  load-accepted long z = let e = eq-eqb (length d) 256 long in (rw e, (rw e, rw (e, z)))
