-- The board with a directory as a machine of crates/handed, and what has to be shown of each of its calls.
use Prim.Native.Nat.{ℕ, zero, suc, ◌+◌, ◌%◌, ◌^◌, ◌≤◌, ◌<◌}
use mathlib.Core.Path.{◌≡◌, refl, sym, ap₂, ◌∙◌}
use mathlib.Core.Bool.{Bool, true, false, cond, ◌&&◌}
use mathlib.Core.List.{List, ◌∷◌}
use native.Mathlib.Omega.{arith}
use native.Mathlib.Decide.{ℕ_discrete}
use borrow.Author.Tests.{eq-eqb, ne_eqb, eqb-true}
use lib.Dec.{eqb}
use lib.Ieee.{Float}
use lib.ListN.{length, get_or, replicate}
use Rattle.limits.proofs.Every.{and_left, and_right}
use Rattle.limits.proofs.Each.{cond-holds}
use Rattle.cut.specs.Calls.{Call, run, other}
use Rattle.memory.specs.Range.{MemoryTyped}
use Rattle.memory.specs.Page.{unmapped, offset_of}
use Rattle.memory_bytes.specs.Bytes.{prg_peek}
use Rattle.board_registers.specs.Writes.{write_chip}
use Rattle.board_protection.specs.Protection.{remaps_in}
use Rattle.board_state.specs.declared.State.{State}
use Rattle.board_state.specs.State.{in_range}
use Rattle.board_state.proofs.Range.{memory-good}
use Rattle.call_refusals.specs.Refusals.{first_of}
use Rattle.call_refusals.proofs.Laws.{arena-good, cpu-good}
use Rattle.call_cpu.specs.Calls.{write_register}
use Rattle.directory.specs.Block.{start_of, len_of, word_of, holds}
use Rattle.directory.specs.Fit.{fit}
use Rattle.directory.specs.Calls.{register_refusal, registered, word_at}
use Rattle.directory.specs.Drop.{goes, kept, dropped}
use Rattle.directory.proofs.Laws.Pages.{fits-says}
use Rattle.directory.proofs.Laws.Sound.{fit-sound}
use Rattle.directory.proofs.Laws.Registered.{accepted as register-accepted, registered-fit, word-registered}
use Rattle.directory.proofs.Laws.Dropped.{dropped-fit, word-dropped, kept_goes, kept-stays, word_fits}
use Rattle.directory_touched.proofs.Laws.{held_bytes}
use Rattle.call_blocks.specs.Blocks.{with_directory, emptied, cpu_touched, chr_touched, region_touched}
use Rattle.call_blocks.proofs.Laws.{unfit-number, fit-number}
use Rattle.handed.specs.Handed.{Kind, registers, other as another, Machine, Lawful}
use Rattle.thm_machine.specs.Calls.{Held, Other, cpu_read, cpu_peek, cpu_write, chr_read, chr_write, fill, region_peek, region_write, sram}
use Rattle.thm_machine.specs.Calls.{reset, sync_battery, restore_battery, write_image}
use Rattle.thm_machine.specs.Paper.{checks, answers}
use Rattle.thm_machine.specs.Board.{run_gives}
use Rattle.thm_range.proofs.Calls.{run-memory}
use Rattle.thm_steps.proofs.Protection.{remap-banks-kept}
use Rattle.thm_work_ram.proofs.Lists.{none-served}
use Rattle.thm_blocks.specs.Calls.{HeldBlocks, BlockCall, base, register, lookup, NumberTyped}
use Rattle.thm_blocks.specs.Board.{block_gives, block_run}
use Rattle.thm_blocks.specs.Paper.{takes, block_checks, places_after, block_answers}
use Rattle.thm_blocks.specs.Cause.{word, bytes_from, bytes, accepted}
use Rattle.thm_blocks.specs.Handed.{Typed}
use Rattle.thm_blocks.proofs.Keeps.{block-keeps}

-- ---- the machine

abbrev pub one : Call Float BlockCall → HeldBlocks → HeldBlocks
one (run n lent) h = (block_run n lent h).state
one (other a) h = (block_gives a h).state

abbrev pub kind_of : Call Float BlockCall → HeldBlocks → Kind
kind_of (run n lent) h = another
kind_of (other (base a)) h = another
kind_of (other (register s l n)) h = cond (eqb (register_refusal h.places s l) 0) (registers s (word_of s l n)) another
kind_of (other (lookup s)) h = another

-- whether an accepted call is a cause for the block of a word
abbrev pub cause_by : Other → Held → ℕ → Bool
cause_by (cpu_read addr) h w = false
cause_by (cpu_peek addr) h w = false
cause_by (cpu_write addr v) h w = goes (cpu_touched h.state addr v) (start_of w) (len_of w)
cause_by (chr_read addr) h w = false
cause_by (chr_write addr v) h w = goes (chr_touched h.state addr) (start_of w) (len_of w)
cause_by (fill src bytes) h w = true
cause_by (region_peek src offset) h w = false
cause_by (region_write src offset v) h w = goes (region_touched h.state src offset) (start_of w) (len_of w)
cause_by sram h w = false
cause_by (reset kind) h w = false
cause_by sync_battery h w = true
cause_by restore_battery h w = false
cause_by (write_image buffer) h w = false

abbrev pub causes : Call Float BlockCall → HeldBlocks → ℕ → Bool
causes (run n lent) h w = false
causes (other (base a)) h w = accepted (base a) h && cause_by a h.held w
causes (other (register s l n)) h w = false
causes (other (lookup s)) h w = false

abbrev pub blocks : Machine HeldBlocks (Call Float BlockCall)
blocks = record { after = one; kind = kind_of; word = word; bytes = bytes; cause = causes }

-- ---- a base call, by its number

-- what an accepted one leaves
abbrev left : Other → HeldBlocks → HeldBlocks
left a h = record { held = (answers a h.held).state; places = places_after a h.held h.places }

pub base-accepted : (a : Other) (h : HeldBlocks) → accepted (base a) h ≡ true → (block_gives (base a) h).state ≡ left a h
unfolding block_answers
base-accepted a h e = rw (block-keeps.other (base a) h, eqb-true (first_of (block_checks (base a) h)) 0 e)

pub base-refused : (a : Other) (h : HeldBlocks) → accepted (base a) h ≡ false → (block_gives (base a) h).state ≡ h
base-refused a h e = rw (block-keeps.other (base a) h) (go (first_of (block_checks (base a) h)) e)
  where
    go : (q : ℕ) → eqb q 0 ≡ false → (Rattle.cut.specs.Machine.plainly q (block_answers (base a) h) h).state ≡ h
    go zero e = let z : ◌≡◌ {A = ℕ} 0 1 = cc in absurd (omega arith)
    go (suc q) e = refl

-- an accepted call that takes the directory found it fit, and its own checks passed
module _ (a : Other) (h : HeldBlocks) (t : takes a ≡ true) (e : accepted (base a) h ≡ true) where
  number : first_of (with_directory h.places (checks a h.held)) ≡ 0
  unfolding block_checks
  number = rw t at (eqb-true (first_of (block_checks (base a) h)) 0 e)

  taken-fit : fit h.places ≡ true
  taken-fit = go (fit h.places) refl
    where
      go : (f : Bool) → fit h.places ≡ f → fit h.places ≡ true
      go true f = f
      go false f =
          let z : ◌≡◌ {A = ℕ} 0 2 = sym number ∙ unfit-number h.places (checks a h.held) f in absurd (omega arith)

  taken_own : first_of (checks a h.held) ≡ 0
  taken_own = sym (fit-number h.places (checks a h.held) taken-fit) ∙ number

-- ---- bytes

from-same : (n a : ℕ) (g h : HeldBlocks) → 0x6000 ≤ a
    → ((x : ℕ) → a ≤ x → x < a + n
    → prg_peek g.held.arena g.held.state.memory x ≡ prg_peek h.held.arena h.held.state.memory x)
    → bytes_from n a g ≡ bytes_from n a h
from-same zero a g h lo e = refl
from-same (suc n) a g h lo e =
    ap₂ ◌∷◌
    (rw (none-served g.held.state.chip a lo, none-served h.held.state.chip a lo) (e a (omega arith) (omega arith)))
    (from-same n (a + 1) g h (omega arith) (λ x p q. e x (omega arith) (omega arith)))

-- of a block that a fit directory holds
module _ (a : ℕ) (g h : HeldBlocks) where
  held_same : fit h.places ≡ true
      → ((start len : ℕ) → start + len ≤ 0x10000 → start ≡ start_of (word_at a h.places) → len ≡ len_of (word_at a h.places)
      → (x : ℕ) → start ≤ x → x < start + len
      → prg_peek g.held.arena g.held.state.memory x ≡ prg_peek h.held.arena h.held.state.memory x)
      → bytes (word_at a h.places) g ≡ bytes (word_at a h.places) h
  held_same f e = by (ℕ_discrete (word_at a h.places) 0)
    where
      by : Dec (word_at a h.places ≡ 0) → bytes (word_at a h.places) g ≡ bytes (word_at a h.places) h
      by (yes z) = rw z
      by (no n) =
          let w = word_at a h.places in
          let b = fits-says (start_of w) (len_of w) (word_fits a h.places (fit-sound h.places f) n) in
          from-same (len_of w) (start_of w) g h b.from (e (start_of w) (len_of w) b.to refl refl)

  -- memory and arena are the same
  unmoved : fit h.places ≡ true → g.held.state.memory ≡ h.held.state.memory → g.held.arena ≡ h.held.arena
      → bytes (word_at a h.places) g ≡ bytes (word_at a h.places) h
  unmoved f m n = held_same f (λ s l k i j x p q. rw (m, n))

-- what a lookup hands out where the places are the same
word_same : (a : ℕ) (g h : HeldBlocks) → g.places ≡ h.places → word a g ≡ word a h
word_same a g h e = rw e

-- a call that leaves memory, arena and places
abbrev Stays : ℕ → HeldBlocks → HeldBlocks → Type 0
Stays a g h = (word a g ≡ word a h) × (bytes (word a h) g ≡ bytes (word a h) h)

still : (a : ℕ) (g h : HeldBlocks) → g.places ≡ h.places → g.held.state.memory ≡ h.held.state.memory
    → g.held.arena ≡ h.held.arena → Stays a g h
still a g h p m n = (word_same a g h p, go (fit h.places) refl)
  where
    go : (f : Bool) → fit h.places ≡ f → bytes (word a h) g ≡ bytes (word a h) h
    go true f = rw f (unmoved a g h f m n)
    go false f = rw f

-- ---- a write that drops

-- the page tables are typed, and the entries of a state in range are page starts
starts : (s : State) → in_range s ≡ true → (k : ℕ) → k < 64 → offset_of (get_or s.memory.prg_pages k unmapped) % 1024 ≡ 0
starts s e k h = ((memory-good s e).ranged.prg k h).page_start

pub typed-write : (s : State) (addr v : ℕ) → MemoryTyped s.memory → MemoryTyped (write_register s addr v).memory
unfolding write_register
typed-write s addr v t =
    let protects = s.f800_protects in
    let n = write_chip s.chip addr v in
    cond-holds MemoryTyped (remaps_in protects s.chip.board n.board addr) _ _ ((remap-banks-kept protects n s.memory).typed t) t

-- a call that leaves the tables `new` and stores at `at`, and drops by them: of the block of a, that it goes or stays
module _ (a t : ℕ) (g h : HeldBlocks) (f : fit h.places ≡ true) (p : g.places ≡ dropped t h.places) where
  word-left : word a g ≡ kept t (word_at a h.places)
  word-left = rw (p, dropped-fit t h.places f) (word-dropped a t h.places (fit-sound h.places f))

  drop-goes : goes t (start_of (word a h)) (len_of (word a h)) ≡ true → word a g ≡ 0
  drop-goes e =
      let e' : goes t (start_of (word_at a h.places)) (len_of (word_at a h.places)) ≡ true = rw f at e in
      word-left ∙ kept_goes t (word_at a h.places) e'

  drop-stays : goes t (start_of (word a h)) (len_of (word a h)) ≡ false
      → ((start len : ℕ) → start + len ≤ 0x10000 → goes t start len ≡ false → (x : ℕ) → start ≤ x → x < start + len
      → prg_peek g.held.arena g.held.state.memory x ≡ prg_peek h.held.arena h.held.state.memory x)
      → Stays a g h
  drop-stays e same =
      let w = word_at a h.places in
      let e' : goes t (start_of w) (len_of w) ≡ false = rw f at e in (
        rw f (word-left ∙ kept-stays t w e'),
        rw f (held_same a g h f (λ s l k i j. same s l k (rw (i, j) e'))),
      )

-- ---- all blocks go

empty-word : (n a : ℕ) → ◌≡◌ {A = ℕ} (word_at a (replicate n 0)) 0
unfolding word_at holds
empty-word zero a = refl
empty-word (suc n) a = empty-word n a

pub emptied-word : (a : ℕ) (h : HeldBlocks) → h.places ≡ emptied → word a h ≡ 0
emptied-word a h e = rw e (go (fit emptied))
  where
    go : (b : Bool) → ◌≡◌ {A = ℕ} (cond b (word_at a emptied) 0) 0
    go true = empty-word 256 a
    go false = refl

-- ---- what each accepted call does with the block of a start

module _ (h : HeldBlocks) (a : ℕ) where
  -- by what it leaves
  accepted-goes : (b : Other) → accepted (base b) h ≡ true → cause_by b h.held (word a h) ≡ true → word a (left b h) ≡ 0
  unfolding answers
  accepted-goes (cpu_read addr) e g = let z : ◌≡◌ {A = ℕ} 0 1 = cc in absurd (omega arith)
  accepted-goes (cpu_peek addr) e g = let z : ◌≡◌ {A = ℕ} 0 1 = cc in absurd (omega arith)
  accepted-goes (cpu_write addr v) e g =
      drop-goes a (cpu_touched h.held.state addr v) (left (cpu_write addr v) h) h (taken-fit (cpu_write addr v) h refl e) refl g
  accepted-goes (chr_read addr) e g = let z : ◌≡◌ {A = ℕ} 0 1 = cc in absurd (omega arith)
  accepted-goes (chr_write addr v) e g =
      drop-goes a (chr_touched h.held.state addr) (left (chr_write addr v) h) h (taken-fit (chr_write addr v) h refl e) refl g
  accepted-goes (fill src bytes) e g = emptied-word a (left (fill src bytes) h) refl
  accepted-goes (region_peek src offset) e g = let z : ◌≡◌ {A = ℕ} 0 1 = cc in absurd (omega arith)
  accepted-goes (region_write src offset v) e g =
      drop-goes a (region_touched h.held.state src offset) (left (region_write src offset v) h) h
      (taken-fit (region_write src offset v) h refl e) refl g
  accepted-goes sram e g = let z : ◌≡◌ {A = ℕ} 0 1 = cc in absurd (omega arith)
  accepted-goes (reset kind) e g = let z : ◌≡◌ {A = ℕ} 0 1 = cc in absurd (omega arith)
  accepted-goes sync_battery e g = emptied-word a (left sync_battery h) refl
  accepted-goes restore_battery e g = let z : ◌≡◌ {A = ℕ} 0 1 = cc in absurd (omega arith)
  accepted-goes (write_image buffer) e g = let z : ◌≡◌ {A = ℕ} 0 1 = cc in absurd (omega arith)

  accepted-stays : (b : Other) → Typed h → accepted (base b) h ≡ true → cause_by b h.held (word a h) ≡ false → Stays a (left b h) h
  unfolding answers checks cpu_touched chr_touched region_touched
  accepted-stays (cpu_read addr) t e g = still a (left (cpu_read addr) h) h refl refl refl
  accepted-stays (cpu_peek addr) t e g = still a (left (cpu_peek addr) h) h refl refl refl
  accepted-stays (cpu_write addr v) t e g =
      let s = h.held.state in
      let good = (cpu-good s (length h.held.arena) addr (taken_own (cpu_write addr v) h refl e)).0 in
      drop-stays a (cpu_touched s addr v) (left (cpu_write addr v) h) h (taken-fit (cpu_write addr v) h refl e) refl g
      (held_bytes s.memory.prg_pages (write_register s addr v).memory.prg_pages _ h.held.arena v t.prg
      (typed-write s addr v t).prg (starts s good.good))
  accepted-stays (chr_read addr) t e g = still a (left (chr_read addr) h) h refl refl refl
  accepted-stays (chr_write addr v) t e g =
      let s = h.held.state in
      let good = arena-good s (length h.held.arena) (taken_own (chr_write addr v) h refl e) in
      drop-stays a (chr_touched s addr) (left (chr_write addr v) h) h (taken-fit (chr_write addr v) h refl e) refl g
      (held_bytes s.memory.prg_pages s.memory.prg_pages _ h.held.arena v t.prg t.prg (starts s good.good))
  accepted-stays (fill src bytes) t e g = let z : ◌≡◌ {A = ℕ} 0 1 = cc in absurd (omega arith)
  accepted-stays (region_peek src offset) t e g = still a (left (region_peek src offset) h) h refl refl refl
  accepted-stays (region_write src offset v) t e g =
      let s = h.held.state in
      let good = arena-good s (length h.held.arena) (taken_own (region_write src offset v) h refl e) in
      drop-stays a (region_touched s src offset) (left (region_write src offset v) h) h (taken-fit (region_write src offset v) h refl e) refl g
      (held_bytes s.memory.prg_pages s.memory.prg_pages _ h.held.arena v t.prg t.prg (starts s good.good))
  accepted-stays sram t e g = still a (left sram h) h refl refl refl
  accepted-stays (reset kind) t e g = still a (left (reset kind) h) h refl refl refl
  accepted-stays sync_battery t e g = let z : ◌≡◌ {A = ℕ} 0 1 = cc in absurd (omega arith)
  accepted-stays restore_battery t e g = still a (left restore_battery h) h refl refl refl
  accepted-stays (write_image buffer) t e g = still a (left (write_image buffer) h) h refl refl refl

-- and with the page tables
accepted-typed : (b : Other) (h : HeldBlocks) → Typed h → Typed (left b h)
unfolding answers
accepted-typed (cpu_read addr) h t = t
accepted-typed (cpu_peek addr) h t = t
accepted-typed (cpu_write addr v) h t = typed-write h.held.state addr v t
accepted-typed (chr_read addr) h t = t
accepted-typed (chr_write addr v) h t = t
accepted-typed (fill src bytes) h t = t
accepted-typed (region_peek src offset) h t = t
accepted-typed (region_write src offset v) h t = t
accepted-typed sram h t = t
accepted-typed (reset kind) h t = t
accepted-typed sync_battery h t = t
accepted-typed restore_battery h t = t
accepted-typed (write_image buffer) h t = t

-- ---- the laws

registering : (s l n : ℕ) (h : HeldBlocks) → n < 2 ^ 32 → (s' w : ℕ) → kind_of (other (register s l n)) h ≡ registers s' w → (a : ℕ)
    → word a (one (other (register s l n)) h) ≡ cond (eqb a s') w (word a h)
unfolding block_gives
registering s l n h q s' w e a = by (ℕ_discrete (register_refusal h.places s l) 0)
  where
    by : Dec (register_refusal h.places s l ≡ 0) → word a (one (other (register s l n)) h) ≡ cond (eqb a s') w (word a h)
    by (yes r) =
        let k : registers s (word_of s l n) ≡ registers s' w = rw (eq-eqb (register_refusal h.places s l) 0 r) at e in
        let es : s ≡ s' = cc in let ew : word_of s l n ≡ w = cc in
        let was = register-accepted h.places s l r in
        let p : s < 2 ^ 16 = omega (arith, (fits-says s l was.block).to, (fits-says s l was.block).some) in
        rw (registered-fit h.places s l n p q was.fit-before, was.fit-before, ← es, ← ew)
        (word-registered h.places s l n p q r a)
    by (no r) =
        let k : another ≡ registers s' w = rw (ne_eqb (register_refusal h.places s l) 0 r) at e in
        let z : ◌≡◌ {A = ℕ} 0 1 = cc in absurd (omega arith)

pub unregistered : (s l n : ℕ) (h : HeldBlocks) → kind_of (other (register s l n)) h ≡ another → registered h.places s l n ≡ h.places
unfolding registered
unregistered s l n h e = by (ℕ_discrete (register_refusal h.places s l) 0)
  where
    by : Dec (register_refusal h.places s l ≡ 0) → registered h.places s l n ≡ h.places
    by (yes r) =
        let k : registers s (word_of s l n) ≡ another = rw (eq-eqb (register_refusal h.places s l) 0 r) at e in
        let z : ◌≡◌ {A = ℕ} 0 1 = cc in absurd (omega arith)
    by (no r) = rw (ne_eqb (register_refusal h.places s l) 0 r)

ran : (n : ℕ) (lent : List Float) (h : HeldBlocks) → (one (run n lent) h).held.arena ≡ h.held.arena
unfolding block_run run_gives
ran n lent h = refl

ran-memory : (n : ℕ) (lent : List Float) (h : HeldBlocks) → (one (run n lent) h).held.state.memory ≡ h.held.state.memory
unfolding block_run
ran-memory n lent h = run-memory n lent h.held

pub ran-places : (n : ℕ) (lent : List Float) (h : HeldBlocks) → (one (run n lent) h).places ≡ h.places
unfolding block_run
ran-places n lent h = refl

pub lawful : Lawful blocks Typed NumberTyped
unfolding block_gives
lawful = record { keeps = keeps; registered = on-register; goes = on-goes; stays = on-stays }
  where
    keeps : (c : Call Float BlockCall) (h : HeldBlocks) → NumberTyped c → Typed h → Typed (one c h)
    keeps (run n lent) h c t = rw (ran-memory n lent h) t
    keeps (other (base b)) h c t = by (accepted (base b) h) refl
      where
        by : (x : Bool) → accepted (base b) h ≡ x → Typed (one (other (base b)) h)
        by true e = rw (base-accepted b h e) (accepted-typed b h t)
        by false e = rw (base-refused b h e) t
    keeps (other (register s l n)) h c t = t
    keeps (other (lookup s)) h c t = t

    on-register : (c : Call Float BlockCall) (h : HeldBlocks) (s w : ℕ) → NumberTyped c → kind_of c h ≡ registers s w
        → ((a : ℕ) → word a (one c h) ≡ cond (eqb a s) w (word a h)) × ((v : ℕ) → bytes v (one c h) ≡ bytes v h)
    on-register (run n lent) h s w c e = let z : ◌≡◌ {A = ℕ} 0 1 = cc in absurd (omega arith)
    on-register (other (base b)) h s w c e = let z : ◌≡◌ {A = ℕ} 0 1 = cc in absurd (omega arith)
    on-register (other (register s' l n)) h s w c e = (registering s' l n h c s w e, λ v. same (len_of v) (start_of v))
      where
        same : (m a : ℕ) → bytes_from m a (one (other (register s' l n)) h) ≡ bytes_from m a h
        same zero a = refl
        same (suc m) a = ap₂ ◌∷◌ refl (same m (a + 1))
    on-register (other (lookup s')) h s w c e = let z : ◌≡◌ {A = ℕ} 0 1 = cc in absurd (omega arith)

    on-goes : (c : Call Float BlockCall) (h : HeldBlocks) (a : ℕ) → kind_of c h ≡ another → causes c h (word a h) ≡ true
        → word a (one c h) ≡ 0
    on-goes (run n lent) h a k e = let z : ◌≡◌ {A = ℕ} 0 1 = cc in absurd (omega arith)
    on-goes (other (base b)) h a k e =
        let y = and_left (accepted (base b) h) (cause_by b h.held (word a h)) e in
        rw (base-accepted b h y) (accepted-goes h a b y (and_right (accepted (base b) h) (cause_by b h.held (word a h)) e))
    on-goes (other (register s l n)) h a k e = let z : ◌≡◌ {A = ℕ} 0 1 = cc in absurd (omega arith)
    on-goes (other (lookup s)) h a k e = let z : ◌≡◌ {A = ℕ} 0 1 = cc in absurd (omega arith)

    on-stays : (c : Call Float BlockCall) (h : HeldBlocks) (a : ℕ) → Typed h → kind_of c h ≡ another → causes c h (word a h) ≡ false
        → Stays a (one c h) h
    on-stays (run n lent) h a t k e = still a (one (run n lent) h) h (ran-places n lent h) (ran-memory n lent h) (ran n lent h)
    on-stays (other (base b)) h a t k e = by (accepted (base b) h) refl e
      where
        by : (x : Bool) → accepted (base b) h ≡ x → (x && cause_by b h.held (word a h)) ≡ false → Stays a (one (other (base b)) h) h
        by true y e = rw (base-accepted b h y) (accepted-stays h a b t y e)
        by false y e = rw (base-refused b h y) (refl, refl)
    on-stays (other (register s l n)) h a t k e =
        still a (one (other (register s l n)) h) h (unregistered s l n h k) refl refl
    on-stays (other (lookup s)) h a t k e = (refl, refl)
