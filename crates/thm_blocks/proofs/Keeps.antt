-- C16, C17: the board with a directory keeps to its `Paper`.
use Prim.Native.Nat.{ℕ, zero, suc}
use mathlib.Core.Path.{◌≡◌, refl, sym, ap, ◌∙◌}
use mathlib.Core.Bool.{Bool, true, false, ◌||◌}
use mathlib.Core.List.{List}
use native.Mathlib.Omega.{arith}
use lib.Dec.{ltb}
use lib.Ieee.{Float}
use lib.ListN.{length}
use Rattle.cut.specs.Calls.{RunGave, Point, start}
use Rattle.cut.specs.Machine.{Answered, tick, ticks, plainly, other_of}
use Rattle.cut.specs.Contract.{run_by, run_of, Keeps}
use Rattle.call_refusals.specs.Refusals.{Check, first_of, unless_kept}
use Rattle.call_run.specs.Run.{run_checks}
use Rattle.directory.specs.Block.{fits, free, holds}
use Rattle.directory.specs.Fit.{any, fit}
use Rattle.directory.specs.Calls.{register_refusal, registered, word_at, lookup as lookup_gives}
use Rattle.call_blocks.specs.Blocks.{with_directory, cpu_write_answer, cpu_write_leaves, cpu_write_drops, chr_write_leaves, chr_write_drops}
use Rattle.call_blocks.specs.Blocks.{region_write_leaves, region_write_drops, fill_leaves, fill_drops, sync_leaves, sync_drops}
use Rattle.call_blocks.proofs.Laws.{unfit-number, fit-number, given-refused, given-accepted}
use Rattle.thm_machine.specs.Calls.{Held, Other, cpu_read, cpu_peek, cpu_write, chr_read, chr_write, fill, region_peek, region_write, sram}
use Rattle.thm_machine.specs.Calls.{reset, sync_battery, restore_battery, write_image, Answer}
use Rattle.thm_machine.specs.Paper.{clock, checks, answers}
use Rattle.thm_machine.specs.Board.{other_gives}
use Rattle.thm_machine.proofs.Keeps.{keeps, keeps-other}
use Rattle.thm_blocks.specs.Calls.{HeldBlocks, BlockCall, base, register, lookup}
use Rattle.thm_blocks.specs.Board.{leaving, handing_on, base_gives, block_gives, block_run, block_board}
use Rattle.thm_blocks.specs.Paper.{block_clock, takes, block_checks, places_after, block_answers, block_paper}

-- ---- clocks leave the places

placed : List ℕ → Point Held Float → Point HeldBlocks Float
placed d p = record { state = record { held = p.state; places = d }; count = p.count; stretch = p.stretch }

ticks-placed : (n : ℕ) (h : HeldBlocks) → ticks block_clock n (start h) ≡ placed h.places (ticks clock n (start h.held))
unfolding ticks tick block_clock placed
ticks-placed zero h = refl
ticks-placed (suc n) h = ap (tick block_clock) (ticks-placed n h)

keeps-run : (n : ℕ) (lent : List Float) (h : HeldBlocks) → block_run n lent h ≡ run_of block_paper n lent h
unfolding block_run placed
keeps-run n lent h = rw (keeps.run n lent h.held, ticks-placed n h) (go (first_of (run_checks h.held.state n (length lent))))
  where
    go : (q : ℕ)
        → let g = run_by q (ticks clock n (start h.held)) lent h.held in
        ◌≡◌ {A = RunGave HeldBlocks Float}
        (record {
          refusal = g.refusal;
          made = g.made;
          rise = g.rise;
          samples = g.samples;
          state = record { held = g.state; places = h.places };
        })
        (run_by q (placed h.places (ticks clock n (start h.held))) lent h)
    go zero = refl
    go (suc q) = refl

-- ---- the calls without a directory

-- a call by its number, with the places that it leaves
plain : (q : ℕ) (b : Answered Held Answer) (s : Held) (d left after : List ℕ) → (q ≡ 0 → left ≡ after) → ((q ≡ 0 → ⊥) → left ≡ d)
    → leaving left (plainly q b s)
    ≡ plainly q (record { answer = base b.answer; state = record { held = b.state; places = after } }) (record { held = s; places = d })
plain zero b s d left after y n = rw (y refl)
plain (suc q) b s d left after y n = rw (n (λ e. omega arith))

hands_on : (a : Other) (h : HeldBlocks) → takes a ≡ false → places_after a h.held h.places ≡ h.places
    → handing_on a h ≡ other_of block_paper (base a) h
unfolding block_checks block_answers
hands_on a h e p =
    rw (keeps-other a h.held, e)
    (plain (first_of (checks a h.held)) (answers a h.held) h.held h.places h.places _ (λ z. sym p) (λ z. refl))

-- ---- those with one

-- as the call without one, where the directory is fit; by the number 2 where it is not
taken : (a : Other) (h : HeldBlocks) → takes a ≡ true → (left : List ℕ)
    → left ≡ unless_kept (with_directory h.places (checks a h.held)) h.places (places_after a h.held h.places)
    → (fit h.places ≡ true → base_gives a h ≡ leaving left (other_gives a h.held))
    → (fit h.places ≡ false → base_gives a h ≡ plainly 2 (block_answers (base a) h) h)
    → base_gives a h ≡ other_of block_paper (base a) h
unfolding block_checks block_answers
taken a h e left l y n = by (fit h.places) refl
  where
    own : List Check
    own = checks a h.held

    by : (f : Bool) → fit h.places ≡ f → base_gives a h ≡ other_of block_paper (base a) h
    by true f =
        y f ∙ rw (keeps-other a h.held, e, fit-number h.places (checks a h.held) f)
        (plain (first_of (checks a h.held)) (answers a h.held) h.held h.places left _
        (λ z. l ∙ given-accepted h.places (checks a h.held) (λ q. h.places) _ f z)
        (λ z. l ∙ given-refused h.places (checks a h.held) (λ q. h.places) _ f z))
    by false f = n f ∙ rw (e, unfit-number h.places (checks a h.held) f)

keeps-base : (a : Other) (h : HeldBlocks) → base_gives a h ≡ other_of block_paper (base a) h
unfolding base_gives other_gives checks first_of cpu_write_answer cpu_write_leaves cpu_write_drops chr_write_leaves chr_write_drops region_write_leaves
    region_write_drops fill_leaves fill_drops sync_leaves sync_drops
keeps-base (cpu_read addr) h = hands_on (cpu_read addr) h refl refl
keeps-base (cpu_peek addr) h = hands_on (cpu_peek addr) h refl refl
keeps-base (cpu_write addr v) h = taken (cpu_write addr v) h refl _ refl (λ f. rw f) (λ f. rw f)
keeps-base (chr_read addr) h = hands_on (chr_read addr) h refl refl
keeps-base (chr_write addr v) h = taken (chr_write addr v) h refl _ refl (λ f. rw f) (λ f. rw f)
keeps-base (fill src bytes) h = taken (fill src bytes) h refl _ refl (λ f. rw f) (λ f. rw f)
keeps-base (region_peek src offset) h = hands_on (region_peek src offset) h refl refl
keeps-base (region_write src offset v) h = taken (region_write src offset v) h refl _ refl (λ f. rw f) (λ f. rw f)
keeps-base sram h = hands_on sram h refl refl
keeps-base (reset kind) h = hands_on (reset kind) h refl refl
keeps-base sync_battery h = taken sync_battery h refl _ refl (λ f. rw f) (λ f. rw f)
keeps-base restore_battery h = hands_on restore_battery h refl refl
keeps-base (write_image buffer) h = hands_on (write_image buffer) h refl refl

-- ---- registering and looking up

pub keeps-block : (a : BlockCall) (h : HeldBlocks) → block_gives a h ≡ other_of block_paper a h
unfolding block_gives block_checks block_answers first_of register_refusal registered lookup_gives
keeps-block (base a) h = keeps-base a h
keeps-block (register start len number) h =
    go (fit h.places) refl (ltb start 0x4800) refl (fits start len) refl (any (holds start) h.places || any free h.places) refl
  where
    go : (f : Bool) → fit h.places ≡ f → (l : Bool) → ltb start 0x4800 ≡ l → (b : Bool) → fits start len ≡ b → (r : Bool)
        → (any (holds start) h.places || any free h.places) ≡ r
        → block_gives (register start len number) h ≡ other_of block_paper (register start len number) h
    go false f l p b q r s = rw f
    go true f true p b q r s = rw (f, p)
    go true f false p false q r s = rw (f, p, q)
    go true f false p true q false s = rw (f, p, q, s)
    go true f false p true q true s = rw (f, p, q, s)
keeps-block (lookup start) h = go (fit h.places) refl (ltb start 0x4800) refl (free (word_at start h.places)) refl
  where
    go : (f : Bool) → fit h.places ≡ f → (l : Bool) → ltb start 0x4800 ≡ l → (e : Bool) → free (word_at start h.places) ≡ e
        → block_gives (lookup start) h ≡ other_of block_paper (lookup start) h
    go false f l p e q = rw f
    go true f true p e q = rw (f, p)
    go true f false p true q = rw (f, p, q)
    go true f false p false q = rw (f, p, q)

pub block-keeps : Keeps block_board block_paper
block-keeps = record { run = keeps-run; other = keeps-block }
