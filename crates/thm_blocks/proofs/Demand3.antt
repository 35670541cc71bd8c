-- D3.1 to D3.3 of the board with a directory: registering and looking up are among the calls, and the places are part of what is compared.
use Prim.Native.Nat.{ℕ, ◌+◌, ◌<◌}
use mathlib.Core.Path.{◌≡◌, refl, sym, subst, ap, ◌∙◌}
use mathlib.Core.Logic.{◌⊎◌, inl, inr}
use mathlib.Core.Bool.{Bool, true, false}
use mathlib.Core.List.{List, [], ◌∷◌, ◌++◌}
use lib.Ieee.{Float}
use Rattle.cut.specs.Calls.{Call, run, other, outline, all_clocks, start}
use Rattle.cut.specs.Counter.{Counter}
use Rattle.cut.specs.Machine.{machine}
use Rattle.cut.specs.Demand3.{observed, Demand3, FirstRise, Untouched}
use Rattle.cut.proofs.Demand3.{demand-3 as demand-3-of}
use Rattle.call_refusals.specs.Refusals.{first_of}
use Rattle.directory.specs.Fit.{fit}
use Rattle.call_blocks.specs.Blocks.{emptied, cpu_write_answer, cpu_write_leaves, chr_write_leaves, region_write_leaves, fill_leaves, sync_leaves}
use Rattle.thm_machine.specs.Calls.{Held, Other, cpu_read, cpu_peek, cpu_write, chr_read, chr_write, fill, region_peek, region_write, sram}
use Rattle.thm_machine.specs.Calls.{reset, sync_battery, restore_battery, write_image}
use Rattle.thm_machine.specs.Board.{other_gives}
use Rattle.thm_machine.specs.Start.{Loaded, loaded, zeroed}
use Rattle.thm_machine.specs.Counter.{counter_of, line_of, touches}
use Rattle.thm_machine.proofs.Start.{load-starts}
use Rattle.thm_machine.proofs.Touches.{untouched}
use Rattle.thm_machine.proofs.Counter.{counts, pends, rises}
use Rattle.thm_blocks.specs.Calls.{HeldBlocks, BlockCall, base, register, lookup}
use Rattle.thm_blocks.specs.Board.{base_gives, block_gives, block_board}
use Rattle.thm_blocks.specs.Paper.{block_clock, block_paper}
use Rattle.thm_blocks.proofs.Keeps.{block-keeps}

abbrev pub block_counter : HeldBlocks → ℕ
block_counter h = counter_of h.held

abbrev pub block_line : HeldBlocks → Bool
block_line h = line_of h.held

unfoldable counter : Counter block_paper.clock
unfolding block_clock
counter =
    record {
      counter = block_counter;
      line = block_line;
      counts = λ h. counts h.held;
      rises = λ h. rises h.held;
      pends = λ h. pends h.held;
    }

-- D3.3: the one theorem, about lists from every state, arena and directory
pub block-demand-3 : Demand3 block_board block_paper block_counter block_line
unfolding counter
block-demand-3 = demand-3-of block_board block_paper counter block-keeps

-- ---- from every load

-- C11, C19: what a host observes of any list from an accepted load with an empty directory is what the plain machine does
pub block-as-machine : (l : Loaded) (calls : List (Call Float BlockCall))
    → observed block_board calls (record { held = loaded l; places = emptied })
    ≡ machine block_paper calls (start (record { held = zeroed l; places = emptied }))
block-as-machine l calls =
    subst (λ (h : Held). observed block_board calls (record { held = h; places = emptied })
    ≡ machine block_paper calls (start (record { held = zeroed l; places = emptied }))) (sym (load-starts l))
    (block-demand-3.as-machine calls (record { held = zeroed l; places = emptied }))

-- D3.1: two lists with the same other calls and as many clocks in each stretch, places and all
pub block-cut-blind : (calls others : List (Call Float BlockCall)) (h : HeldBlocks)
    → outline (observed block_board calls h).trace ≡ outline (observed block_board others h).trace
    → ((observed block_board calls h).trace ≡ (observed block_board others h).trace)
    × ((observed block_board calls h).state ≡ (observed block_board others h).state)
block-cut-blind = block-demand-3.cut-blind

-- ---- D3.2

-- no call of the list writes or resets the counter
abbrev pub BlocksNoneTouch : List (Call Float BlockCall) → Type 0
BlocksNoneTouch [] = Unit {0}
BlocksNoneTouch (run n lent ∷ calls) = BlocksNoneTouch calls
BlocksNoneTouch (other (base a) ∷ calls) = (touches a ≡ false) × BlocksNoneTouch calls
BlocksNoneTouch (other (register start len number) ∷ calls) = BlocksNoneTouch calls
BlocksNoneTouch (other (lookup start) ∷ calls) = BlocksNoneTouch calls

-- what a base call leaves of state and arena is what it leaves without a directory, or what it was lent
abbrev Either : Other → HeldBlocks → Type 0
Either a h = ((base_gives a h).state.held ≡ (other_gives a h.held).state) ⊎ ((base_gives a h).state.held ≡ h.held)

by-fit : (a : Other) (h : HeldBlocks) → (fit h.places ≡ true → (base_gives a h).state.held ≡ (other_gives a h.held).state)
    → (fit h.places ≡ false → (base_gives a h).state.held ≡ h.held)
    → Either a h
by-fit a h y n = go (fit h.places) refl
  where
    go : (f : Bool) → fit h.places ≡ f → Either a h
    go true f = inl (y f)
    go false f = inr (n f)

either : (a : Other) (h : HeldBlocks) → Either a h
unfolding base_gives other_gives first_of cpu_write_answer cpu_write_leaves chr_write_leaves region_write_leaves fill_leaves sync_leaves
either (cpu_read addr) h = inl refl
either (cpu_peek addr) h = inl refl
either (cpu_write addr v) h = by-fit (cpu_write addr v) h (λ f. rw f) (λ f. rw f)
either (chr_read addr) h = inl refl
either (chr_write addr v) h = by-fit (chr_write addr v) h (λ f. rw f) (λ f. rw f)
either (fill src bytes) h = by-fit (fill src bytes) h (λ f. rw f) (λ f. rw f)
either (region_peek src offset) h = inl refl
either (region_write src offset v) h = by-fit (region_write src offset v) h (λ f. rw f) (λ f. rw f)
either sram h = inl refl
either (reset kind) h = inl refl
either sync_battery h = by-fit sync_battery h (λ f. rw f) (λ f. rw f)
either restore_battery h = inl refl
either (write_image buffer) h = inl refl

-- so a call that leaves counter and line without a directory leaves them with one
base-leaves : (a : Other) → touches a ≡ false → (h : HeldBlocks)
    → (block_counter (base_gives a h).state ≡ block_counter h) × (block_line (base_gives a h).state ≡ block_line h)
base-leaves a t h = go (either a h)
  where
    go : Either a h → (block_counter (base_gives a h).state ≡ block_counter h) × (block_line (base_gives a h).state ≡ block_line h)
    go (inl e) = let u = (untouched (other a ∷ []) (t, tt)).0 h.held in (ap counter_of e ∙ u.0, ap line_of e ∙ u.1)
    go (inr e) = (ap counter_of e, ap line_of e)

blocks-untouched : (calls : List (Call Float BlockCall)) → BlocksNoneTouch calls → Untouched block_board block_counter block_line calls
unfolding block_gives
blocks-untouched [] t = tt
blocks-untouched (run n lent ∷ calls) t = blocks-untouched calls t
blocks-untouched (other (base a) ∷ calls) t = (base-leaves a t.0, blocks-untouched calls t.1)
blocks-untouched (other (register start len number) ∷ calls) t = (λ h. (refl, refl), blocks-untouched calls t)
blocks-untouched (other (lookup start) ∷ calls) t = (λ h. (refl, refl), blocks-untouched calls t)

pub block-first-rise : (first rest : List (Call Float BlockCall)) (h : HeldBlocks) (n more : ℕ)
    → block_counter (observed block_board first h).state ≡ 0x8000 + n → n < 0x7FFF → block_line (observed block_board first h).state ≡ false
    → BlocksNoneTouch rest
    → all_clocks (observed block_board (first ++ rest) h).trace ≡ all_clocks (observed block_board first h).trace + more
    → FirstRise block_board block_counter block_line first rest h n more
block-first-rise first rest h n more e l f t m = block-demand-3.rises-in-time first rest h n more e l f (blocks-untouched rest t) m
