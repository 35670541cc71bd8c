-- The calls with a directory: refused by the image, or on to the call on its state; and a search without tests beside a lookup.
use Prim.Native.Nat.{ℕ, ◌≤◌}
use mathlib.Core.Path.{◌≡◌, refl, sym, ap, subst, ◌∙◌}
use mathlib.Core.Bool.{Bool, true, false, cond, not}
use mathlib.Core.List.{List, [], ◌∷◌, ◌++◌}
use native.Mathlib.Omega.{arith}
use native.Mathlib.Decide.{ℕ_discrete}
use borrow.Author.Rules.{rules}
use borrow.Author.Tests.{eq-eqb, ne_eqb}
use lib.Dec.{eqb, ltb}
use lib.ListN.{length}
use Rattle.memory.specs.declared.layout.MemoryLayout.{MemoryLayout}
use Rattle.board_state.specs.declared.Options.{Options}
use Rattle.board_state.specs.declared.State.{State}
use Rattle.board_state.specs.State.{Known}
use Rattle.board_state.proofs.Range.{known-passes}
use Rattle.call_refusals.specs.Refusals.{Check, first_of, unless_refused, unless_kept, state_check, cpu_checks, load_checks}
use Rattle.call_refusals.proofs.Laws.{Numbered, accepted-none, first_more, first_done, refused-is, accepted-is}
use Rattle.call_load.specs.Cartridge.{Loaded}
use Rattle.call_load.specs.Cartridge.{load_answer, load_arena}
use Rattle.image_write.specs.Options.{room_for}
use Rattle.image_write.specs.Writing.{room_check}
use Rattle.image_read.specs.Reading.{ReadImage, read_image, state_in}
use Rattle.image_read.proofs.RoundTrip.{read_known}
use Rattle.thm_range.proofs.Refused.{load-refused}
use Rattle.directory.specs.Fit.{fit}
use Rattle.directory.specs.Drop.{dropped}
use Rattle.directory.specs.Calls.{word_at, refused_lookup, found_of, lookup}
use Rattle.directory.proofs.Laws.Found.{lookup-finds}
use Rattle.call_blocks.specs.Blocks.{directory_check, with_directory, lookup_checks, emptied, cpu_touched, cpu_write_drops, places_check}
use Rattle.call_blocks.specs.Blocks.{load_gives, load_leaves, load_drops}
use Rattle.call_blocks.proofs.Laws.{load-number}
use Rattle.host_state.specs.HostState.{Gives, unaltered}
use Rattle.host_blocks.specs.HostBlocks.{stored_touched, stored_drops}
use Rattle.host.specs.Host.{on_image, cpu_own, load_needs_byte}
use Rattle.host.specs.Blocks.{found_word, host_lookup, host_find, load_blocks_checks, host_load_places, blocks_own, host_write_places}
use Rattle.host.specs.Blocks.{host_stored_places}
use Rattle.host.proofs.Laws.{state-read, in_image, image-refuses, image-passes}

-- K4: of a fit directory, the search without tests answers a lookup's word at every CPU address of the cartridge
pub found_word_lem : (d : List ℕ) (start : ℕ) → fit d ≡ true → 0x4800 ≤ start → host_find d start ≡ host_lookup d start
unfolding host_lookup host_find
found_word_lem d start f s = ap found_word (sym (lookup-finds d start f s))

-- a lookup by its checks
pub lookup-is : (d : List ℕ) (start : ℕ) → lookup d start ≡ unless_refused (lookup_checks d start) refused_lookup (found_of (word_at start d))
unfolding first_of lookup
lookup-is d start = go (fit d) (ltb start 0x4800)
  where
    go : (f a : Bool)
        → cond (not f) (refused_lookup 2) (cond a (refused_lookup 8) (found_of (word_at start d)))
        ≡ (let q = cond (not f) 2 (cond a 8 0) in cond (eqb q 0) (found_of (word_at start d)) (refused_lookup q))
    go true true = refl
    go true false = refl
    go false a = refl

-- ---- a call that reads an image to r, with what it makes of the places on a state: they are kept, or so made

pub record Places (img d : List ℕ) (after : State → List ℕ) (r : ReadImage) : Type 0 where
  pub known : r.refusal ≡ 0 → Known r.state
  pub refuses : (own : List Check) → (r.refusal ≡ 0 → ⊥) → r.refusal ≡ first_of (on_image img own)
  pub passes : (own : List Check) → r.refusal ≡ 0 → first_of own ≡ first_of (on_image img own)
  pub kept : (r.refusal ≡ 0 → ⊥) → d ≡ unless_kept (on_image img []) d (after (state_in img))
  pub made : r.refusal ≡ 0 → after r.state ≡ unless_kept (on_image img []) d (after (state_in img))

pub places : (img d : List ℕ) (after : State → List ℕ) (r : ReadImage) → r ≡ read_image img → Places img d after r
unfolding first_of
places img d after r is =
    let q = ap (λ (x : ReadImage). x.refusal) is in
    let s = ap (λ (x : ReadImage). x.state) is in
    let some : (own : List Check) → (r.refusal ≡ 0 → ⊥) → r.refusal ≡ first_of (on_image img own) =
    λ own h. q ∙ image-refuses img own (λ e. h (q ∙ e)) in
    record {
      known = λ z. subst Known (sym s) (read_known img (sym q ∙ z));
      refuses = some;
      passes = λ own z. sym (image-passes img own (sym q ∙ z));
      kept = λ h. sym (refused-is (on_image img []) (λ n. d) _ (λ z. h (some [] h ∙ z)));
      made = λ z. ap after (s ∙ state-read img (sym q ∙ z))
          ∙ sym (accepted-is (on_image img []) (λ n. d) _ (image-passes img [] (sym q ∙ z)));
    }

-- ---- N2 of the state and of the directory are one number, so that their order does not show

either_first : (s : State) (d : List ℕ) (cs : List Check) → first_of (with_directory d (state_check s ∷ cs))
    ≡ first_of (state_check s ∷ with_directory d cs)
unfolding first_of
either_first s d cs = go (directory_check d).holds (state_check s).holds
  where
    go : (a b : Bool) → cond a 2 (cond b 2 (first_of cs)) ≡ cond b 2 (cond a 2 (first_of cs))
    go true true = refl
    go true false = refl
    go false true = refl
    go false false = refl

pub either-given : (s : State) (d : List ℕ) (cs : List Check) (img lent : List ℕ) (g : Gives)
    → unless_refused (with_directory d (state_check s ∷ cs)) (unaltered img lent) g
    ≡ unless_refused (state_check s ∷ with_directory d cs) (unaltered img lent) g
either-given s d cs img lent g = rw (either_first s d cs)

-- ---- a load with a directory

-- into an image of another length
pub places-stay : (img arena d : List ℕ) (mapper : ℕ) (sizes : MemoryLayout) (options : Options)
    → room_for (load_needs_byte sizes options) (length img) ≡ false → d ≡ host_load_places img arena d mapper sizes options
unfolding first_of host_load_places
places-stay img arena d mapper sizes options e = rw e

-- by its answer r
pub record LoadBlocks (img arena d : List ℕ) (mapper sub flags : ℕ) (known : Bool) (sizes : MemoryLayout) (options : Options) (r : Loaded)
    : Type 0 where
  pub number : r.refusal ≡ first_of (load_blocks_checks img arena d mapper sizes options)
  -- accepted, it is the load without a directory
  pub own-load : r.refusal ≡ 0 → r ≡ load_answer mapper sub flags known sizes options (length arena)
  pub arena-loaded : r.refusal ≡ 0 → load_leaves d mapper sizes arena ≡ load_arena mapper sizes arena
  pub arena-stays : (r.refusal ≡ 0 → ⊥) → load_leaves d mapper sizes arena ≡ arena
  pub places-after : load_drops d mapper sizes arena ≡ host_load_places img arena d mapper sizes options

pub load-blocks : (img arena d : List ℕ) (mapper sub flags : ℕ) (known : Bool) (sizes : MemoryLayout) (options : Options) (r : Loaded)
    → room_for (load_needs_byte sizes options) (length img) ≡ true → r ≡ load_gives d mapper sub flags known sizes options (length arena)
    → LoadBlocks img arena d mapper sub flags known sizes options r
unfolding first_of load_gives load_leaves host_load_places
load-blocks img arena d mapper sub flags known sizes options r i e = by (ℕ_discrete (length d) 256)
  where
    by : Dec (length d ≡ 256) → LoadBlocks img arena d mapper sub flags known sizes options r
    by (yes l) =
        let p = eq-eqb (length d) 256 l in
        let same : r ≡ load_answer mapper sub flags known sizes options (length arena) = e ∙ rw p in
        let own : r.refusal ≡ first_of (load_checks mapper sizes (length arena)) =
        ap (λ (x : Loaded). x.refusal) same ∙ load-number mapper sub flags known sizes options (length arena) in
        record {
          number = own ∙ rw (i, p);
          own-load = λ z. same;
          arena-loaded = λ z. rw p;
          arena-stays = λ h. rw p (load-refused mapper sub flags known sizes options arena (λ z. h (own ∙ z))).1;
          places-after = rw i;
        }
    by (no l) =
        let p = ne_eqb (length d) 256 l in
        let two : r.refusal ≡ 2 = ap (λ (x : Loaded). x.refusal) e ∙ rw p in
        record {
          number = two ∙ rw (i, p);
          own-load = λ z. absurd (omega (arith, two, z));
          arena-loaded = λ z. absurd (omega (arith, two, z));
          arena-stays = λ h. rw p;
          places-after = rw i;
        }

-- ---- what a call leaves of the places, by all its checks

-- those of the call on a state stand behind those before it
kept-behind : (before after : List Check) → Numbered before → (d x : List ℕ)
    → unless_kept before d (unless_kept after d x) ≡ unless_kept (before ++ after) d x
kept-behind before after n d x = by (ℕ_discrete (first_of before) 0)
  where
    by : Dec (first_of before ≡ 0) → unless_kept before d (unless_kept after d x) ≡ unless_kept (before ++ after) d x
    by (yes z) = accepted-is before (λ q. d) _ z ∙ rw (first_more before after (accepted-none before n z))
    by (no h) = refused-is before (λ q. d) _ h ∙ rw (first_done before after h, ne_eqb (first_of before) 0 h)

-- the state of an image that is accepted passes its own test
state-passes : (img d : List ℕ) (own : List Check)
    → first_of (on_image img (with_directory d (state_check (state_in img) ∷ own))) ≡ first_of (on_image img (with_directory d own))
unfolding first_of
state-passes img d own = by (ℕ_discrete (first_of (on_image img [])) 0)
  where
    by : Dec (first_of (on_image img []) ≡ 0)
        → first_of (on_image img (with_directory d (state_check (state_in img) ∷ own))) ≡ first_of (on_image img (with_directory d own))
    by (yes z) = rw (known-passes (state_in img) (in_image img [] tt z))
    by (no h) =
        first_done (on_image img []) (with_directory d (state_check (state_in img) ∷ own)) h
        ∙ sym (first_done (on_image img []) (with_directory d own) h)

-- K7
pub load-places : (img arena d : List ℕ) (mapper : ℕ) (sizes : MemoryLayout) (options : Options)
    → host_load_places img arena d mapper sizes options ≡ unless_kept (load_blocks_checks img arena d mapper sizes options) d emptied
unfolding host_load_places load_drops
load-places img arena d mapper sizes options =
    kept-behind (room_check (load_needs_byte sizes options) (length img) ∷ [])
    (places_check d ∷ load_checks mapper sizes (length arena)) (search rules) d emptied

-- K5
pub write-places : (img arena d : List ℕ) (addr v : ℕ) → let s = state_in img in
    host_write_places img arena d addr v ≡ unless_kept (on_image img (blocks_own d s arena addr)) d (dropped (cpu_touched s addr v) d)
unfolding host_write_places cpu_write_drops
write-places img arena d addr v =
    let s = state_in img in
    kept-behind (on_image img []) (with_directory d (cpu_checks s (length arena) addr)) (search rules) d (dropped (cpu_touched s addr v) d)
    ∙ rw (state-passes img d (cpu_own s arena addr))

-- K10
pub stored-places : (img d : List ℕ) (offset : ℕ)
    → host_stored_places img d offset
    ≡ unless_kept (on_image img (with_directory d [])) d (dropped (stored_touched (state_in img) offset) d)
unfolding host_stored_places stored_drops
stored-places img d offset = kept-behind (on_image img []) (with_directory d []) (search rules) d _
