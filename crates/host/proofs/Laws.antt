-- Refused by the image, or on to the call on its state.
use Prim.Native.Nat.{ℕ, ◌^◌, ◌<◌}
use mathlib.Core.Path.{◌≡◌, refl, sym, ap, ap₂, subst, ◌∙◌}
use mathlib.Core.Bool.{Bool, true, false, cond}
use mathlib.Core.List.{List, ◌∷◌}
use native.Mathlib.Omega.{arith}
use borrow.Author.Tests.{not-false}
use lib.Dec.{eqb}
use lib.ListN.{length}
use Rattle.memory.specs.declared.layout.MemoryLayout.{MemoryLayout}
use Rattle.memory.specs.declared.layout.Layout.{Layout}
use Rattle.memory.specs.Layout.{pages_for, layout_of}
use Rattle.memory.specs.Range.{Bytes}
use Rattle.board_state.specs.declared.Options.{Options}
use Rattle.board_state.specs.declared.State.{State}
use Rattle.board_state.specs.None.{no_state}
use Rattle.board_state.specs.State.{options_in, Known}
use Rattle.board_state.proofs.Range.{known-passes}
use Rattle.call_refusals.specs.Refusals.{Check, first_of, unless_refused, state_check, load_checks}
use Rattle.call_refusals.proofs.Laws.{Numbered, NoneHolds, accepted-none, first_done, number_is}
use Rattle.call_load.specs.Cartridge.{Loaded}
use Rattle.call_load.specs.Cartridge.{fresh_state, load_answer}
use Rattle.image_write.specs.Options.{image_at, needs_byte, option_set, room_for}
use Rattle.image_write.specs.Writing.{room_check}
use Rattle.image_read.specs.Reading.{ReadImage, read_checks, refused_read, read_image, state_in}
use Rattle.image_read.proofs.RoundTrip.{accepted-in-range, in-range-accepted, read_known, roomy-in, written_read}
use Rattle.image_read.proofs.Accepted.{accepted}
use Rattle.thm_machine.specs.Calls.{Held}
use Rattle.thm_machine.specs.Start.{Loaded as Start}
use Rattle.thm_machine.proofs.Start.{load-starts}
use Rattle.thm_range.proofs.Calls.{fresh-layout, load_fits}
use Rattle.host_state.specs.HostState.{Gives, unaltered}
use Rattle.host_state.proofs.Laws.{called}
use Rattle.bits.specs.Fields.{bit}
use Rattle.host.specs.Host.{yes, on_image, load_needs_byte, host_load}

-- ---- the state of an accepted image

pub state-read : (img : List ℕ) → (read_image img).refusal ≡ 0 → (read_image img).state ≡ state_in img
state-read img e = let h = accepted-in-range img e in ap (λ r. r.state) (accepted img h.0 h.1)

pub known_in : (img : List ℕ) → (read_image img).refusal ≡ 0 → Known (state_in img)
known_in img e = subst Known (state-read img e) (read_known img e)

-- a call that is accepted: none of its checks holds, and the image's state is known
module _ (img : List ℕ) (own : List Check) (numbered : Numbered own) (e : first_of (on_image img own) ≡ 0) where
  pub none-held : NoneHolds (on_image img own)
  none-held = accepted-none (on_image img own) (omega arith, (omega arith, numbered)) e

  pub in_image : Known (state_in img)
  in_image =
      let h = none-held in
      known_in img (in-range-accepted img (not-false _ h.0) (not-false _ h.1.0))

-- ---- refused by it, or on with it

-- an image that is refused: its number is the call's
pub image-refuses : (img : List ℕ) (own : List Check) → ((read_image img).refusal ≡ 0 → ⊥)
    → (read_image img).refusal ≡ first_of (on_image img own)
unfolding read_image
image-refuses img own h =
    let refusal : ReadImage → ℕ = λ r. r.refusal in
    let n : (read_image img).refusal ≡ first_of (read_checks img) = number_is (read_checks img) refused_read _ refusal refl (λ q. refl) in
    n ∙ sym (first_done (read_checks img) own (λ e. h (n ∙ e)))

-- an image that is accepted: the call's own checks are left
pub image-passes : (img : List ℕ) (own : List Check) → (read_image img).refusal ≡ 0 → first_of (on_image img own) ≡ first_of own
unfolding first_of
image-passes img own e = let h = accepted-in-range img e in rw (h.0, h.1)

module _ (img : List ℕ) (own : List Check) (lent : List ℕ) (g : Gives) where
  -- an image that is refused: the call answers its number
  stopped : ((read_image img).refusal ≡ 0 → ⊥) → unaltered img lent (read_image img).refusal
      ≡ unless_refused (on_image img own) (unaltered img lent) g
  stopped h = (called (on_image img own) img lent g g _ (image-refuses img own h) refl).refused h

  -- an image that is accepted: the call goes on with its state
  onward : (read_image img).refusal ≡ 0
      → unless_refused (state_check (state_in img) ∷ own) (unaltered img lent) g ≡ unless_refused (on_image img own) (unaltered img lent) g
  unfolding first_of
  onward e = rw (image-passes img own e, known-passes (state_in img) (known_in img e))

-- a call that reads an image to r, with its own checks and what it gives on a state
pub record OnImage (img lent : List ℕ) (own : State → List Check) (g : State → Gives) (r : ReadImage) : Type 0 where
  -- what the reading says of an accepted image
  pub good : r.refusal ≡ 0 → (room_for (option_set r.state) (length img) ≡ true) × Known r.state
  pub image : Bytes img → r.refusal ≡ 0 → img ≡ image_at (length img) r.state
  -- the image refuses, or the call goes on with its state
  pub refused : (r.refusal ≡ 0 → ⊥)
      → unaltered img lent r.refusal ≡ unless_refused (on_image img (own (state_in img))) (unaltered img lent) (g (state_in img))
  pub goes_on : r.refusal ≡ 0 → let s = r.state in
      unless_refused (state_check s ∷ own s) (unaltered img lent) (g s)
      ≡ unless_refused (on_image img (own (state_in img))) (unaltered img lent) (g (state_in img))

pub on-image : (img lent : List ℕ) (own : State → List Check) (g : State → Gives) (r : ReadImage) → r ≡ read_image img
    → OnImage img lent own g r
on-image img lent own g r is =
    let q = ap (λ (x : ReadImage). x.refusal) is in
    let s = ap (λ (x : ReadImage). x.state) is in
    record {
      good = λ z. (
        subst (λ (x : State). room_for (option_set x) (length img) ≡ true) (sym (s ∙ state-read img (sym q ∙ z)))
            (roomy-in img (accepted-in-range img (sym q ∙ z)).0),
        subst Known (sym s) (read_known img (sym q ∙ z)),
      );
      image = λ b z. sym (ap (image_at (length img)) s ∙ (written_read img b (sym q ∙ z)).same);
      refused = λ h. ap (unaltered img lent) q ∙ stopped img (own (state_in img)) lent (g (state_in img)) (λ z. h (q ∙ z));
      goes_on = λ z. ap (λ (x : State). unless_refused (state_check x ∷ own x) (unaltered img lent) (g x)) (s ∙ state-read img (sym q ∙ z))
          ∙ onward img (own (state_in img)) lent (g (state_in img)) (sym q ∙ z);
    }

-- a call's word does not tell which image it left
pub same_word : (cs : List Check) (img other lent : List ℕ) (g h : Gives) → g.word ≡ h.word
    → (unless_refused cs (unaltered img lent) g).word ≡ (unless_refused cs (unaltered other lent) h).word
same_word cs img other lent g h e = go (eqb (first_of cs) 0)
  where
    go : (t : Bool) → (cond t g (unaltered img lent (first_of cs))).word ≡ (cond t h (unaltered other lent (first_of cs))).word
    go true = e
    go false = refl

-- ---- an image that is only written

pub no_room : (option : Bool) (img : List ℕ) (cs : List Check) (lent : List ℕ) (g : Gives) → room_for option (length img) ≡ false
    → unaltered img lent 1 ≡ unless_refused (room_check option (length img) ∷ cs) (unaltered img lent) g
unfolding first_of
no_room option img cs lent g e = rw e

pub roomy : (option : Bool) (img : List ℕ) (cs : List Check) → room_for option (length img) ≡ true
    → first_of cs ≡ first_of (room_check option (length img) ∷ cs)
unfolding first_of
roomy option img cs e = rw e

-- ---- a number that says yes or no

pub yes-bit : (b : Bool) → yes (bit b) ≡ b
yes-bit true = refl
yes-bit false = refl

pub known-bit : (img arena : List ℕ) (mapper sub flags n : ℕ) (sizes : MemoryLayout) (options : Options)
    → host_load img arena mapper sub flags (bit (yes n)) sizes options ≡ host_load img arena mapper sub flags n sizes options
unfolding host_load
known-bit img arena mapper sub flags n sizes options = rw (yes-bit (yes n))

-- ---- a load by its answer r

module _ (mapper sub flags : ℕ) (known : Bool) (sizes : MemoryLayout) (options : Options) (arena : List ℕ) (r : Loaded)
    (e : r ≡ load_answer mapper sub flags known sizes options (length arena)) where
  pub load-number : r.refusal ≡ first_of (load_checks mapper sizes (length arena))
  unfolding load_answer
  load-number =
      let refusal : Loaded → ℕ = λ x. x.refusal in
      ap refusal e
      ∙ number_is (load_checks mapper sizes (length arena)) (λ q. record { refusal = q; state = no_state }) _ refusal refl (λ q. refl)

  -- C11: accepted, as a list of calls starts with it
  abbrev begun : r.refusal ≡ 0 → Start
  begun z =
      let e = sym load-number ∙ z in
      record {
        mapper = mapper;
        submapper = sub;
        flags = flags;
        known = known;
        sizes = sizes;
        options = options;
        arena = arena;
        accepted = e;
      }

  pub load-known : sub < 2 ^ 8 → r.refusal ≡ 0 → Known r.state
  load-known b z = subst (λ (x : Loaded). Known x.state) (sym e) (load_fits (begun z) b).known

  pub load_fresh : r.refusal ≡ 0 → r.state ≡ fresh_state mapper sub flags known sizes options
  load_fresh z = ap (λ (x : Loaded). x.state) e ∙ ap (λ (h : Held). h.state) (load-starts (begun z))

  -- bytes that hold an image of its options and pages hold its image
  fresh-options : options_in (fresh_state mapper sub flags known sizes options) ≡ options
  unfolding fresh_state
  fresh-options = refl

  fresh-ram : (fresh_state mapper sub flags known sizes options).memory.layout.prg_ram ≡ pages_for sizes.prg_ram
  unfolding layout_of
  fresh-ram = ap (λ (l : Layout). l.prg_ram) (fresh-layout mapper sub flags known sizes options)

  pub room-fresh : r.refusal ≡ 0 → (n : ℕ) → room_for (load_needs_byte sizes options) n ≡ true → room_for (option_set r.state) n ≡ true
  room-fresh z n h =
      subst (λ (s : State). room_for (option_set s) n ≡ true) (sym (load_fresh z))
      (subst (λ (b : Bool). room_for b n ≡ true) (sym (ap₂ needs_byte fresh-options fresh-ram)) h)
