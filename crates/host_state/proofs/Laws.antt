-- A call on a state by the number that it answered: refused, with all as it was, or accepted; and what the state after it is known to be.
use Prim.Native.Nat.{ℕ, ◌+◌, ◌*◌, ◌/◌, ◌^◌, ◌≤◌, ◌<◌}
use mathlib.Core.Path.{◌≡◌, refl, sym, ap, ap₂, subst, ◌∙◌}
use mathlib.Core.Bool.{Bool, true, false, cond}
use mathlib.Core.List.{List, []}
use native.Mathlib.Omega.{arith}
use borrow.Author.Tests.{le-ltb}
use lib.Dec.{eqb}
use lib.ListN.{length}
use Rattle.limits.proofs.Each.{cond-holds}
use Rattle.memory.specs.declared.Memory.{Memory}
use Rattle.memory.specs.declared.layout.Layout.{Layout}
use Rattle.memory.specs.Range.{Bytes}
use Rattle.board_chip.specs.declared.namco163.Namco163.{Namco163}
use Rattle.board_chip.specs.Namco163.{is163}
use Rattle.board_chip.specs.Reads.{after_read}
use Rattle.board_chip.specs.Reset.{reset_chip}
use Rattle.board_state.specs.declared.Options.{Options}
use Rattle.board_state.specs.declared.State.{State}
use Rattle.board_state.specs.State.{options_in, Known, with_chip}
use Rattle.call_answers.specs.Answers.{Altered}
use Rattle.call_refusals.specs.Refusals.{Check, first_of, unless_refused, reset_checks, cpu_checks}
use Rattle.call_refusals.proofs.Laws.{refused-is, accepted-is, number_is, cpu-good}
use Rattle.call_cpu.specs.Calls.{ReadAnswer, cpu_read, WriteAnswer, refused_write, write_register, cpu_write, cpu_write_arena}
use Rattle.call_reset.specs.Reset.{kind_of, reset_state}
use Rattle.call_run.specs.Run.{clocks, made}
use Rattle.call_run.proofs.run.Laws.{made-floor}
use Rattle.image_write.specs.Options.{image_at, needs_byte, option_set, room_for}
use Rattle.thm_machine.specs.Calls.{cpu_write as call_write}
use Rattle.thm_machine.specs.Board.{other_gives}
use Rattle.thm_steps.proofs.Chip.{Keeps, after-read-keeps, reset-keeps}
use Rattle.thm_steps.proofs.Choice.{read-choice, write-choice}
use Rattle.thm_range.proofs.Calls.{other_fits, clocks-memory, register-layout}
use Rattle.thm_range.proofs.Options.{options-same, clocks-keep-options}
use Rattle.host_state.specs.HostState.{Gives, unaltered, reset_gives, read_gives, write_gives, short_run, short_samples}

-- ---- a call on a state, by the number q that it answered: refused, or it left g, which is what the definition gives

pub record Called (cs : List Check) (img lent : List ℕ) (given g : Gives) (q : ℕ) : Type 0 where
  pub none : q ≡ 0 → first_of cs ≡ 0
  pub some : (q ≡ 0 → ⊥) → first_of cs ≡ 0 → ⊥
  pub refused : (q ≡ 0 → ⊥) → unaltered img lent q ≡ unless_refused cs (unaltered img lent) given
  pub accepted : q ≡ 0 → g ≡ unless_refused cs (unaltered img lent) given

pub called : (cs : List Check) (img lent : List ℕ) (given g : Gives) (q : ℕ) → q ≡ first_of cs → g ≡ given → Called cs img lent given g q
called cs img lent given g q is same =
    record {
      none = λ z. sym is ∙ z;
      some = λ h e. h (is ∙ e);
      refused = λ h. ap (unaltered img lent) is ∙ sym (refused-is cs (unaltered img lent) given (λ e. h (is ∙ e)));
      accepted = λ z. same ∙ sym (accepted-is cs (unaltered img lent) given (sym is ∙ z));
    }

-- the reset, the CPU read and the CPU write, each by its answer r

abbrev pub ResetCalled : State → List ℕ → ℕ → Altered → Type 0
ResetCalled s img kind r =
    Called (reset_checks s kind) img [] (reset_gives (length img) s kind)
    (record { word = 0; image = image_at (length img) r.state; lent = [] }) r.refusal

pub reset-called : (s : State) (img : List ℕ) (kind : ℕ) (r : Altered) → r ≡ reset_state s kind → ResetCalled s img kind r
unfolding reset_state
reset-called s img kind r e =
    let refusal : Altered → ℕ = λ x. x.refusal in
    called _ img [] _ _ _
    (ap refusal e ∙ number_is (reset_checks s kind) (λ q. record { refusal = q; state = s }) _ refusal refl (λ q. refl))
    (ap (λ (x : Altered). record { word = 0; image = image_at (length img) x.state; lent = [] }) e)

abbrev pub ReadCalled : State → List ℕ → List ℕ → ℕ → ReadAnswer → Type 0
ReadCalled s img arena addr r =
    Called (cpu_checks s (length arena) addr) img arena (read_gives (length img) s arena addr)
    (record { word = r.byte * 2 ^ 8; image = image_at (length img) r.state; lent = arena }) r.refusal

pub read-called : (s : State) (img arena : List ℕ) (addr : ℕ) (r : ReadAnswer) → r ≡ cpu_read s arena addr → ReadCalled s img arena addr r
unfolding cpu_read
read-called s img arena addr r e =
    let refusal : ReadAnswer → ℕ = λ x. x.refusal in
    called _ img arena _ _ _
    (ap refusal e
    ∙ number_is (cpu_checks s (length arena) addr) (λ q. record { refusal = q; byte = 0; state = s }) _ refusal refl (λ q. refl))
    (ap (λ (x : ReadAnswer). record { word = x.byte * 2 ^ 8; image = image_at (length img) x.state; lent = arena }) e)

abbrev pub write_left : ℕ → WriteAnswer → List ℕ → Gives
write_left n r arena = record { word = r.changed.chr.mask * 2 ^ 8 + r.changed.prg.mask; image = image_at n r.state; lent = arena }

abbrev pub WriteCalled : State → List ℕ → List ℕ → ℕ → ℕ → WriteAnswer → Type 0
WriteCalled s img arena addr v r =
    Called (cpu_checks s (length arena) addr) img arena (write_gives (length img) s arena addr v)
    (write_left (length img) r (cpu_write_arena s arena addr v)) r.refusal

pub write-called : (s : State) (img arena : List ℕ) (addr v : ℕ) (r : WriteAnswer) → r ≡ cpu_write s arena addr v
    → WriteCalled s img arena addr v r
unfolding cpu_write
write-called s img arena addr v r e =
    let refusal : WriteAnswer → ℕ = λ x. x.refusal in
    called _ img arena _ _ _ (ap refusal e ∙ number_is (cpu_checks s (length arena) addr) (refused_write s) _ refusal refl (λ q. refl))
    (ap (λ (x : WriteAnswer). write_left (length img) x (cpu_write_arena s arena addr v)) e)

-- a refused write leaves the arena
pub write_kept : (s : State) (arena : List ℕ) (addr v : ℕ) → (first_of (cpu_checks s (length arena) addr) ≡ 0 → ⊥)
    → cpu_write_arena s arena addr v ≡ arena
unfolding cpu_write_arena
write_kept s arena addr v h = refused-is (cpu_checks s (length arena) addr) (λ q. arena) _ h

-- what two of them that are equal have, part by part
abbrev pub word_of : {a b : Gives} → a ≡ b → a.word ≡ b.word
word_of e = ap (λ (g : Gives). g.word) e

abbrev pub image-of : {a b : Gives} → a ≡ b → a.image ≡ b.image
image-of e = ap (λ (g : Gives). g.image) e

abbrev pub lent_of : {a b : Gives} → a ≡ b → a.lent ≡ b.lent
lent_of e = ap (λ (g : Gives). g.lent) e

-- what a function returned and left, as one of them has it and so as the other
pub two-of : {word : ℕ} {img : List ℕ} {a b : Gives} → (word ≡ a.word) × (img ≡ a.image) → a ≡ b → (word ≡ b.word) × (img ≡ b.image)
two-of h e = (h.0 ∙ word_of e, h.1 ∙ image-of e)

pub three-of : {word : ℕ} {img lent : List ℕ} {a b : Gives} → (word ≡ a.word) × ((img ≡ a.image) × (lent ≡ a.lent)) → a ≡ b
    → (word ≡ b.word) × ((img ≡ b.image) × (lent ≡ b.lent))
three-of h e = (h.0 ∙ word_of e, (h.1.0 ∙ image-of e, h.1.1 ∙ lent_of e))

-- ---- the state after a call

known-chip : (s : State) (n : Namco163) → Keeps s.chip n → Known s → Known (with_chip s n)
known-chip s n h k =
    let t = k.typed.chip in
    record {
      typed = record { chip = h.typed t; memory = k.typed.memory };
      range = record { chip = h.range t k.range.chip; memory = k.range.memory };
    }

pub known-reset : (s : State) (kind : ℕ) (r : Altered) → r ≡ reset_state s kind → Known s → Known r.state
unfolding reset_state
known-reset s kind r e k =
    let P : Altered → Type 0 = λ x. Known x.state in
    subst P (sym e)
    (cond-holds P (eqb (first_of (reset_checks s kind)) 0) _ _ (known-chip s _ (reset-keeps s.chip (kind_of kind)) k) k)

pub known_read : (s : State) (arena : List ℕ) (addr : ℕ) (r : ReadAnswer) → r ≡ cpu_read s arena addr → Known s → Known r.state
unfolding cpu_read
known_read s arena addr r e k =
    let P : ReadAnswer → Type 0 = λ x. Known x.state in
    subst P (sym e)
    (cond-holds P (eqb (first_of (cpu_checks s (length arena) addr)) 0) _ _ (known-chip s _ (after-read-keeps s.chip addr) k) k)

pub known-write : (s : State) (arena : List ℕ) (addr v : ℕ) (r : WriteAnswer) → r ≡ cpu_write s arena addr v → v < 256 → Bytes arena
    → first_of (cpu_checks s (length arena) addr) ≡ 0 → Known s → Known r.state
unfolding other_gives
known-write s arena addr v r e b bytes z k =
    subst (λ (x : WriteAnswer). Known x.state) (sym e)
    (other_fits (call_write addr v) (record { state = s; arena = arena }) b
    (record { known = k; long = (cpu-good s (length arena) addr z).0.long; bytes = bytes })).known

-- ---- and the bytes that held the state before hold it after

-- a call keeps the options and the page counts
record Alike (s t : State) : Type 0 where
  options : options_in t ≡ options_in s
  layout : t.memory.layout ≡ s.memory.layout

alike : (s : State) → Alike s s
alike s = record { options = refl; layout = refl }

room-same : (s t : State) (n : ℕ) → Alike s t → room_for (option_set s) n ≡ true → room_for (option_set t) n ≡ true
room-same s t n a r =
    subst (λ (b : Bool). room_for b n ≡ true) (sym (ap₂ (λ (o : Options) (l : Layout). needs_byte o l.prg_ram) a.options a.layout)) r

pub room-reset : (s : State) (kind : ℕ) (r : Altered) (n : ℕ) → r ≡ reset_state s kind → room_for (option_set s) n ≡ true
    → room_for (option_set r.state) n ≡ true
unfolding reset_state reset_chip
room-reset s kind r n e =
    let P : Altered → Type 0 = λ x. Alike s x.state in
    room-same s r.state n
    (subst P (sym e)
    (cond-holds P (eqb (first_of (reset_checks s kind)) 0) _ _ (record { options = refl; layout = refl }) (alike s)))

pub room-read : (s : State) (arena : List ℕ) (addr : ℕ) (r : ReadAnswer) (n : ℕ) → r ≡ cpu_read s arena addr → room_for (option_set s) n ≡ true
    → room_for (option_set r.state) n ≡ true
unfolding cpu_read
room-read s arena addr r n e =
    let P : ReadAnswer → Type 0 = λ x. Alike s x.state in
    room-same s r.state n
    (subst P (sym e)
    (cond-holds P (eqb (first_of (cpu_checks s (length arena) addr)) 0) _ _
    (record { options = options-same s (with_chip s (after_read s.chip addr)) refl (read-choice s.chip addr); layout = refl })
    (alike s)))

pub room-write : (s : State) (arena : List ℕ) (addr v : ℕ) (r : WriteAnswer) (n : ℕ) → r ≡ cpu_write s arena addr v
    → room_for (option_set s) n ≡ true → room_for (option_set r.state) n ≡ true
unfolding cpu_write write_register
room-write s arena addr v r n e =
    let P : WriteAnswer → Type 0 = λ x. Alike s x.state in
    room-same s r.state n
    (subst P (sym e)
    (cond-holds P (eqb (first_of (cpu_checks s (length arena) addr)) 0) _ _
    (record {
      options = options-same s (write_register s addr v) refl (write-choice s.chip addr v);
      layout = register-layout s addr v;
    })
    (alike s)))

pub room-clocks : (s : State) (k n : ℕ) → room_for (option_set s) n ≡ true → room_for (option_set (clocks k s).state) n ≡ true
room-clocks s k n =
    room-same s (clocks k s).state n
    (record { options = clocks-keep-options k s; layout = ap (λ (m : Memory). m.layout) (clocks-memory k s) })

-- a read outside the sound port leaves it as it was
pub still_read : (s : State) (arena : List ℕ) (addr : ℕ) (r : ReadAnswer) → r ≡ cpu_read s arena addr → 0x5000 ≤ addr
    → first_of (cpu_checks s (length arena) addr) ≡ 0 → s ≡ r.state
unfolding cpu_read after_read
still_read s arena addr r e h z = sym (rw (e, z, le-ltb addr 0x4800 (omega arith), le-ltb addr 0x5000 h))

-- ---- a short run

pub made-few : (s : State) (n : ℕ) → Known s → n ≤ short_run → made n s ≤ short_samples
made-few s n k h = rw (made-floor n s k.range.chip.audio.counter) (go (is163 s.chip.board) s.chip.audio.disabled)
  where
    go : (b d : Bool) → cond b (cond d 0 ((s.chip.audio.update_counter + n) / 15)) 0 ≤ short_samples
    go true true = omega arith
    go true false = omega (arith, k.range.chip.audio.counter)
    go false d = omega arith
