-- H6: the low 8 bits of every answer are the number of the first check that holds, 0 where none does, and the parts of an accepted answer
-- stand in their bits, one beside the other.
use Prim.Native.Nat.{ℕ, ◌*◌, ◌/◌, ◌%◌, ◌^◌, ◌<◌}
use mathlib.Core.Path.{◌≡◌, refl, sym, ap, subst, ◌∙◌}
use mathlib.Core.Bool.{Bool, true, false, cond}
use mathlib.Core.List.{List, [], ◌∷◌}
use native.Mathlib.Omega.{arith}
use borrow.Author.Tests.{not-false, eqb-true, ltb-false}
use borrow.Author.Rules.{rules}
use lib.Dec.{eqb}
use lib.ListN.{length}
use Rattle.limits.proofs.Each.{cond-holds}
use Rattle.cut.specs.Contract.{last_or}
use Rattle.memory.specs.declared.layout.MemoryLayout.{MemoryLayout}
use Rattle.memory.specs.Changes.{changed, chr_changes, changes}
use Rattle.memory.proofs.Laws.Changes.{changed-lt}
use Rattle.board_state.specs.declared.State.{State}
use Rattle.board_state.specs.State.{Known}
use Rattle.board_state.specs.declared.Options.{Options}
use Rattle.call_refusals.specs.Refusals.{Check, first_of, unless_refused, kind_check, cpu_checks}
use Rattle.call_refusals.proofs.Laws.{accepted-is, number_is}
use Rattle.call_cpu.specs.Calls.{WriteAnswer}
use Rattle.call_cpu.specs.Calls.{write_register, cpu_read, cpu_write}
use Rattle.call_run.specs.Run.{clocks, made, run_limit}
use Rattle.call_run.proofs.run.Laws.{made-most}
use Rattle.thm_range.proofs.Calls.{cpu-write-mask}
use Rattle.directory.specs.Fit.{fit}
use Rattle.directory.specs.Calls.{Found, word_at, refused_lookup, found_of, lookup}
use Rattle.call_blocks.specs.Blocks.{lookup_checks}
use Rattle.host_state.specs.HostState.{Gives, unaltered, read_gives, write_gives, run_own, run_gives}
use Rattle.host_state.proofs.Laws.{word_of}
use Rattle.image_read.specs.Reading.{state_in}
use Rattle.host.specs.Host.{on_image, host_load_checks, host_load, host_reset, cpu_own, host_read, host_write, host_run}
use Rattle.host.specs.Blocks.{found_word, host_lookup, host_find, load_blocks_checks, host_load_blocks, blocks_own, host_write_blocks}
use Rattle.host.proofs.Laws.{none-held, in_image}
use Rattle.host.proofs.WithDirectory.{lookup-is}
use Rattle.host.proofs.Refused.{on_both, both_first, write-blocks-as-write}

-- ---- H6: the refusal, in bits 0..7

-- numbers of at most 8 bits
abbrev Small : List Check → Type 0
Small [] = Unit
Small (c ∷ cs) = (c.number < 256) × Small cs

first_small : (cs : List Check) → Small cs → first_of cs < 256
unfolding first_of
first_small [] h = omega arith
first_small (c ∷ cs) h = go c.holds (first_small cs h.1)
  where
    go : (t : Bool) → first_of cs < 256 → cond t c.number (first_of cs) < 256
    go true rest = h.0
    go false rest = rest

low_bits : (cs : List Check) (img lent : List ℕ) (g : Gives) → Small cs → g.word % 256 ≡ 0
    → (unless_refused cs (unaltered img lent) g).word % 256 ≡ first_of cs
low_bits cs img lent g h e = go (eqb (first_of cs) 0) refl
  where
    go : (t : Bool) → eqb (first_of cs) 0 ≡ t → (cond t g (unaltered img lent (first_of cs))).word % 256 ≡ first_of cs
    go true q = e ∙ sym (eqb-true (first_of cs) 0 q)
    go false q = omega (arith, first_small cs h)

pub load-number : (img arena : List ℕ) (mapper sub flags known : ℕ) (sizes : MemoryLayout) (options : Options)
    → (host_load img arena mapper sub flags known sizes options).word % 256 ≡ first_of (host_load_checks img arena mapper sizes options)
unfolding host_load
load-number img arena mapper sub flags known sizes options = low_bits _ _ _ _ (search rules) refl

pub reset-number : (img : List ℕ) (kind : ℕ) → (host_reset img kind).word % 256 ≡ first_of (on_image img (kind_check kind ∷ []))
unfolding host_reset
reset-number img kind = low_bits _ _ _ _ (search rules) refl

pub read_number : (img arena : List ℕ) (addr : ℕ)
    → (host_read img arena addr).word % 256 ≡ first_of (on_image img (cpu_own (state_in img) arena addr))
unfolding host_read
read_number img arena addr =
    low_bits _ img arena (read_gives (length img) (state_in img) arena addr) (search rules) (omega arith)

pub write-number : (img arena : List ℕ) (addr v : ℕ)
    → (host_write img arena addr v).word % 256 ≡ first_of (on_image img (cpu_own (state_in img) arena addr))
unfolding host_write
write-number img arena addr v =
    low_bits _ img arena (write_gives (length img) (state_in img) arena addr v) (search rules)
    (omega (arith, cpu-write-mask (state_in img) arena addr v))

pub run-number : (img samples : List ℕ) (n : ℕ)
    → (host_run img samples n).word % 256 ≡ first_of (on_image img (run_own (state_in img) samples n))
unfolding host_run
run-number img samples n =
    low_bits _ img samples (run_gives (length img) (state_in img) samples n) (search rules) (omega arith)

-- a registering's word, and that of a store of the host's own, is the number alone: `register-refused`, `stored_refused`
pub load-blocks-number : (img arena d : List ℕ) (mapper sub flags known : ℕ) (sizes : MemoryLayout) (options : Options)
    → (host_load_blocks img arena d mapper sub flags known sizes options).word % 256
    ≡ first_of (load_blocks_checks img arena d mapper sizes options)
unfolding host_load_blocks
load-blocks-number img arena d mapper sub flags known sizes options = low_bits _ _ _ _ (search rules) refl

pub write-blocks-number : (img arena d : List ℕ) (addr v : ℕ)
    → (host_write_blocks img arena d addr v).word % 256 ≡ first_of (on_both img d (cpu_own (state_in img) arena addr))
unfolding host_write_blocks
write-blocks-number img arena d addr v =
    low_bits _ img arena (write_gives (length img) (state_in img) arena addr v) (search rules)
    (omega (arith, cpu-write-mask (state_in img) arena addr v)) ∙ both_first img d (cpu_own (state_in img) arena addr)

-- ---- H6: a lookup's length in bits 8..31 and its number in bits 32..63; a find's too, which is never refused

pub record Parts (word : ℕ) (f : Found) : Type 0 where
  pub refusal : word % 2 ^ 8 ≡ f.refusal
  pub len : word / 2 ^ 8 % 2 ^ 24 ≡ f.len
  pub number : word / 2 ^ 32 ≡ f.number

abbrev Narrow : Found → Type 0
Narrow f = (f.refusal < 2 ^ 8) × (f.len < 2 ^ 24)

parts : (f : Found) → Narrow f → Parts (found_word f) f
parts f h =
    record { refusal = omega (arith, h.0, h.1); len = omega (arith, h.0, h.1); number = omega (arith, h.0, h.1) }

pub find-parts : (d : List ℕ) (start : ℕ) → Parts (host_find d start) (found_of (word_at start d))
unfolding host_find
find-parts d start = parts (found_of (word_at start d)) (omega arith, omega arith)

pub lookup-parts : (d : List ℕ) (start : ℕ) → Parts (host_lookup d start) (lookup d start)
unfolding host_lookup
lookup-parts d start =
    let cs = lookup_checks d start in
    parts (lookup d start) (subst Narrow (sym (lookup-is d start)) (cond-holds Narrow (eqb (first_of cs) 0) _ _ (omega arith, omega arith)
    (first_small cs (search rules), omega arith)))

pub lookup-number : (d : List ℕ) (start : ℕ) → host_lookup d start % 256 ≡ first_of (lookup_checks d start)
lookup-number d start =
    let refusal : Found → ℕ = λ f. f.refusal in
    (lookup-parts d start).refusal ∙ ap refusal (lookup-is d start)
    ∙ number_is (lookup_checks d start) refused_lookup (found_of (word_at start d)) refusal refl (λ q. refl)

-- ---- an accepted call: its word is what the call on its image's state gives

word-is : (img : List ℕ) (own : List Check) → first_of (on_image img own) ≡ 0 → (lent : List ℕ) (g : Gives)
    → (unless_refused (on_image img own) (unaltered img lent) g).word ≡ g.word
word-is img own e lent g = word_of (accepted-is (on_image img own) (unaltered img lent) g e)

-- ---- H6: a read's byte in bits 8..15

pub read_byte : (img arena : List ℕ) (addr : ℕ) → first_of (on_image img (cpu_own (state_in img) arena addr)) ≡ 0
    → (host_read img arena addr).word / 2 ^ 8 ≡ (cpu_read (state_in img) arena addr).byte
unfolding host_read
read_byte img arena addr e =
    omega (arith, word-is img (cpu_own (state_in img) arena addr) e arena (read_gives (length img) (state_in img) arena addr))

-- ---- H6: a write's CHR mask in bits 8..23 and its PRG mask in bits 24..63

-- a mask has as many bits as its table has entries
chr-small : (s : State) (arena : List ℕ) (addr v : ℕ) → Known s → (cpu_write s arena addr v).changed.chr.mask < 2 ^ 16
unfolding cpu_write changes chr_changes
chr-small s arena addr v k =
    let old = s.memory.chr_pages in let new = (write_register s addr v).memory.chr_pages in
    cond-holds (λ (w : WriteAnswer). w.changed.chr.mask < 2 ^ 16) (eqb (first_of (cpu_checks s (length arena) addr)) 0) _ _
    (subst (λ (n : ℕ). changed old new < 2 ^ n) k.typed.memory.chr (changed-lt old new))
    (omega arith)

pub record Masks (word : ℕ) (w : WriteAnswer) : Type 0 where
  pub chr : word / 2 ^ 8 % 2 ^ 16 ≡ w.changed.chr.mask
  pub prg : word / 2 ^ 24 * 2 ^ 24 ≡ w.changed.prg.mask

pub write-masks : (img arena : List ℕ) (addr v : ℕ) → first_of (on_image img (cpu_own (state_in img) arena addr)) ≡ 0
    → Masks (host_write img arena addr v).word (cpu_write (state_in img) arena addr v)
unfolding host_write
write-masks img arena addr v e =
    let s = state_in img in let own = cpu_own s arena addr in
    let w = word-is img own e arena (write_gives (length img) s arena addr v) in
    let low = cpu-write-mask s arena addr v in
    let small = chr-small s arena addr v (in_image img own (search rules) e) in
    record { chr = omega (arith, w, low, small); prg = omega (arith, w, low, small) }

-- K7: with a directory the same, where that is fit, as it is where the call is accepted
pub write-blocks-masks : (img arena d : List ℕ) (addr v : ℕ) → first_of (on_image img (blocks_own d (state_in img) arena addr)) ≡ 0
    → Masks (host_write_blocks img arena d addr v).word (cpu_write (state_in img) arena addr v)
unfolding first_of
write-blocks-masks img arena d addr v e =
    let s = state_in img in
    let f = not-false (fit d) (none-held img (blocks_own d s arena addr) (search rules) e).1.1.0 in
    rw (write-blocks-as-write img arena d addr v f) (write-masks img arena addr v (rw f at e))

-- ---- H6: a run's count of samples in bits 8..31 and its rise in bits 32..63

pub record Counts (word made rise : ℕ) : Type 0 where
  pub samples : word / 2 ^ 8 % 2 ^ 24 ≡ made
  pub rises : word / 2 ^ 32 ≡ rise

pub run-counts : (img samples : List ℕ) (n : ℕ) → first_of (on_image img (run_own (state_in img) samples n)) ≡ 0
    → (let t = (clocks n (state_in img)).stretch in Counts (host_run img samples n).word (length t.samples) (last_or 0 t.rises))
unfolding host_run made
run-counts img samples n e =
    let s = state_in img in let own = run_own s samples n in
    let w = word-is img own e samples (run_gives (length img) s samples n) in
    let short = ltb-false run_limit n (none-held img own (search rules) e).1.1.0 in
    let few = made-most n s (in_image img own (search rules) e).range.chip.audio.counter short in
    record { samples = omega (arith, w, few); rises = omega (arith, w, few) }
