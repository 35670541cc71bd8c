-- N0, both ways: each host call is accepted exactly where none of its conditions holds, and refused by a number exactly where its condition
-- is the first that holds. Refused, its word is that number and what was lent stays; Words.antt says that the number is the answer's low 8
-- bits in every call.
use Prim.Native.Nat.{ℕ, ◌≤◌}
use mathlib.Core.Path.{◌≡◌, refl, sym, ap, ◌∙◌}
use mathlib.Core.Bool.{Bool, true, false, cond, ◌||◌}
use mathlib.Core.List.{List, [], ◌∷◌}
use mathlib.Core.Logic.{◌↔◌}
use native.Mathlib.Omega.{arith}
use borrow.Author.Rules.{rules}
use borrow.Author.Tests.{eq-eqb, ne_eqb}
use lib.ListN.{length}
use Rattle.limits.specs.Limits.{prg_ram_limit, prg_ram_pages}
use Rattle.memory.specs.declared.layout.MemoryLayout.{MemoryLayout}
use Rattle.memory.specs.Layout.{pages_for}
use Rattle.board_state.specs.declared.Options.{Options}
use Rattle.call_refusals.specs.Refusals.{Check, first_of, kind_check}
use Rattle.call_refusals.proofs.Laws.{refused-is}
use Rattle.image_write.specs.Options.{room_for}
use Rattle.image_write.specs.Writing.{image_check}
use Rattle.image_read.specs.Reading.{fields_check, state_in}
use Rattle.directory.specs.Fit.{fit}
use Rattle.directory.specs.Calls.{register_refusal, registered, refused_lookup}
use Rattle.call_blocks.specs.Blocks.{directory_check, with_directory, register_checks, lookup_checks, emptied}
use Rattle.call_blocks.proofs.Laws.{register-number}
use Rattle.thm_range.proofs.Decided.{Decided, decided}
use Rattle.thm_range.proofs.Refused.{Refused}
use Rattle.host_state.specs.HostState.{unaltered, reset_gives, read_gives, write_gives, run_own, run_gives}
use Rattle.host.specs.Host.{on_image, cpu_own, load_gives, host_load_checks, host_load, host_reset, host_read, host_write, host_run}
use Rattle.host.specs.Blocks.{found_word, host_lookup, load_blocks_checks, host_load_blocks, host_load_places, blocks_own, host_write_blocks}
use Rattle.host.specs.Blocks.{host_write_places, host_stored, host_stored_places}
use Rattle.host.proofs.WithDirectory.{lookup-is, load-places, write-places, stored-places}

-- N22: the bytes of PRG-RAM for which a load's image needs the byte of options
pub full-ram : (bytes : ℕ) → (pages_for bytes ≡ prg_ram_pages) ↔ ((130049 ≤ bytes) × (bytes ≤ prg_ram_limit))
full-ram bytes = ((λ e. (omega (arith, e), omega (arith, e))), (λ h. omega (arith, h.0, h.1)))

-- N1, N4, N5, N6, N7
pub load-decided : (img arena : List ℕ) (mapper : ℕ) (sizes : MemoryLayout) (options : Options)
    → Decided (host_load_checks img arena mapper sizes options)
load-decided img arena mapper sizes options = decided _ (search rules)

-- N1, N2, N3
pub reset-decided : (img : List ℕ) (kind : ℕ) → Decided (on_image img (kind_check kind ∷ []))
reset-decided img kind = decided _ (search rules)

-- N1, N2, N7, N8, in a read and in a write
pub cpu-decided : (img arena : List ℕ) (addr : ℕ) → Decided (on_image img (cpu_own (state_in img) arena addr))
cpu-decided img arena addr = decided _ (search rules)

-- N1, N2, N10, N11
pub run-decided : (img samples : List ℕ) (n : ℕ) → Decided (on_image img (run_own (state_in img) samples n))
run-decided img samples n = decided _ (search rules)

-- N2, N8, N13, N14
pub register-decided : (d : List ℕ) (start len : ℕ) → Decided (register_checks d start len)
register-decided d start len = decided _ (search rules)

-- N2, N8
pub lookup-decided : (d : List ℕ) (start : ℕ) → Decided (lookup_checks d start)
lookup-decided d start = decided _ (search rules)

-- N1, N2 of the number of places, N4, N5, N6, N7
pub load-blocks-decided : (img arena d : List ℕ) (mapper : ℕ) (sizes : MemoryLayout) (options : Options)
    → Decided (load_blocks_checks img arena d mapper sizes options)
load-blocks-decided img arena d mapper sizes options = decided _ (search rules)

-- N2 of the image and N2 of the directory are one number: it is answered where either is unfit
abbrev pub unfit_check : List ℕ → List ℕ → Check
unfit_check img d = record { number = 2; holds = (fields_check img).holds || (directory_check d).holds }

abbrev pub on_both : List ℕ → List ℕ → List Check → List Check
on_both img d own = image_check (length img) ∷ unfit_check img d ∷ own

pub both_first : (img d : List ℕ) (own : List Check) → first_of (on_image img (with_directory d own)) ≡ first_of (on_both img d own)
unfolding first_of
both_first img d own = ap (λ (n : ℕ). cond (image_check (length img)).holds 1 n) (go (fields_check img).holds)
  where
    go : (f : Bool) → let u = (directory_check d).holds in cond f 2 (cond u 2 (first_of own)) ≡ cond (f || u) 2 (first_of own)
    go true = refl
    go false = refl

-- N1, N2, N7, N8
pub write-blocks-decided : (img arena d : List ℕ) (addr : ℕ) → Decided (on_both img d (cpu_own (state_in img) arena addr))
write-blocks-decided img arena d addr = decided _ (search rules)

-- N1, N2
pub stored-decided : (img d : List ℕ) → Decided (on_both img d [])
stored-decided img d = decided _ (search rules)

-- ---- H6: a refused call's word is its number alone; image, arena and sample bytes as they were

module _ (img arena : List ℕ) (mapper sub flags known : ℕ) (sizes : MemoryLayout) (options : Options) where
  pub load-refused : let cs = host_load_checks img arena mapper sizes options in
      Refused cs → host_load img arena mapper sub flags known sizes options ≡ unaltered img arena (first_of cs)
  unfolding host_load
  load-refused = refused-is _ (unaltered img arena) (load_gives (length img) arena mapper sub flags known sizes options)

pub reset-refused : (img : List ℕ) (kind : ℕ) → let cs = on_image img (kind_check kind ∷ []) in
    Refused cs → host_reset img kind ≡ unaltered img [] (first_of cs)
unfolding host_reset
reset-refused img kind = refused-is _ (unaltered img []) (reset_gives (length img) (state_in img) kind)

pub read-refused : (img arena : List ℕ) (addr : ℕ) → let cs = on_image img (cpu_own (state_in img) arena addr) in
    Refused cs → host_read img arena addr ≡ unaltered img arena (first_of cs)
unfolding host_read
read-refused img arena addr = refused-is _ (unaltered img arena) (read_gives (length img) (state_in img) arena addr)

pub write-refused : (img arena : List ℕ) (addr v : ℕ) → let cs = on_image img (cpu_own (state_in img) arena addr) in
    Refused cs → host_write img arena addr v ≡ unaltered img arena (first_of cs)
unfolding host_write
write-refused img arena addr v = refused-is _ (unaltered img arena) (write_gives (length img) (state_in img) arena addr v)

pub run-refused : (img samples : List ℕ) (n : ℕ) → let cs = on_image img (run_own (state_in img) samples n) in
    Refused cs → host_run img samples n ≡ unaltered img samples (first_of cs)
unfolding host_run
run-refused img samples n = refused-is _ (unaltered img samples) (run_gives (length img) (state_in img) samples n)

-- ---- the same of the calls with a directory, whose places stay too

pub register-refused : (d : List ℕ) (start len number : ℕ) → let cs = register_checks d start len in
    Refused cs → (register_refusal d start len ≡ first_of cs) × (registered d start len number ≡ d)
unfolding registered
register-refused d start len number h =
    let q = register-number d start len in (sym q, rw (ne_eqb (register_refusal d start len) 0 (λ z. h (q ∙ z))))

pub lookup-refused : (d : List ℕ) (start : ℕ) → let cs = lookup_checks d start in Refused cs → host_lookup d start ≡ first_of cs
unfolding host_lookup
lookup-refused d start h =
    ap found_word (lookup-is d start ∙ refused-is (lookup_checks d start) refused_lookup _ h) ∙ omega arith

module _ (img arena d : List ℕ) (mapper sub flags known : ℕ) (sizes : MemoryLayout) (options : Options) where
  pub load-blocks-refused : let cs = load_blocks_checks img arena d mapper sizes options in
      Refused cs → (host_load_blocks img arena d mapper sub flags known sizes options ≡ unaltered img arena (first_of cs))
      × (host_load_places img arena d mapper sizes options ≡ d)
  unfolding host_load_blocks
  load-blocks-refused h = (
    refused-is _ (unaltered img arena) (load_gives (length img) arena mapper sub flags known sizes options) h,
    load-places img arena d mapper sizes options ∙ refused-is _ (λ q. d) emptied h,
  )

  -- K7: with 256 places it is the load without a directory
  pub load-blocks-as-load : length d ≡ 256
      → host_load_blocks img arena d mapper sub flags known sizes options ≡ host_load img arena mapper sub flags known sizes options
  unfolding first_of host_load host_load_blocks
  load-blocks-as-load l = rw (eq-eqb (length d) 256 l)

pub write-blocks-refused : (img arena d : List ℕ) (addr v : ℕ) → let cs = on_image img (blocks_own d (state_in img) arena addr) in
    Refused cs → (host_write_blocks img arena d addr v ≡ unaltered img arena (first_of cs)) × (host_write_places img arena d addr v ≡ d)
unfolding host_write_blocks
write-blocks-refused img arena d addr v h = (
  refused-is _ (unaltered img arena) (write_gives (length img) (state_in img) arena addr v) h,
  write-places img arena d addr v ∙ refused-is _ (λ q. d) _ h,
)

-- K7: with a fit directory it is the write without one; with an unfit one, and an image of the right length, all is refused by 2
pub write-blocks-as-write : (img arena d : List ℕ) (addr v : ℕ) → fit d ≡ true
    → host_write_blocks img arena d addr v ≡ host_write img arena addr v
unfolding first_of host_write host_write_blocks
write-blocks-as-write img arena d addr v f = rw f

unfit-first : (img d : List ℕ) (own : List Check) → room_for false (length img) ≡ true → fit d ≡ false
    → first_of (on_image img (with_directory d own)) ≡ 2
unfolding first_of
unfit-first img d own l f = rw (l, f) (go (fields_check img).holds)
  where
    go : (t : Bool) → ◌≡◌ {A = ℕ} (cond t 2 2) 2
    go true = refl
    go false = refl

pub write-blocks-unfit : (img arena d : List ℕ) (addr v : ℕ) → room_for false (length img) ≡ true → fit d ≡ false
    → (host_write_blocks img arena d addr v ≡ unaltered img arena 2) × (host_write_places img arena d addr v ≡ d)
write-blocks-unfit img arena d addr v l f =
    let two = unfit-first img d (cpu_own (state_in img) arena addr) l f in
    let r = write-blocks-refused img arena d addr v (λ z. omega (arith, two, z)) in
    (r.0 ∙ ap (unaltered img arena) two, r.1)

pub stored_refused : (img d : List ℕ) (offset : ℕ) → let cs = on_image img (with_directory d []) in
    Refused cs → (host_stored img d ≡ first_of cs) × (host_stored_places img d offset ≡ d)
unfolding host_stored
stored_refused img d offset h = (refl, stored-places img d offset ∙ refused-is _ (λ q. d) _ h)
