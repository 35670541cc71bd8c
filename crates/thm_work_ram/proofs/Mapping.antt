-- M15: with PRG-RAM of a page or more `update_banks` is the Rust's; without PRG-RAM the window at 6000 is unmapped after it, on every
-- board and in either edition. The one hypothesis besides is that the CPU's table has 64 entries, as its type says.
use Prim.Native.Nat.{ℕ, zero, suc, ◌+◌, ◌*◌, ◌/◌, ◌%◌, ◌≤◌, ◌<◌}
use mathlib.Core.Path.{◌≡◌, refl, ap, ◌∙◌}
use mathlib.Core.Bool.{Bool, true, ◌&&◌}
use mathlib.Core.List.{List}
use native.Mathlib.Nat.{mod-eq_of_lt}
use native.Mathlib.Omega.{arith}
use borrow.Author.Tests.{ne_eqb}
use lib.IntN.{pos}
use lib.ListN.{length, get_or}
use Rattle.limits.proofs.Each.{cond-holds}
use Rattle.memory.specs.declared.Memory.{Memory}
use Rattle.memory.specs.declared.layout.Src.TheVariants.{PrgRam}
use Rattle.memory.specs.declared.page.Page.{Page}
use Rattle.memory.specs.Layout.{region_of}
use Rattle.memory.specs.Memory.{region_in}
use Rattle.memory.specs.Page.{unmapped, page_of}
use Rattle.memory.specs.Range.{MemoryTyped}
use Rattle.memory_map.specs.Windows.{window_base, region_page, rust_with_flag, with_flag, each_page, show_pages, map_pages, unmap_pages, set_writable}
use Rattle.memory_map.specs.Windows.{map_prg, unmap_prg, set_prg_writable, rust_set_prg_writable}
use Rattle.memory_map.proofs.Laws.Windows.{length-each}
use Rattle.memory_map.proofs.Laws.Memory.{each-other, each_same}
use Rattle.board_chip.specs.declared.namco163.Namco163.{Namco163}
use Rattle.board_chip.specs.Namco163.{is163}
use Rattle.board_chip.specs.Detection.{prg_ram_readable, prg_ram_writable}
use Rattle.board_banking.specs.Banking.{map_chr_table, map_rom, map_work_ram, update_banks}
use Rattle.board_protection.specs.Protection.{unprotected, remap_banks}
use Rattle.board_protection.proofs.Laws.{part-flag}
use Rattle.thm_steps.proofs.Banking.{Kept, kept_self, kept-steps, before-work-ram, update-banks-kept}
use Rattle.thm_work_ram.specs.Rust.{rust_map_work_ram, rust_update_banks}
use Rattle.thm_work_ram.specs.ZeroPage.{NoWorkRam}

-- ---- steps over a window that has just been shown

-- two steps that make the same of what is shown make the same table
same-steps : (k : ℕ) (f g : ℕ → Page → Page) (shown : ℕ → Page) (slot n : ℕ) (l : List Page) → slot + n ≤ k → length l ≡ k
    → ((i : ℕ) → i < n → f i (shown i) ≡ g i (shown i)) → (c : ℕ) → c ≤ n
    → let t = each_page k (λ i old. shown i) slot n l in each_page k f slot c t ≡ each_page k g slot c t
unfolding each_page
same-steps k f g shown slot n l s h e zero b = refl
same-steps k f g shown slot n l s h e (suc c) b =
    let t = each_page k (λ i old. shown i) slot n l in
    let before = same-steps k f g shown slot n l s h e c (omega arith) in
    let at : (slot + c) % k ≡ slot + c = mod-eq_of_lt (omega arith) in
    let apart : (j : ℕ) → j < c → slot + c ≡ (slot + j) % k → ⊥ =
    λ j z x. absurd (omega (arith, mod-eq_of_lt {n = slot + j} {m = k} (omega arith))) in
    let old : get_or (each_page k g slot c t) (slot + c) unmapped ≡ shown c =
    each-other k g slot c t (slot + c) apart ∙ each_same k (λ i old. shown i) slot n l c s h (omega arith) in
    rw (before, at, old, e c (omega arith))

-- ---- the pages of PRG-RAM

abbrev ram_page : Memory → ℕ → Page
ram_page m i = region_page (region_in m PrgRam) (window_base (region_in m PrgRam).len 8192 (pos 0) + 1024 * i)

-- an entry with the flag is not the number 0
flagged : (w : Bool) (o : ℕ) → with_flag w (page_of o true) ≡ rust_with_flag w (page_of o true)
flagged w o = rw (ne_eqb (page_of o true).0 0 (λ e. absurd (omega arith)))

-- all have the flag
ram-flagged : (m : Memory) (w : Bool) (i : ℕ) → 1 ≤ m.layout.prg_ram → with_flag w (ram_page m i) ≡ rust_with_flag w (ram_page m i)
unfolding region_page region_of
ram-flagged m w i some = rw (ne_eqb (1024 * m.layout.prg_ram) 0 (λ e. absurd (omega arith))) (flagged w _)

-- and without PRG-RAM all are unmapped
ram-none : (m : Memory) (i : ℕ) → m.layout.prg_ram ≡ 0 → ram_page m i ≡ unmapped
unfolding region_page region_of
ram-none m i none = rw none

-- ---- the mapping of work RAM

work-ram-as-rust : (n : Namco163) (m : Memory) → length m.prg_pages ≡ 64 → 1 ≤ m.layout.prg_ram → map_work_ram n m ≡ rust_map_work_ram n m
unfolding map_work_ram rust_map_work_ram map_prg map_pages show_pages set_prg_writable set_writable rust_set_prg_writable
work-ram-as-rust n m long some =
    let w = prg_ram_writable n.board n.regs.prg_ram_protect in
    rw (same-steps 64 (λ i old. with_flag w old) (λ i old. rust_with_flag w old) (ram_page m) 24 8 m.prg_pages (omega arith) long
    (λ i h. ram-flagged m w i some) 8 (omega arith))

no-work-ram : (n : Namco163) (m : Memory) → length m.prg_pages ≡ 64 → m.layout.prg_ram ≡ 0 → NoWorkRam (map_work_ram n m)
unfolding map_work_ram map_prg unmap_prg map_pages show_pages unmap_pages set_prg_writable set_writable
no-work-ram n m long none i h =
    let w = prg_ram_writable n.board n.regs.prg_ram_protect in
    let l = m.prg_pages in
    let shown : get_or (each_page 64 (λ i old. ram_page m i) 24 8 l) (24 + i) unmapped ≡ unmapped =
    each_same 64 (λ i old. ram_page m i) 24 8 l i (omega arith) long h ∙ ram-none m i none in
    cond-holds (λ (k : Memory). get_or k.prg_pages (24 + i) unmapped ≡ unmapped) (prg_ram_readable n.board) _ _
    (each_same 64 (λ i old. with_flag w old) 24 8 (each_page 64 (λ i old. ram_page m i) 24 8 l) i (omega arith)
    (length-each 64 _ 24 8 l ∙ long) h
    ∙ ap (with_flag w) shown)
    (each_same 64 (λ i old. unmapped) 24 8 l i (omega arith) long h)

-- ---- update_banks

-- what stands before it
before : (n : Namco163) (m : Memory) → Kept m (map_rom n (map_chr_table n m))
before n m = before-work-ram (Kept m) (kept-steps m) n m (kept_self m)

pub ram-as-rust : (n : Namco163) (m : Memory) → MemoryTyped m → 1 ≤ m.layout.prg_ram → update_banks n m ≡ rust_update_banks n m
unfolding update_banks rust_update_banks
ram-as-rust n m typed some =
    let k = before n m in work-ram-as-rust n _ (k.typed typed).prg (rw k.layout some)

pub no-ram : (n : Namco163) (m : Memory) → MemoryTyped m → m.layout.prg_ram ≡ 0 → NoWorkRam (update_banks n m)
unfolding update_banks
no-ram n m typed none = let k = before n m in no-work-ram n _ (k.typed typed).prg (rw k.layout none)

-- L20: a part's flag leaves an unmapped entry
pub no-ram-either : (protects : Bool) (n : Namco163) (m : Memory) → MemoryTyped m → m.layout.prg_ram ≡ 0
    → NoWorkRam (remap_banks protects n m)
unfolding remap_banks
no-ram-either protects n m typed none =
    let v = n.regs.prg_ram_protect in
    let bare = no-ram n m typed none in
    let long = ((update-banks-kept n m).typed typed).prg in
    cond-holds NoWorkRam (protects && is163 n.board) _ _
    (λ i h. part-flag v (update_banks n m) long i h ∙ ap (with_flag (unprotected v (i / 2))) (bare i h)) bare
