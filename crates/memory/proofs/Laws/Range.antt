-- R9: where the memory's test is passed its parts are in range, and the other way round. Assumes nothing.
use Prim.Native.Nat.{ℕ, ◌*◌, ◌%◌, ◌≤◌}
use mathlib.Core.Path.{◌≡◌, refl}
use mathlib.Core.Bool.{Bool, true, false}
use mathlib.Core.Logic.{inl, inr}
use native.Mathlib.Omega.{arith}
use borrow.Author.Tests.{leb-true, le-leb, eqb-true, eq-eqb, ne_eqb, ltb-true, lt-ltb, not-true}
use lib.Dec.{eqb}
use Rattle.limits.specs.Limits.{used_most, prg_entries, chr_entries}
use Rattle.limits.proofs.Every.{at_most, first_of, every-at, every-all}
use Rattle.memory.specs.declared.Memory.{Memory}
use Rattle.memory.specs.declared.layout.Layout.{Layout}
use Rattle.memory.specs.declared.page.Page.{Page}
use Rattle.memory.specs.Layout.{arena_len, arena_pages}
use Rattle.memory.specs.Page.{offset_of}
use Rattle.memory.specs.Range.{layout_ok, GoodLayout, used_ok, UsedIn, entry_ok, EntryIn, entry_test, memory_ok, MemoryInRange}

-- ---- the layout

pub layout-in : (l : Layout) → layout_ok l ≡ true → GoodLayout l
unfolding layout_ok
layout-in l e =
    let h1 = at_most _ _ _ e in
    let h2 = at_most _ _ _ h1.1 in
    let h3 = at_most _ _ _ h2.1 in
    let h4 = at_most _ _ _ h3.1 in
    let h5 = at_most _ _ _ h4.1 in
    record {
      prg_rom = h1.0;
      prg_ram = h2.0;
      battery = h3.0;
      chr = h4.0;
      ciram = h5.0;
      some_ciram = leb-true _ _ h5.1;
    }

pub in-layout : (l : Layout) → GoodLayout l → layout_ok l ≡ true
unfolding layout_ok
in-layout l h =
    rw (
      le-leb _ _ h.prg_rom,
      le-leb _ _ h.prg_ram,
      le-leb _ _ h.battery,
      le-leb _ _ h.chr,
      le-leb _ _ h.ciram,
      le-leb _ _ h.some_ciram,
    )

-- ---- the used battery length

pub used-in : (u : ℕ) (l : Layout) → used_ok u l ≡ true → UsedIn u l
unfolding used_ok
used-in u l e = go (eqb u 0) refl
  where
    go : (t : Bool) → eqb u 0 ≡ t → UsedIn u l
    go true q = inl (eqb-true u 0 q)
    go false q =
        let r = first_of _ _ (rw q at e) in
        inr (eqb-true _ _ r.0, leb-true _ _ r.1)

pub in-used : (u : ℕ) (l : Layout) → UsedIn u l → used_ok u l ≡ true
unfolding used_ok
in-used u l (inl e) = rw (eq-eqb u 0 e)
in-used u l (inr h) = rw (ne_eqb u 0 (λ e. omega (arith, h.0)), eq-eqb u used_most h.0, le-leb 1 l.battery_ext h.1)

-- ---- entries

entry_in : (n : ℕ) (p : Page) → entry_ok (1024 * n) p ≡ true → EntryIn n p
unfolding entry_ok
entry_in n p e =
    let h1 = first_of _ _ e in
    let h2 = first_of _ _ h1.1 in
    record { page_start = eqb-true _ _ h1.0; inside = ltb-true _ _ h2.0; clear = not-true _ h2.1 }

in_entry : (n : ℕ) (p : Page) → EntryIn n p → entry_ok (1024 * n) p ≡ true
unfolding entry_ok
in_entry n p h = rw (eq-eqb (offset_of p % 1024) 0 h.page_start, lt-ltb (offset_of p) (1024 * n) h.inside, h.clear)

-- ---- the whole memory, both ways

pub memory-in : (m : Memory) → memory_ok m ≡ true → MemoryInRange m
unfolding memory_ok arena_len
memory-in m e =
    let l = m.layout in
    let h1 = first_of _ _ e in
    let h2 = first_of _ _ h1.1 in
    let h3 = first_of _ _ h2.1 in
    let u = used-in m.battery_ext_len l h2.0 in
    record {
      ranged =
          record {
            sized = record { layout = layout-in l h1.0; used = fits u };
            prg = λ i h. entry_in (arena_pages l) _ (every-at prg_entries (entry_test (arena_len l) m.prg_pages) h3.0 i h);
            chr = λ i h. entry_in (arena_pages l) _ (every-at chr_entries (entry_test (arena_len l) m.chr_pages) h3.1 i h);
          };
      used = u;
    }
  where
    fits : UsedIn m.battery_ext_len m.layout → m.battery_ext_len ≤ 1024 * m.layout.battery_ext
    fits (inl e) = omega arith
    fits (inr h) = omega (arith, h.0, h.1)

pub in_memory : (m : Memory) → MemoryInRange m → memory_ok m ≡ true
unfolding memory_ok arena_len
in_memory m h =
    let l = m.layout in
    rw (
      in-layout l h.ranged.sized.layout,
      in-used m.battery_ext_len l h.used,
      every-all prg_entries (entry_test (arena_len l) m.prg_pages) (λ i k. in_entry (arena_pages l) _ (h.ranged.prg i k)),
      every-all chr_entries (entry_test (arena_len l) m.chr_pages) (λ i k. in_entry (arena_pages l) _ (h.ranged.chr i k)),
    )
