-- Every access lies in the arena, and a store changes one byte of it and nothing else. Assumes nothing.
use Prim.Native.Nat.{ℕ, ◌+◌, ◌-◌, ◌*◌, ◌/◌, ◌%◌, ◌≤◌, ◌<◌}
use mathlib.Core.Bool.{Bool, true, false, cond}
use mathlib.Core.Option.{Option, some, none}
use mathlib.Core.Path.{◌≡◌, refl, sym, ap, ◌∙◌}
use mathlib.Core.List.{List, ◌++◌, append_assoc}
use native.Mathlib.Omega.{arith}
use native.Mathlib.Nat.{mod-lt}
use borrow.Author.Tests.{eq-eqb, ne_eqb}
use native.Mathlib.Decide.{ℕ_discrete}
use lib.Dec.{eqb}
use lib.ListN.{length, length-set, length-append, get_or, take, drop, get_or-append}
use lib.Seq.{drop-drop, get_or-set_same, get_or-set_other, get_or-append-add, get_or-take, get_or-drop, take-length, length-take-le, length-paste}
use Rattle.memory.specs.declared.layout.Region.{Region}
use Rattle.memory.specs.declared.layout.Src.{Src}
use Rattle.memory.proofs.Laws.Layout.{region-in}
use Rattle.memory.specs.declared.Memory.{Memory}
use Rattle.memory.specs.declared.page.Page.{Page}
use Rattle.std.specs.Prelude as code
use Rattle.std.specs.Prelude.{IfSome}
use Rattle.memory_bytes.specs.Bytes.{Backed, prg_entry, chr_entry, place, shown_at, stored_at, wrapped_at, fetch, store, overlay}
use Rattle.memory.specs.Layout.{arena_len, arena_pages}
use Rattle.memory.specs.Memory.{region_in}
use Rattle.memory.specs.Range.{EntryIn}
use Rattle.memory.specs.Page.{unmapped, offset_of, writable_of}

-- an entry's whole page lies in the arena
entry-page : (n : ℕ) (p : Page) → EntryIn n p → offset_of p + 1024 ≤ 1024 * n
entry-page n p e = omega arith

-- so does that of every entry of the tables
pub prg-page : (m : Memory) (arena : List ℕ) → Backed m arena → (i : ℕ) → i < 64
    → offset_of (get_or m.prg_pages i unmapped) + 1024 ≤ length arena
unfolding arena_len
prg-page m arena b i h = rw b.long (entry-page (arena_pages m.layout) _ (b.ranged.prg i h))

pub chr-page : (m : Memory) (arena : List ℕ) → Backed m arena → (i : ℕ) → i < 16
    → offset_of (get_or m.chr_pages i unmapped) + 1024 ≤ length arena
unfolding arena_len
chr-page m arena b i h = rw b.long (entry-page (arena_pages m.layout) _ (b.ranged.chr i h))

-- an offset that wraps in a region stays in it
wrapped-in : (start len offset n : ℕ) → (len ≡ 0 → ⊥) → start + len ≤ n → start + offset % len < n
wrapped-in start len offset n ne h = let p : 0 < len = omega (arith, ne) in omega (arith, mod-lt offset p)

-- the regions of a memory lie in its arena
pub region-backed : (m : Memory) (arena : List ℕ) → Backed m arena → (s : Src)
    → (region_in m s).start + (region_in m s).len ≤ length arena
region-backed m arena b s = rw b.long (region-in m.layout m.battery_ext_len s b.ranged.sized.used)

-- ---- a store

pub store_length : (arena : List ℕ) (at : Option ℕ) (v : ℕ) → length (store arena at v) ≡ length arena
store_length arena none v = refl
store_length arena (some i) v = length-set arena i v

-- every byte but the one that is stored into stays
pub store_other : (arena : List ℕ) (at : Option ℕ) (v j : ℕ) → (at ≡ some j → ⊥) → get_or (store arena at v) j 0 ≡ get_or arena j 0
store_other arena none v j out = refl
store_other arena (some i) v j out = get_or-set_other arena i j v 0 (λ e. out (ap some (sym e)))

pub store_same : (arena : List ℕ) (i v : ℕ) → i < length arena → fetch (store arena (some i) v) (some i) ≡ v
store_same arena i v h = get_or-set_same arena i v 0 h

-- a write through a page in the arena stores into that page
pub stored-page : (n : ℕ) (p : Page) (addr i : ℕ) → EntryIn n p → stored_at p addr ≡ some i
    → (i / 1024 ≡ offset_of p / 1024) × (i < 1024 * n)
unfolding stored_at
stored-page n p addr i e = go (writable_of p)
  where
    go : (w : Bool) → cond w (some (shown_at p addr)) none ≡ some i → (i / 1024 ≡ offset_of p / 1024) × (i < 1024 * n)
    go true s = let at : shown_at p addr ≡ i = cc in (omega (arith, e.page_start), omega (arith, e.page_start, e.inside))
    go false s = let z : ◌≡◌ {A = ℕ} 0 1 = cc in absurd (omega arith)

-- a write to a region stores into that region
pub wrapped-region : (r : Region) (offset i : ℕ) → wrapped_at r offset ≡ some i → (r.start ≤ i) × (i < r.start + r.len)
unfolding wrapped_at
wrapped-region r offset i = by (ℕ_discrete r.len 0)
  where
    by : Dec (r.len ≡ 0) → cond (eqb r.len 0) none (some (r.start + offset % r.len)) ≡ some i
        → (r.start ≤ i) × (i < r.start + r.len)
    by (yes e) s = let z : ◌≡◌ {A = ℕ} 0 1 = (let t : Path (Option ℕ) none (some i) = rw (eq-eqb r.len 0 e) at s in cc) in absurd
        (omega arith)
    by (no ne) s =
        let t : Path (Option ℕ) (some (r.start + offset % r.len)) (some i) = rw (ne_eqb r.len 0 ne) at s in
        let at : r.start + offset % r.len ≡ i = cc in
        (omega arith, omega (arith, wrapped-in r.start r.len offset (r.start + r.len) ne (omega arith)))

-- ---- the places of a memory's accesses lie in its arena

pub prg-stored : (m : Memory) (arena : List ℕ) (addr : ℕ) → Backed m arena → addr < 65536 → (i : ℕ)
    → stored_at (prg_entry m addr) addr ≡ some i → i < length arena
unfolding arena_len
prg-stored m arena addr b h i e =
    rw b.long (stored-page (arena_pages m.layout) (prg_entry m addr) addr i (b.ranged.prg (addr / 1024) (omega arith)) e).1

pub chr-stored : (m : Memory) (arena : List ℕ) (addr : ℕ) → Backed m arena → (i : ℕ)
    → stored_at (chr_entry m addr) addr ≡ some i → i < length arena
unfolding arena_len
chr-stored m arena addr b i e =
    rw b.long (stored-page (arena_pages m.layout) (chr_entry m addr) addr i (b.ranged.chr (addr / 1024 % 16) (omega arith)) e).1

pub region-stored : (m : Memory) (arena : List ℕ) (s : Src) (offset : ℕ) → Backed m arena → (i : ℕ)
    → wrapped_at (region_in m s) offset ≡ some i → i < length arena
region-stored m arena s offset b i e = omega (arith, wrapped-region (region_in m s) offset i e, region-backed m arena b s)

-- so the code's place, where there is one, is an index of it
pub placed : (at : code.Option ℕ) (o : Option ℕ) (n : ℕ) → place at ≡ o → ((i : ℕ) → o ≡ some i → i < n) → IfSome at (λ i. i < n)
placed code.None o n e h = tt
placed (code.Some i) o n e h = h i (sym e)

-- ---- bytes laid over the arena

-- a part of the arena that was lent comes back in its place
pub overlay-back : (arena bytes : List ℕ) (at : ℕ)
    → take at arena ++ (bytes ++ drop (at + length bytes - at) (drop at arena)) ≡ overlay arena at bytes
overlay-back arena bytes at =
    let e : at + length bytes - at ≡ length bytes = omega arith in
    rw (e, drop-drop (length bytes) at arena, append_assoc)

pub overlay-length : (arena : List ℕ) (at : ℕ) (bytes : List ℕ) → at + length bytes ≤ length arena → length (overlay arena at bytes)
    ≡ length arena
overlay-length arena at bytes h = rw (take-length bytes) at (length-paste arena at bytes (length bytes) h (omega arith))

-- a byte before or behind them stays, and those between are the new ones
pub overlay-before : (arena : List ℕ) (at : ℕ) (bytes : List ℕ) (j : ℕ) → at + length bytes ≤ length arena → j < at
    → get_or (overlay arena at bytes) j 0 ≡ get_or arena j 0
overlay-before arena at bytes j h before =
    let l : length (take at arena) ≡ at = length-take-le at arena (omega arith) in
    rw append_assoc (get_or-append (take at arena) (bytes ++ drop (at + length bytes) arena) 0 j (omega arith)
    ∙ get_or-take at arena j 0 before)

pub overlay-behind : (arena : List ℕ) (at : ℕ) (bytes : List ℕ) (j : ℕ) → at + length bytes ≤ length arena → at + length bytes ≤ j
    → get_or (overlay arena at bytes) j 0 ≡ get_or arena j 0
overlay-behind arena at bytes j h behind =
    let l : length (take at arena ++ bytes) ≡ at + length bytes =
    length-append (take at arena) bytes ∙ ap (λ (x : ℕ). x + length bytes) (length-take-le at arena (omega arith)) in
    let e : length (take at arena ++ bytes) + (j - (at + length bytes)) ≡ j = omega arith in
    let f : at + length bytes + (j - (at + length bytes)) ≡ j = omega arith in
    rw e at (get_or-append-add (take at arena ++ bytes) (drop (at + length bytes) arena) (j - (at + length bytes)) 0)
    ∙ rw f at (get_or-drop (at + length bytes) arena (j - (at + length bytes)) 0)

pub overlay-between : (arena : List ℕ) (at : ℕ) (bytes : List ℕ) (j : ℕ) → at + length bytes ≤ length arena → j < length bytes
    → get_or (overlay arena at bytes) (at + j) 0 ≡ get_or bytes j 0
overlay-between arena at bytes j h between =
    let l : length (take at arena) ≡ at = length-take-le at arena (omega arith) in
    rw append_assoc
    (rw l at (get_or-append-add (take at arena) (bytes ++ drop (at + length bytes) arena) j 0)
    ∙ get_or-append bytes (drop (at + length bytes) arena) 0 j between)
