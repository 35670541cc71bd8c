-- Every mapping step gives entries in range (R9), and keeps what the types say of the tables.
use Prim.Native.Nat.{ℕ, zero, suc, ◌+◌, ◌*◌, ◌/◌, ◌%◌, ◌^◌, ◌≤◌, ◌<◌}
use mathlib.Core.Path.{◌≡◌, refl, ap, ap₂, ◌∙◌}
use mathlib.Core.Bool.{Bool, true, false, cond}
use mathlib.Core.List.{List}
use mathlib.Core.Logic.{◌⊎◌, inl, inr}
use native.Mathlib.Decide.{ℕ_discrete}
use native.Mathlib.Nat.{mod-lt, mod-eq_of_lt, mul_assoc, eq-zero-or-pos}
use native.Mathlib.Omega.{arith}
use borrow.Author.Tests.{eq-eqb, ne_eqb}
use lib.Arith.{mod-mul}
use lib.IntN.{ℤ}
use lib.Dec.{eqb}
use lib.ListN.{length, get_or, set, replicate, get_or-replicate}
use lib.Seq.{get_or-set_same, get_or-set_other}
use Rattle.memory.specs.declared.Memory.{Memory}
use Rattle.memory.specs.declared.layout.Layout.{Layout}
use Rattle.memory.specs.declared.layout.MemoryLayout.{MemoryLayout}
use Rattle.memory.specs.declared.layout.Region.{Region}
use Rattle.memory.specs.declared.layout.Src.{Src}
use Rattle.memory.specs.declared.layout.Src.TheVariants.{CiRam}
use Rattle.memory.specs.declared.mirroring.Mirroring.{Mirroring}
use Rattle.memory.specs.declared.mirroring.Mirroring.TheVariants.{Horizontal}
use Rattle.memory.specs.declared.page.Page.{Page}
use Rattle.memory.specs.Layout.{within_limits, layout_of, first_page, arena_pages, pages_in, region_len, region_of}
use Rattle.memory.specs.Memory.{region_in, with_prg_pages, with_chr_pages}
use Rattle.memory.specs.Range.{GoodLayout, EntryIn, TableIn, Ranged, MemoryTyped}
use Rattle.memory.specs.Page.{unmapped, page_of, offset_of}
use Rattle.memory_map.specs.Mirroring.{ciram_banks, nametable_page, mirror_pages, set_mirroring}
use Rattle.memory_map.specs.New.{unmapped_memory, new_memory}
use Rattle.memory_map.specs.Windows.{rust_with_flag, with_flag, banks_of, modulo, window_base, region_page, each_page, show_pages, map_pages, unmap_pages}
use Rattle.memory_map.specs.Windows.{set_writable, map_prg, map_chr, unmap_prg, set_prg_writable}
use Rattle.memory.proofs.Laws.Layout.{region-ends, pages-le, layout-good}
use Rattle.limits.proofs.Each.{each_set, each-replicate}
use Rattle.memory.proofs.Laws.Page.{offset-page, bit-page}
use Rattle.memory_map.proofs.Laws.Windows.{length-each}

-- ---- entries

-- an entry that was made of a page's start
pub page-in : (n page : ℕ) (w : Bool) → page < n → n ≤ 2 ^ 20 → EntryIn n (page_of (1024 * page) w)
page-in n page w h small =
    let e : offset_of (page_of (1024 * page) w) ≡ 1024 * page = offset-page (1024 * page) w (omega arith) in
    record { page_start = rw e (omega arith); inside = rw e (omega arith); clear = bit-page (1024 * page) w }

pub unmapped-in : (n : ℕ) → 0 < n → EntryIn n unmapped
unmapped-in n h = record { page_start = refl; inside = omega arith; clear = refl }

pub flag-in : (n : ℕ) (w : Bool) (p : Page) → EntryIn n p → EntryIn n (with_flag w p)
flag-in n w p e = by (eqb p.0 0)
  where
    by : (t : Bool) → EntryIn n (cond t p (rust_with_flag w p))
    by true = e
    by false =
        let o : offset_of (rust_with_flag w p) ≡ offset_of p = offset-page (offset_of p) w (omega arith) in
        record { page_start = rw o e.page_start; inside = rw o e.inside; clear = bit-page (offset_of p) w }

-- ---- tables

-- an entry outside the window stays
pub each-other : (k : ℕ) (f : ℕ → Page → Page) (slot n : ℕ) (t : List Page) (j : ℕ)
    → ((i : ℕ) → i < n → j ≡ (slot + i) % k → ⊥) → get_or (each_page k f slot n t) j unmapped ≡ get_or t j unmapped
unfolding each_page
each-other k f slot zero t j out = refl
each-other k f slot (suc n) t j out =
    get_or-set_other (each_page k f slot n t) ((slot + n) % k) j _ unmapped (out n (omega arith))
    ∙ each-other k f slot n t j (λ i h. out i (omega arith))

-- an entry inside the window is what the step makes of it
pub each_same : (k : ℕ) (f : ℕ → Page → Page) (slot n : ℕ) (l : List Page) (i : ℕ) → slot + n ≤ k → length l ≡ k → i < n
    → get_or (each_page k f slot n l) (slot + i) unmapped ≡ f i (get_or l (slot + i) unmapped)
unfolding each_page
each_same k f slot zero l i s h b = absurd (omega arith)
each_same k f slot (suc n) l i s h b =
    let at : (slot + n) % k ≡ slot + n = mod-eq_of_lt (omega arith) in
    rw at (by (ℕ_discrete i n) (each_same k f slot n l i (omega arith) h))
  where
    by : Dec (i ≡ n) → (i < n → get_or (each_page k f slot n l) (slot + i) unmapped ≡ f i (get_or l (slot + i) unmapped))
        → get_or (set (each_page k f slot n l) (slot + n) (f n (get_or (each_page k f slot n l) (slot + n) unmapped))) (slot + i) unmapped
        ≡ f i (get_or l (slot + i) unmapped)
    by (yes e) ih =
        let old = each_page k f slot n l in
        let long : length old ≡ k = length-each k f slot n l ∙ h in
        let apart : (j : ℕ) → j < n → slot + n ≡ (slot + j) % k → ⊥ =
        λ j z x. absurd (omega (arith, mod-eq_of_lt {n = slot + j} {m = k} (omega arith))) in
        rw e
        (get_or-set_same old (slot + n) (f n (get_or old (slot + n) unmapped)) unmapped (omega arith)
        ∙ ap (f n) (each-other k f slot n l (slot + n) apart))
    by (no ne) ih =
        let old = each_page k f slot n l in
        get_or-set_other old (slot + n) (slot + i) (f n (get_or old (slot + n) unmapped)) unmapped (λ x. ne (omega arith))
        ∙ ih (omega (arith, ne))

-- what a step keeps of each entry it keeps of those entries of a table that Q names
each_of : (P : Page → Type 0) (Q : ℕ → Type 0) (k : ℕ) (f : ℕ → Page → Page) → ((j : ℕ) → Q (j % k))
    → ((i : ℕ) (p : Page) → P p → P (f i p)) → (slot n : ℕ) (t : List Page)
    → ((j : ℕ) → Q j → P (get_or t j unmapped)) → (j : ℕ) → Q j → P (get_or (each_page k f slot n t) j unmapped)
unfolding each_page
each_of P Q k f inside good slot zero t h j q = h j q
each_of P Q k f inside good slot (suc n) t h j q =
    let before = each_of P Q k f inside good slot n t h in
    let new = good n _ (before ((slot + n) % k) (inside (slot + n))) in
    each_set P unmapped (each_page k f slot n t) ((slot + n) % k) _ new j (before j q)

-- of all entries
pub each_holds : (P : Page → Type 0) (k : ℕ) (f : ℕ → Page → Page) → ((i : ℕ) (p : Page) → P p → P (f i p)) → (slot n : ℕ) (t : List Page)
    → ((j : ℕ) → P (get_or t j unmapped)) → (j : ℕ) → P (get_or (each_page k f slot n t) j unmapped)
each_holds P k f good slot n t h j = each_of P (λ (j : ℕ). Unit {0}) k f (λ j. tt) good slot n t (λ j q. h j) j tt

-- of those of a table of k, that they lie in the arena
pub each_in : (n k : ℕ) (f : ℕ → Page → Page) → 0 < k → ((i : ℕ) (p : Page) → EntryIn n p → EntryIn n (f i p))
    → (slot m : ℕ) (t : List Page) → TableIn n k t → TableIn n k (each_page k f slot m t)
each_in n k f some good = each_of (EntryIn n) (λ (j : ℕ). j < k) k f (λ j. mod-lt j some) good

-- ---- regions of whole pages

-- a region that is y pages from page x on, inside n pages
pub record Paged (n : ℕ) (r : Region) : Type 0 where
  pub x : ℕ
  pub y : ℕ
  pub start : r.start ≡ 1024 * x
  pub len : r.len ≡ 1024 * y
  pub within : x + y ≤ n

-- each region that the board maps is as long as its pages: `refl` there
pub region-paged : (l : Layout) (used : ℕ) (s : Src) → region_len l used s ≡ 1024 * pages_in l s
    → Paged (arena_pages l) (region_of l used s)
unfolding region_of
region-paged l used s e = record { x = first_page l s; y = pages_in l s; start = refl; len = e; within = region-ends l s }

-- a number of whole pages, modulo a number of whole pages
whole-mod : (z y : ℕ) → 0 < y → 1024 * z % (1024 * y) ≡ 1024 * (z % y)
whole-mod z y h =
    let low : z * 1024 % 1024 ≡ 0 = omega arith in
    let high : z * 1024 / 1024 ≡ z = omega arith in
    let a : 1024 * z ≡ z * 1024 = omega arith in
    let b : 1024 * y ≡ y * 1024 = omega arith in
    rw (a, b) (mod-mul (z * 1024) {m = y} {c = 1024} h (omega arith) ∙ rw (low, high) (omega arith))

-- a whole page of a region lies in the arena
pub region-page-in : (n : ℕ) (r : Region) (z : ℕ) → 0 < n → n ≤ 2 ^ 20 → Paged n r → EntryIn n (region_page r (1024 * z))
unfolding region_page
region-page-in n r z some small p = by (eq-zero-or-pos p.y)
  where
    by : (p.y ≡ 0) ⊎ (0 < p.y) → EntryIn n (region_page r (1024 * z))
    by (inl e) = rw (eq-eqb r.len 0 (omega (arith, p.len))) (unmapped-in n some)
    by (inr h) =
        let at : r.start + 1024 * z % r.len ≡ 1024 * (p.x + z % p.y) =
        ap₂ ◌+◌ p.start (ap (λ (len : ℕ). 1024 * z % len) p.len ∙ whole-mod z p.y h) ∙ omega arith in
        rw (ne_eqb r.len 0 (λ e. absurd (omega (arith, p.len))), at)
        (page-in n (p.x + z % p.y) r.writable (omega (arith, mod-lt z h, p.within)) small)

-- ---- windows of whole pages and the nametables

module _ (n : ℕ) (r : Region) (some : 0 < n) (small : n ≤ 2 ^ 20) (p : Paged n r) where
  map-in : (k : ℕ) → 0 < k → (s : ℕ) (b : ℤ) (slot : ℕ) (t : List Page) → s % 1024 ≡ 0 → TableIn n k t
      → TableIn n k (map_pages k r s b slot t)
  unfolding map_pages show_pages window_base
  map-in k entries s b slot t whole = each_in n k _ entries (λ i old e. go i) slot (s / 1024) t
    where
      go : (i : ℕ) → EntryIn n (region_page r (window_base r.len s b + 1024 * i))
      go i =
          let bank = modulo b (banks_of r.len s) in
          let pages : s ≡ s / 1024 * 1024 = omega arith in
          let same : bank * s + 1024 * i ≡ 1024 * (bank * (s / 1024) + i) =
          ap (λ (x : ℕ). bank * x + 1024 * i) pages ∙ omega (arith, mul_assoc bank (s / 1024) 1024) in
          rw same (region-page-in n r (bank * (s / 1024) + i) some small p)

  mirror-in : (banks : List ℕ) (t : List Page) → 0 < p.y → TableIn n 16 t → TableIn n 16 (mirror_pages banks r t)
  unfolding mirror_pages nametable_page
  mirror-in banks t h = each_in n 16 _ (omega arith) (λ i old e. go (get_or banks (i % 4) 0)) 8 8 t
    where
      go : (bank : ℕ) → EntryIn n (nametable_page r bank)
      go bank =
          let y : r.len / 1024 ≡ p.y = omega (arith, p.len) in
          let at : r.start + 1024 * (bank % p.y) ≡ 1024 * (p.x + bank % p.y) = omega (arith, p.start) in
          rw (y, at) (page-in n (p.x + bank % p.y) true (omega (arith, mod-lt bank h, p.within)) small)

-- ---- the memory's steps

arena-some : (l : Layout) → 0 < arena_pages l
unfolding arena_pages
arena-some l = omega arith

arena-small : (l : Layout) → GoodLayout l → arena_pages l ≤ 2 ^ 20
arena-small l g = omega (arith, pages-le l g)

module _ (m : Memory) (q : Ranged m) where
  -- the memory with another table of entries in the arena
  with-prg : (t : List Page) → TableIn (arena_pages m.layout) 64 t → Ranged (with_prg_pages m t)
  with-prg t h = record { sized = record { layout = q.sized.layout; used = q.sized.used }; prg = h; chr = q.chr }

  with-chr : (t : List Page) → TableIn (arena_pages m.layout) 16 t → Ranged (with_chr_pages m t)
  with-chr t h = record { sized = record { layout = q.sized.layout; used = q.sized.used }; prg = q.prg; chr = h }

  -- a window of either table, onto a region of whole pages
  window-in : (k : ℕ) → 0 < k → (addr s : ℕ) (b : ℤ) (src : Src) (t : List Page) → s % 1024 ≡ 0
      → region_len m.layout m.battery_ext_len src ≡ 1024 * pages_in m.layout src → TableIn (arena_pages m.layout) k t
      → TableIn (arena_pages m.layout) k (map_pages k (region_in m src) s b (addr / 1024) t)
  window-in k entries addr s b src t whole e =
      map-in (arena_pages m.layout) _ (arena-some m.layout) (arena-small m.layout q.sized.layout)
      (region-paged m.layout m.battery_ext_len src e) k entries s b (addr / 1024) t whole

  pub ranged-map-prg : (addr s : ℕ) (b : ℤ) (src : Src) → s % 1024 ≡ 0
      → region_len m.layout m.battery_ext_len src ≡ 1024 * pages_in m.layout src → Ranged (map_prg m addr s b src)
  unfolding map_prg
  ranged-map-prg addr s b src whole e = with-prg _ (window-in 64 (omega arith) addr s b src m.prg_pages whole e q.prg)

  pub ranged-map-chr : (addr s : ℕ) (b : ℤ) (src : Src) → s % 1024 ≡ 0
      → region_len m.layout m.battery_ext_len src ≡ 1024 * pages_in m.layout src → Ranged (map_chr m addr s b src)
  unfolding map_chr
  ranged-map-chr addr s b src whole e = with-chr _ (window-in 16 (omega arith) addr s b src m.chr_pages whole e q.chr)

  pub ranged-unmap-prg : (addr s : ℕ) → Ranged (unmap_prg m addr s)
  unfolding unmap_prg unmap_pages
  ranged-unmap-prg addr s =
      with-prg _ (each_in _ 64 _ (omega arith) (λ i old e. unmapped-in _ (arena-some m.layout)) (addr / 1024) (s / 1024) _ q.prg)

  pub ranged-set-writable : (addr s : ℕ) (w : Bool) → Ranged (set_prg_writable m addr s w)
  unfolding set_prg_writable set_writable
  ranged-set-writable addr s w =
      with-prg _ (each_in _ 64 _ (omega arith) (λ i old e. flag-in _ w old e) (addr / 1024) (s / 1024) _ q.prg)

  pub ranged-mirroring : (k : Mirroring) → Ranged (set_mirroring m k)
  unfolding set_mirroring region-paged
  ranged-mirroring k =
      with-chr _
      (mirror-in (arena_pages m.layout) _ (arena-some m.layout) (arena-small m.layout q.sized.layout)
      (region-paged m.layout m.battery_ext_len CiRam refl) (ciram_banks k) _ q.sized.layout.some_ciram q.chr)

-- ---- the new memory

blank-in : (n k : ℕ) → 0 < n → TableIn n k (replicate k unmapped)
blank-in n k some i h = rw (get_or-replicate k i unmapped unmapped h) (unmapped-in n some)

pub ranged-new : (s : MemoryLayout) → within_limits s ≡ true → Ranged (new_memory s)
unfolding new_memory unmapped_memory
ranged-new s e =
    ranged-mirroring (unmapped_memory s)
    (record {
      sized = record { layout = layout-good s e; used = omega arith };
      prg = blank-in (arena_pages (layout_of s)) 64 (arena-some (layout_of s));
      chr = blank-in (arena_pages (layout_of s)) 16 (arena-some (layout_of s));
    })
    Horizontal

-- ---- what the types say stays: each step changes one table, by `each_page`

abbrev Word : Page → Type 0
Word p = p.0 < 2 ^ 32

page-word : (o : ℕ) (w : Bool) → Word (page_of o w)
page-word o true = omega arith
page-word o false = omega arith

region-word : (r : Region) (o : ℕ) → Word (region_page r o)
unfolding region_page
region-word r o = go (eqb r.len 0)
  where
    go : (t : Bool) → Word (cond t unmapped (page_of (r.start + o % r.len) r.writable))
    go true = omega arith
    go false = page-word (r.start + o % r.len) r.writable

flag_word : (w : Bool) (p : Page) → Word p → Word (with_flag w p)
flag_word w p h = go (eqb p.0 0)
  where
    go : (t : Bool) → Word (cond t p (rust_with_flag w p))
    go true = h
    go false = page-word (offset_of p) w

module _ (m : Memory) (q : MemoryTyped m) where
  prg-typed : (f : ℕ → Page → Page) → ((i : ℕ) (p : Page) → Word p → Word (f i p)) → (slot n : ℕ)
      → MemoryTyped (with_prg_pages m (each_page 64 f slot n m.prg_pages))
  prg-typed f good slot n =
      record {
        prg = length-each 64 f slot n m.prg_pages ∙ q.prg;
        chr = q.chr;
        prg_words = each_holds Word 64 f good slot n m.prg_pages q.prg_words;
        chr_words = q.chr_words;
      }

  chr-typed : (f : ℕ → Page → Page) → ((i : ℕ) (p : Page) → Word p → Word (f i p)) → (slot n : ℕ)
      → MemoryTyped (with_chr_pages m (each_page 16 f slot n m.chr_pages))
  chr-typed f good slot n =
      record {
        prg = q.prg;
        chr = length-each 16 f slot n m.chr_pages ∙ q.chr;
        prg_words = q.prg_words;
        chr_words = each_holds Word 16 f good slot n m.chr_pages q.chr_words;
      }

  pub typed-map-prg : (addr s : ℕ) (b : ℤ) (src : Src) → MemoryTyped (map_prg m addr s b src)
  unfolding map_prg map_pages show_pages
  typed-map-prg addr s b src = prg-typed _ (λ i p h. region-word _ _) (addr / 1024) (s / 1024)

  pub typed-map-chr : (addr s : ℕ) (b : ℤ) (src : Src) → MemoryTyped (map_chr m addr s b src)
  unfolding map_chr map_pages show_pages
  typed-map-chr addr s b src = chr-typed _ (λ i p h. region-word _ _) (addr / 1024) (s / 1024)

  pub typed-unmap-prg : (addr s : ℕ) → MemoryTyped (unmap_prg m addr s)
  unfolding unmap_prg unmap_pages
  typed-unmap-prg addr s = prg-typed _ (λ i p h. omega arith) (addr / 1024) (s / 1024)

  pub typed-set-writable : (addr s : ℕ) (w : Bool) → MemoryTyped (set_prg_writable m addr s w)
  unfolding set_prg_writable set_writable
  typed-set-writable addr s w = prg-typed _ (λ i p h. flag_word w p h) (addr / 1024) (s / 1024)

  pub typed-mirroring : (k : Mirroring) → MemoryTyped (set_mirroring m k)
  unfolding set_mirroring mirror_pages nametable_page
  typed-mirroring k = chr-typed _ (λ i p h. page-word _ true) 8 8

pub typed-new : (s : MemoryLayout) → MemoryTyped (new_memory s)
unfolding new_memory unmapped_memory
typed-new s =
    typed-mirroring (unmapped_memory s)
    (record {
      prg = refl;
      chr = refl;
      prg_words = each-replicate Word 64 unmapped unmapped (omega arith) (omega arith);
      chr_words = each-replicate Word 16 unmapped unmapped (omega arith) (omega arith);
    })
    Horizontal
