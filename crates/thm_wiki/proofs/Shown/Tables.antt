-- L13, L20: `update_banks` and the flags of protected work RAM show what the registers select, entry by entry of the two tables. Assumes
-- nothing.
use Prim.Native.Nat.{ℕ, zero, suc, ◌+◌, ◌*◌, ◌/◌, ◌%◌, ◌^◌, ◌≤◌, ◌<◌}
use mathlib.Core.Path.{◌≡◌, refl, sym, ap, ◌∙◌}
use mathlib.Core.Bool.{Bool, true, false, cond}
use mathlib.Core.List.{List}
use native.Mathlib.Decide.{ℕ_discrete}
use native.Mathlib.Nat.{mod-lt}
use native.Mathlib.Omega.{arith}
use borrow.Author.Tests.{eq-eqb, ne_eqb, le-ltb}
use lib.Dec.{ltb}
use lib.IntN.{pos, negsuc}
use lib.ListN.{length, length-set, get_or, set}
use lib.Seq.{get_or-set_same, get_or-set_other}
use Rattle.limits.proofs.Each.{cond-holds}
use Rattle.memory.specs.declared.Memory.{Memory}
use Rattle.memory.specs.declared.page.Page.{Page}
use Rattle.memory.specs.declared.layout.Region.{Region}
use Rattle.memory.specs.declared.layout.Src.TheVariants.{PrgRam, CiRam}
use Rattle.memory.specs.Memory.{region_in, with_prg_pages, with_chr_pages}
use Rattle.memory.specs.Page.{unmapped, offset_of}
use Rattle.memory.specs.Range.{MemoryTyped}
use Rattle.memory.proofs.Laws.Page.{offset-page}
use Rattle.memory_map.specs.Mirroring.{ciram_banks, nametable_page, mirror_pages, set_mirroring}
use Rattle.memory_map.specs.Windows.{window_base, region_page, with_flag, each_page, show_pages, map_pages, unmap_pages, set_writable}
use Rattle.memory_map.specs.Windows.{map_prg, unmap_prg, set_prg_writable}
use Rattle.memory_map.proofs.Laws.Windows.{length-each}
use Rattle.memory_map.proofs.Laws.Memory.{each-other, each_same}
use Rattle.board_chip.specs.declared.namco163.Board.{Board}
use Rattle.board_chip.specs.declared.namco163.Board.TheVariants.{Unknown, Namco163 as Is163, Namco175, Namco340}
use Rattle.board_chip.specs.declared.namco163.Namco163.{Namco163}
use Rattle.board_chip.specs.Namco163.{is163}
use Rattle.board_chip.specs.Detection.{prg_ram_readable, prg_ram_writable}
use Rattle.board_banking.specs.Banking.{slot_src, slot_pages, map_slot, map_slots, map_chr_table, map_rom, map_work_ram, update_banks}
use Rattle.board_banking.proofs.Slots.{slot-alone}
use Rattle.board_protection.specs.Protection.{unprotected, protect_parts, remap_banks}
use Rattle.board_protection.proofs.Laws.{old-tables, other-tables, new-tables, part-flag, part-else}
use Rattle.thm_steps.proofs.Banking.{update-banks-kept}
use Rattle.thm_wiki.specs.Registers.{WikiPage, chr_page, nametable}
use Rattle.thm_wiki.specs.Shown.{slot_shows, entry_of, prg_entry, ram_entry, Mapped}
use Rattle.thm_wiki.proofs.Ranges.{taken, left}
use Rattle.thm_wiki.proofs.Tests.{never}

-- a test inside a function of what it chooses
chosen : {A B : Type 0} (f : A → B) (t : Bool) (x y : A) → cond t (f x) (f y) ≡ f (cond t x y)
chosen f true x y = refl
chosen f false x y = refl

-- ---- steps of a table, one after the other

-- the first c of the steps
unfoldable steps : (ℕ → List Page → List Page) → ℕ → List Page → List Page
steps f zero l = l
steps f (suc c) l = f c (steps f c l)

steps-long : (f : ℕ → List Page → List Page) → ((k : ℕ) (l : List Page) → length (f k l) ≡ length l) → (c : ℕ) (l : List Page)
    → length (steps f c l) ≡ length l
unfolding steps
steps-long f long zero l = refl
steps-long f long (suc c) l = long c (steps f c l) ∙ steps-long f long c l

-- entry j is what step k makes it, where no later step touches it
steps-at : (f : ℕ → List Page → List Page) → ((k : ℕ) (l : List Page) → length (f k l) ≡ length l) → (k j : ℕ) (p : Page) (l : List Page)
    → ((t : List Page) → length t ≡ length l → get_or (f k t) j unmapped ≡ p)
    → (c : ℕ) → ((d : ℕ) (t : List Page) → k < d → d < c → get_or (f d t) j unmapped ≡ get_or t j unmapped) → k < c
    → get_or (steps f c l) j unmapped ≡ p
unfolding steps
steps-at f long k j p l here zero later b = absurd (omega arith)
steps-at f long k j p l here (suc c) later b =
    by (ℕ_discrete k c) (steps-at f long k j p l here c (λ d t x y. later d t x (omega arith)))
  where
    by : Dec (k ≡ c) → (k < c → get_or (steps f c l) j unmapped ≡ p) → get_or (f c (steps f c l)) j unmapped ≡ p
    by (yes e) ih = rw e at (here (steps f c l) (steps-long f long c l))
    by (no ne) ih = let lt : k < c = omega (arith, ne) in later c (steps f c l) lt (omega arith) ∙ ih lt

-- ---- the PPU's table: L13, M7

-- a slot's step: the slot itself, and again 4 further on for those of the nametables
abbrev placed : ℕ → Page → List Page → List Page
placed k p l = cond (ltb k 8) (set l k p) (set (set l k p) (k + 4) p)

placed-long : (k : ℕ) (p : Page) (l : List Page) → length (placed k p l) ≡ length l
placed-long k p l =
    cond-holds (λ (t : List Page). length t ≡ length l) (ltb k 8) _ _ (length-set l k p)
    (length-set (set l k p) (k + 4) p ∙ length-set l k p)

placed-here : (k : ℕ) (p : Page) (l : List Page) → k < length l → get_or (placed k p l) k unmapped ≡ p
placed-here k p l h =
    let same = get_or-set_same l k p unmapped h in
    cond-holds (λ (t : List Page). get_or t k unmapped ≡ p) (ltb k 8) _ _ same
    (get_or-set_other (set l k p) (k + 4) k p unmapped (λ e. omega arith) ∙ same)

placed-again : (k : ℕ) (p : Page) (l : List Page) → 8 ≤ k → k + 4 < length l → get_or (placed k p l) (k + 4) unmapped ≡ p
placed-again k p l h b = rw (le-ltb k 8 h) (get_or-set_same (set l k p) (k + 4) p unmapped (omega (arith, length-set l k p)))

placed-other : (k j : ℕ) (p : Page) (l : List Page) → (j ≡ k → ⊥) → (j ≡ k + 4 → ⊥) → get_or (placed k p l) j unmapped ≡ get_or l j unmapped
placed-other k j p l low high =
    let other = get_or-set_other l k j p unmapped low in
    cond-holds (λ (t : List Page). get_or t j unmapped ≡ get_or l j unmapped) (ltb k 8) _ _ other
    (get_or-set_other (set l k p) (k + 4) j p unmapped high ∙ other)

one-page : (r : Region) (bank slot : ℕ) (l : List Page) → slot < 16
    → map_pages 16 r 1024 (pos bank) slot l ≡ set l slot (region_page r (window_base r.len 1024 (pos bank)))
unfolding map_pages show_pages each_page
one-page r bank slot l h =
    let at : (slot + 0) % 16 ≡ slot = omega arith in
    let off : window_base r.len 1024 (pos bank) + 1024 * 0 ≡ window_base r.len 1024 (pos bank) = omega arith in
    rw (at, off)

slot_is : (r : Region) (k bank : ℕ) (l : List Page) → k < 12
    → slot_pages r k bank l ≡ placed k (region_page r (window_base r.len 1024 (pos bank))) l
unfolding slot_pages
slot_is r k bank l h =
    let low : k * 1024 / 1024 ≡ k = omega arith in
    let high : (k * 1024 + 0x1000) / 1024 ≡ k + 4 = omega arith in
    rw (low, high, one-page r bank k l (omega arith))
    (rw (one-page r bank (k + 4) (set l k (region_page r (window_base r.len 1024 (pos bank)))) (omega arith)))

-- what a slot selects, by its flag and bank, as an entry
entry-by : (m : Memory) (t : Bool) (bank : ℕ)
    → region_page (region_in m (slot_src t)) (window_base (region_in m (slot_src t)).len 1024 (pos bank))
    ≡ entry_of m (cond t (nametable bank) (chr_page bank))
entry-by m true bank = refl
entry-by m false bank = refl

abbrev slot_entry : Namco163 → Memory → ℕ → Page
slot_entry n m k = entry_of m (slot_shows n k)

abbrev slot_step : Namco163 → Memory → ℕ → List Page → List Page
slot_step n m k = placed k (slot_entry n m k)

-- the table after k slots
abbrev slot_table : Namco163 → Memory → ℕ → List Page
slot_table n m k = steps (slot_step n m) k m.chr_pages

slots-are : (n : Namco163) (m : Memory) (k : ℕ) → k ≤ 12 → map_slots n k m ≡ with_chr_pages m (slot_table n m k)
unfolding map_slots steps
slots-are n m zero h = refl
slots-are n m (suc k) h =
    let bank = get_or n.chr_banks k 0 in
    let flag = get_or n.nt_bank_enable k false in
    let t = slot_table n m k in
    ap (λ (x : Memory). map_slot x k bank flag) (slots-are n m k (omega arith))
    ∙ slot-alone (with_chr_pages m t) k bank flag
    ∙ ap (with_chr_pages m) (slot_is (region_in m (slot_src flag)) k bank t (omega arith))
    ∙ ap (λ (p : Page). with_chr_pages m (placed k p t)) (entry-by m flag bank)

slot-long : (n : Namco163) (m : Memory) (k : ℕ) (l : List Page) → length (slot_step n m k l) ≡ length l
slot-long n m k l = placed-long k (slot_entry n m k) l

slot_at : (n : Namco163) (m : Memory) (c : ℕ) → c ≤ length m.chr_pages → (k : ℕ) → k < c
    → get_or (slot_table n m c) k unmapped ≡ slot_entry n m k
slot_at n m c h k b =
    steps-at (slot_step n m) (slot-long n m) k k (slot_entry n m k) m.chr_pages
    (λ t e. placed-here k (slot_entry n m k) t (omega (arith, e))) c
    (λ d t x y. placed-other d k (slot_entry n m d) t (λ e. omega arith) (λ e. omega arith)) b

slot-again : (n : Namco163) (m : Memory) → length m.chr_pages ≡ 16 → (k : ℕ) → k < 4
    → get_or (slot_table n m 12) (12 + k) unmapped ≡ slot_entry n m (8 + k)
slot-again n m h k b =
    let at : 12 + k ≡ 8 + k + 4 = omega arith in
    rw at
    (steps-at (slot_step n m) (slot-long n m) (8 + k) (8 + k + 4) (slot_entry n m (8 + k)) m.chr_pages
    (λ t e. placed-again (8 + k) (slot_entry n m (8 + k)) t (omega arith) (omega (arith, e))) 12
    (λ d t x y. placed-other d (8 + k + 4) (slot_entry n m d) t (λ e. omega arith) (λ e. omega arith)) (omega arith))

-- M7: nametable entry i of a board that is no 163
abbrev mirror_page : Namco163 → Memory → ℕ → Page
mirror_page n m i = nametable_page (region_in m CiRam) (get_or (ciram_banks n.mirroring) (i % 4) 0)

abbrev mirror_table : Namco163 → Memory → List Page
mirror_table n m = each_page 16 (λ i old. mirror_page n m i) 8 8 (slot_table n m 8)

abbrev chr_table : Namco163 → Memory → List Page
chr_table n m = cond (is163 n.board) (slot_table n m 12) (mirror_table n m)

chr-is : (n : Namco163) (m : Memory) → map_chr_table n m ≡ with_chr_pages m (chr_table n m)
unfolding map_chr_table set_mirroring mirror_pages
chr-is n m = rw (slots-are n m 12 (omega arith), slots-are n m 8 (omega arith)) (chosen (with_chr_pages m) (is163 n.board) _ _)

chr-at : (n : Namco163) (m : Memory) (t : Bool) → length m.chr_pages ≡ 16 → (k : ℕ) → k < cond t 12 8
    → get_or (cond t (slot_table n m 12) (mirror_table n m)) k unmapped ≡ slot_entry n m k
chr-at n m true c k h = slot_at n m 12 (omega arith) k h
chr-at n m false c k h =
    each-other 16 _ 8 8 (slot_table n m 8) k (λ i z e. absurd (omega arith)) ∙ slot_at n m 8 (omega arith) k h

-- ---- the CPU's table: L13

-- 8000, A000 and C000
abbrev bank_entry : Namco163 → Memory → ℕ → ℕ → Page
bank_entry n m k = prg_entry m (pos (get_or n.prg_banks k 0))

abbrev bank_step : Namco163 → Memory → ℕ → List Page → List Page
bank_step n m k = each_page 64 (λ i old. bank_entry n m k i) (32 + 8 * k) 8

abbrev bank_table : Namco163 → Memory → List Page
bank_table n m = steps (bank_step n m) 3 m.prg_pages

-- and E000
abbrev rom_table : Namco163 → Memory → List Page
rom_table n m = each_page 64 (λ i old. prg_entry m (negsuc 0) i) 56 8 (bank_table n m)

-- 6000..7FFF, without its flag and with it
abbrev ram_page : Memory → ℕ → Page
ram_page m i = region_page (region_in m PrgRam) (window_base (region_in m PrgRam).len 8192 (pos 0) + 1024 * i)

abbrev work_table : Memory → Bool → Bool → List Page → List Page
work_table m shown writable l =
    cond shown
    (each_page 64 (λ i old. with_flag writable old) 24 8 (each_page 64 (λ i old. ram_page m i) 24 8 l))
    (each_page 64 (λ i old. unmapped) 24 8 l)

abbrev prg_table : Namco163 → Memory → List Page
prg_table n m = work_table m (prg_ram_readable n.board) (prg_ram_writable n.board n.regs.prg_ram_protect) (rom_table n m)

prg-is : (n : Namco163) (m : Memory) → map_work_ram n (map_rom n m) ≡ with_prg_pages m (prg_table n m)
unfolding map_work_ram map_rom map_prg set_prg_writable unmap_prg map_pages show_pages set_writable unmap_pages steps
prg-is n m = chosen (with_prg_pages m) (prg_ram_readable n.board) _ _

bank-long : (n : Namco163) (m : Memory) (k : ℕ) (l : List Page) → length (bank_step n m k l) ≡ length l
bank-long n m k l = length-each 64 _ (32 + 8 * k) 8 l

banks-long : (n : Namco163) (m : Memory) → length (bank_table n m) ≡ length m.prg_pages
banks-long n m = steps-long (bank_step n m) (bank-long n m) 3 m.prg_pages

bank-at : (n : Namco163) (m : Memory) → length m.prg_pages ≡ 64 → (k i : ℕ) → k < 3 → i < 8
    → get_or (bank_table n m) (32 + 8 * k + i) unmapped ≡ bank_entry n m k i
bank-at n m p k i b h =
    steps-at (bank_step n m) (bank-long n m) k (32 + 8 * k + i) (bank_entry n m k i) m.prg_pages
    (λ t e. each_same 64 (λ i old. bank_entry n m k i) (32 + 8 * k) 8 t i (omega arith) (e ∙ p) h) 3
    (λ d t x y. each-other 64 _ (32 + 8 * d) 8 t (32 + 8 * k + i) (λ j z e. absurd (omega arith))) b

work-there : (m : Memory) (shown writable : Bool) (l : List Page) (j : ℕ) → 32 ≤ j
    → get_or (work_table m shown writable l) j unmapped ≡ get_or l j unmapped
work-there m shown writable l j h =
    cond-holds (λ (t : List Page). get_or t j unmapped ≡ get_or l j unmapped) shown _ _
    (each-other 64 _ 24 8 _ j (λ i z e. absurd (omega arith)) ∙ each-other 64 _ 24 8 l j (λ i z e. absurd (omega arith)))
    (each-other 64 _ 24 8 l j (λ i z e. absurd (omega arith)))

work-here : (m : Memory) (shown writable : Bool) (l : List Page) (i : ℕ) → length l ≡ 64 → i < 8
    → get_or (work_table m shown writable l) (24 + i) unmapped ≡ ram_entry m shown writable i
work-here m true writable l i h b =
    each_same 64 (λ i old. with_flag writable old) 24 8 (each_page 64 (λ i old. ram_page m i) 24 8 l) i (omega arith)
    (length-each 64 _ 24 8 l ∙ h) b
    ∙ ap (with_flag writable) (each_same 64 (λ i old. ram_page m i) 24 8 l i (omega arith) h b)
work-here m false writable l i h b = each_same 64 (λ i old. unmapped) 24 8 l i (omega arith) h b

-- ---- both: `update_banks`

update-is : (n : Namco163) (m : Memory) → update_banks n m ≡ with_prg_pages (with_chr_pages m (chr_table n m)) (prg_table n m)
unfolding update_banks
update-is n m = ap (λ (x : Memory). map_work_ram n (map_rom n x)) (chr-is n m) ∙ prg-is n (with_chr_pages m (chr_table n m))

-- an entry is made of the layout alone
entry-same : (m : Memory) (c p : List Page) (w : WikiPage) → entry_of m w ≡ entry_of (with_prg_pages (with_chr_pages m c) p) w
entry-same m c p (chr_page b) = refl
entry-same m c p (nametable b) = refl

update-maps : (n : Namco163) (m : Memory) → length m.prg_pages ≡ 64 → length m.chr_pages ≡ 16 → Mapped false n (update_banks n m)
update-maps n m p c =
    let is = is163 n.board in
    let shown = prg_ram_readable n.board in
    let writable = prg_ram_writable n.board n.regs.prg_ram_protect in
    let same = entry-same m (chr_table n m) (prg_table n m) in
    rw (update-is n m)
    (record {
      chr = λ k h. chr-at n m is c k h ∙ same (slot_shows n k);
      again = λ e k h.
          taken (λ (t : List Page). get_or t (12 + k) unmapped ≡ slot_entry n m (8 + k)) is _ _ e (slot-again n m c k h)
          ∙ same (slot_shows n (8 + k));
      mirrored = λ e i h.
          left (λ (t : List Page). get_or t (8 + i) unmapped ≡ mirror_page n m i) is _ _ e
          (each_same 16 (λ i old. mirror_page n m i) 8 8 (slot_table n m 8) i (omega arith)
          (steps-long (slot_step n m) (slot-long n m) 8 m.chr_pages ∙ c) h);
      prg = λ k b i h.
          work-there m shown writable (rom_table n m) (32 + 8 * k + i) (omega arith)
          ∙ each-other 64 _ 56 8 (bank_table n m) (32 + 8 * k + i) (λ j z e. absurd (omega arith))
          ∙ bank-at n m p k i b h;
      last = λ i h.
          work-there m shown writable (rom_table n m) (56 + i) (omega arith)
          ∙ each_same 64 (λ i old. prg_entry m (negsuc 0) i) 56 8 (bank_table n m) i (omega arith) (banks-long n m ∙ p) h;
      ram = λ i h. work-here m shown writable (rom_table n m) i (length-each 64 _ 56 8 (bank_table n m) ∙ banks-long n m ∙ p) h;
    })

-- ---- and the flags of a 163 that F800 protects: L20

-- a flag over the one that `update_banks` gives a 163
flag-again : (u : Bool) (p : Page) → with_flag u (with_flag true p) ≡ with_flag u p
flag-again u p = by (ℕ_discrete p.0 0)
  where
    by : Dec (p.0 ≡ 0) → with_flag u (with_flag true p) ≡ with_flag u p
    by (yes e) = rw (eq-eqb p.0 0 e, eq-eqb p.0 0 e)
    by (no ne) =
        rw (
          ne_eqb p.0 0 ne,
          ne_eqb (2 ^ 31 + offset_of p % 2 ^ 30) 0 (λ e. absurd (omega arith)),
          offset-page (offset_of p) true (mod-lt p.0 (omega arith)),
        )

ram-again : (b : Board) (m : Memory) (u : Bool) (v i : ℕ) → is163 b ≡ true
    → with_flag u (ram_entry m (prg_ram_readable b) (prg_ram_writable b v) i) ≡ ram_entry m (prg_ram_readable b) u i
ram-again Unknown m u v i e = never (sym e)
ram-again Is163 m u v i e = flag-again u (ram_page m i)
ram-again Namco175 m u v i e = never (sym e)
ram-again Namco340 m u v i e = never (sym e)

protect-maps : (n : Namco163) (m : Memory) → length m.prg_pages ≡ 64 → is163 n.board ≡ true → Mapped false n m
    → Mapped true n (protect_parts n.regs.prg_ram_protect m)
unfolding protect_parts
protect-maps n m p e q =
    let v = n.regs.prg_ram_protect in
    let same = entry-same m m.chr_pages (protect_parts v m).prg_pages in
    record {
      chr = λ k h. q.chr k h ∙ same (slot_shows n k);
      again = λ t k h. q.again t k h ∙ same (slot_shows n (8 + k));
      mirrored = q.mirrored;
      prg = λ k b i h. part-else v m (32 + 8 * k + i) (λ j z t. absurd (omega arith)) ∙ q.prg k b i h;
      last = λ i h. part-else v m (56 + i) (λ j z t. absurd (omega arith)) ∙ q.last i h;
      ram = λ i h.
          let u = unprotected v (i / 2) in
          rw e (part-flag v m p i h ∙ (ap (with_flag u) (q.ram i h) ∙ ram-again n.board m u v i e));
    }

-- a board that is no 163 is mapped in one edition as in the other
other-maps : (n : Namco163) (m : Memory) → is163 n.board ≡ false → Mapped false n m → Mapped true n m
other-maps n m e q =
    record {
      chr = q.chr;
      again = q.again;
      mirrored = q.mirrored;
      prg = q.prg;
      last = q.last;
      ram = λ i h. rw e (q.ram i h);
    }

pub remap-maps : (protects : Bool) (n : Namco163) (m : Memory) → MemoryTyped m → Mapped protects n (remap_banks protects n m)
remap-maps false n m t = rw (old-tables n m) (update-maps n m t.prg t.chr)
remap-maps true n m t = by (is163 n.board) refl (update-maps n m t.prg t.chr)
  where
    by : (x : Bool) → is163 n.board ≡ x → Mapped false n (update_banks n m) → Mapped true n (remap_banks true n m)
    by true e q = rw (new-tables n m e) (protect-maps n (update_banks n m) ((update-banks-kept n m).typed t).prg e q)
    by false e q = rw (other-tables true n m e) (other-maps n (update_banks n m) e q)
