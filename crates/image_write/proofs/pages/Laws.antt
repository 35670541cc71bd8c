-- The page tables are written eight entries after eight: each eight start at a byte of their own, 11 bytes on.
use mathlib.Core.Path.{◌≡◌, refl, sym, subst}
use mathlib.Core.List.{List, [], ◌∷◌}
use Prim.Native.Nat.{ℕ, ◌+◌, ◌-◌, ◌*◌, ◌≤◌, ◌<◌}
use native.Mathlib.Nat.{add-zero}
use native.Mathlib.Omega.{arith}
use lib.ListN.{length, take, drop, length-drop}
use lib.Seq.{take_all, get_or-take, get_or-drop, length-take-le}
use Rattle.bits.specs.Fields.{total, pack, times, each}
use Rattle.bits.specs.Cursor.{Wrote}
use Rattle.bits.specs.declared.cursor.Cursor.{Cursor}
use Rattle.bits.proofs.cursor.Laws.{wrote-append, wrote_none, wrote-more}
use Rattle.memory.specs.declared.page.Page.{Page}
use Rattle.memory.specs.declared.Memory.{Memory}
use Rattle.memory.specs.Page.{unmapped}
use Rattle.memory.specs.Range.{Ranged}
use Rattle.memory.proofs.Laws.Layout.{pages-le}
use Rattle.limits.specs.Limits.{prg_entries, chr_entries}
use Rattle.image_write.specs.Image.{byte_at, page_widths, page_fields}
use Rattle.image_write.specs.Pages.{PagesFit}
use Rattle.image_write.proofs.Parts.{byte-held, wrote-to, wrote-fields}

-- ---- entries inside an arena have page numbers of 10 bits

module _ (m : Memory) (r : Ranged m) where
  pub prg-fit : PagesFit prg_entries m.prg_pages
  prg-fit i h = omega (arith, (r.prg i h).inside, pages-le m.layout r.sized.layout)

  pub chr-fit : PagesFit chr_entries m.chr_pages
  chr-fit i h = omega (arith, (r.chr i h).inside, pages-le m.layout r.sized.layout)

-- ---- eight entries

-- two words of four entries are 11 bytes
pub wrote-eight : (a b c : List ℕ) (at : ℕ) (v w : Cursor) (m n : ℕ) (p q r s t u x y : Page)
    → m ≡ pack (times 4 page_widths) (each page_fields (p ∷ q ∷ r ∷ s ∷ []))
    → n ≡ pack (times 4 page_widths) (each page_fields (t ∷ u ∷ x ∷ y ∷ []))
    → Wrote a b (byte_at at) v (44 ∷ []) (m ∷ []) → Wrote b c v w (44 ∷ []) (n ∷ [])
    → Wrote a c (byte_at at) (byte_at (at + 11)) (times 8 page_widths) (each page_fields (p ∷ q ∷ r ∷ s ∷ t ∷ u ∷ x ∷ y ∷ []))
unfolding total times each
wrote-eight a b c at v w m n p q r s t u x y d e f g =
    let ws = times 4 page_widths in
    let first = each page_fields (p ∷ q ∷ r ∷ s ∷ []) in
    let last = each page_fields (t ∷ u ∷ x ∷ y ∷ []) in
    wrote-to a c at (at + 11) w _ _ (omega arith)
    (wrote-append a b c (byte_at at) v w ws first ws last refl (wrote-fields ws first d f) (wrote-fields ws last e g))

-- the eight entries from the k-th eight on
abbrev pub eight_at : List Page → ℕ → List Page
eight_at pages k = take (k * 8 + 8 - k * 8) (drop (k * 8) pages)

module _ (pages : List Page) (k : ℕ) (inside : k * 8 + 8 ≤ length pages) where
  eight-at : eight_at pages k ≡ take 8 (drop (k * 8) pages)
  eight-at = rw (let e : k * 8 + 8 - k * 8 ≡ 8 = omega arith in e)

  pub length-eight : length (eight_at pages k) ≡ 8
  length-eight = rw eight-at (length-take-le 8 (drop (k * 8) pages) (rw length-drop (omega arith)))

  -- eight entries of a table fit where the table's do
  eight-fit : (n : ℕ) → k * 8 + 8 ≤ n → PagesFit n pages → PagesFit 8 (eight_at pages k)
  eight-fit n l f =
      subst (PagesFit 8) (sym eight-at)
      (λ j h. rw (get_or-take 8 (drop (k * 8) pages) j unmapped h, get_or-drop (k * 8) pages j unmapped) (f (k * 8 + j) (omega arith)))

-- ---- a table of n eights, its first k eights written from byte at on

pub record PagesWrote (n at : ℕ) (img₀ : List ℕ) (pages : List Page) (img : List ℕ) (k : ℕ) : Type 0 where
  pub within : k ≤ n
  pub long : length pages ≡ n * 8
  pub same : length img ≡ length img₀
  pub wrote : Wrote img₀ img (byte_at at) (byte_at (at + k * 11)) (times (k * 8) page_widths) (each page_fields (take (k * 8) pages))

module _ {n at : ℕ} {img₀ : List ℕ} {pages : List Page} where
  pub pages-none : length pages ≡ n * 8 → PagesWrote n at img₀ pages img₀ 0
  unfolding times each
  pages-none l =
      record { within = omega arith; long = l; same = refl; wrote = rw (add-zero at) (wrote_none img₀ (byte_at at) (byte-held at)) }

  -- the next eight fit where the table's entries do
  pub next-fit : {img : List ℕ} {k : ℕ} → PagesWrote n at img₀ pages img k → k < n → PagesFit (n * 8) pages
      → PagesFit 8 (eight_at pages k)
  next-fit {k = k} p h f = eight-fit pages k (omega (arith, p.long)) (n * 8) (omega arith) f

  pub pages-more : {img : List ℕ} {k : ℕ} (b : List ℕ) → PagesWrote n at img₀ pages img k → k < n
      → Wrote img b (byte_at (at + k * 11)) (byte_at (at + k * 11 + 11)) (times 8 page_widths) (each page_fields (eight_at pages k))
      → PagesWrote n at img₀ pages b (k + 1)
  pages-more {img = img} {k = k} b p h q =
      let e : (k + 1) * 8 ≡ k * 8 + 8 = omega arith in
      let f : at + (k + 1) * 11 ≡ at + k * 11 + 11 = omega arith in
      record {
        within = omega arith;
        long = p.long;
        same = omega (arith, p.same, q.len);
        wrote =
            rw (e, f)
            (wrote-more page_fields page_widths (λ x. refl) img₀ img b (byte_at at) (byte_at (at + k * 11)) (byte_at (at + k * 11 + 11))
            pages (k * 8) 8 (omega (arith, p.long)) p.wrote (rw (eight-at pages k (omega (arith, p.long))) at q));
      }

  pub pages-all : {img : List ℕ} {k : ℕ} → PagesWrote n at img₀ pages img k → n ≤ k
      → Wrote img₀ img (byte_at at) (byte_at (at + n * 11)) (times (n * 8) page_widths) (each page_fields pages)
  pages-all {k = k} p h =
      let e : k ≡ n = omega (arith, p.within) in
      rw (e, take_all (n * 8) pages (omega (arith, p.long))) at p.wrote
