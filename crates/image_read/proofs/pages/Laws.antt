-- Entries read in groups of eight.
use mathlib.Core.Path.{◌≡◌, refl, sym, ap, ap₂, ◌∙◌}
use mathlib.Core.List.{List, [], ◌∷◌, ◌++◌}
use Prim.Native.Nat.{ℕ, zero, suc, ◌+◌, ◌-◌, ◌*◌, ◌^◌, ◌/◌, ◌%◌, ◌≤◌, ◌<◌}
use native.Mathlib.Nat.{div-one, add-zero}
use native.Mathlib.Omega.{arith}
use borrow.Rule.Slice.PartMut.{put_mid}
use lib.ListN.{length, take, drop, length-append, length-drop}
use lib.Seq.{take_all, length-take-le}
use Rattle.std.proofs.lemmas.Slice.{take-put_mid}
use Rattle.bits.specs.Fields.{total, pack, unpack, Fit, after, times}
use Rattle.bits.specs.Words.{word_of}
use Rattle.bits.specs.Cursor.{Read, bits_read}
use Rattle.bits.specs.declared.cursor.Cursor.{Cursor}
use Rattle.bits.proofs.Fields.{pack-unpack, fit-unpack, fit_append, length-unpack, after-append, after-word, total-times, times-add}
use Rattle.bits.proofs.cursor.Laws.{read-append, read_none}
use Rattle.memory.specs.declared.page.Page.{Page}
use Rattle.memory.specs.Page.{page_of}
use Rattle.image_write.specs.Image.{page_widths, byte_at}
use Rattle.image_read.specs.declared.pages.Eight.{Eight}
use Rattle.image_read.specs.Reading.{is_set, pages_of}
use Rattle.image_read.specs.Sections.{fields_at}
use Rattle.image_read.specs.Pages.{eight_fields}
use Rattle.image_read.proofs.Sections.{section-is, word-to, byte-behind}

pub pages-append : (i : ℕ) (vs us : List ℕ) → Fit (times i page_widths) vs → pages_of (vs ++ us) ≡ pages_of vs ++ pages_of us
unfolding pages_of times
pages-append zero [] us f = refl
pages-append zero (v ∷ vs) us f = absurd f
pages-append (suc i) [] us f = absurd f
pages-append (suc i) (n ∷ []) us f = absurd f.1
pages-append (suc i) (n ∷ w ∷ vs) us f = ap (λ (l : List Page). page_of (1024 * n) (is_set w) ∷ l) (pages-append i vs us f.1.1)

-- an entry of 11 bits
abbrev pub page_in : ℕ → Page
page_in w = page_of (1024 * (w / 2)) (is_set (w % 2))

-- four entries of 44 bits
abbrev pub four_in : ℕ → List Page
four_in w = page_in (w / 0x200000000) ∷ page_in (w / 0x400000 % 2048) ∷ page_in (w / 2048 % 2048) ∷ page_in (w % 2048) ∷ []

four-pages : (w : ℕ) → w < 2 ^ 44 → four_in w ≡ pages_of (unpack (times 4 page_widths) w)
unfolding pages_of unpack total times
four-pages w h =
    let n0 : w / 0x200000000 / 2 ≡ w / 0x400000000 % 1024 = omega arith in
    let n1 : w / 0x400000 % 2048 / 2 ≡ w / 0x800000 % 1024 = omega arith in
    let b1 : w / 0x400000 % 2048 % 2 ≡ w / 0x400000 % 2 = omega arith in
    let n2 : w / 2048 % 2048 / 2 ≡ w / 4096 % 1024 = omega arith in
    let b2 : w / 2048 % 2048 % 2 ≡ w / 2048 % 2 = omega arith in
    let n3 : w % 2048 / 2 ≡ w / 2 % 1024 = omega arith in
    let b3 : w % 2048 % 2 ≡ w / 1 % 2 = omega arith in
    λ i.
    page_of (1024 * n0 i) (is_set (w / 0x200000000 % 2))
    ∷ page_of (1024 * n1 i) (is_set (b1 i))
    ∷ page_of (1024 * n2 i) (is_set (b2 i))
    ∷ page_of (1024 * n3 i) (is_set (b3 i))
    ∷ []

-- eight entries of two words
pub eight-pages : (w : Eight) → w.first < 2 ^ 44 → w.last < 2 ^ 44 → four_in w.first ++ four_in w.last ≡ pages_of (eight_fields w)
eight-pages w ha hb =
    let us = unpack (times 4 page_widths) w.first in
    let vs = unpack (times 4 page_widths) w.last in
    ap₂ (λ (s t : List Page). s ++ t) (four-pages w.first ha) (four-pages w.last hb)
    ∙ sym (pages-append 4 us vs (fit-unpack (times 4 page_widths) w.first))

-- a table with its k-th eight stored
abbrev pub with_eight : List Page → ℕ → List Page → List Page
with_eight pages k g = put_mid (k * 8) (k * 8 + 8 - k * 8) pages g

length-with-eight : (xs g : List Page) (k : ℕ) → k * 8 + 8 ≤ length xs → length g ≡ 8 → length (with_eight xs k g) ≡ length xs
length-with-eight xs g k h l = simp (length-append, length-drop) (omega (arith, length-take-le (k * 8) xs (omega arith)))

take-with-eight : (xs g : List Page) (k : ℕ) → k * 8 + 8 ≤ length xs → length g ≡ 8
    → take (k * 8 + 8) (with_eight xs k g) ≡ take (k * 8) xs ++ g
take-with-eight xs g k h l = take-put_mid (k * 8) (k * 8 + 8 - k * 8) xs g (k * 8 + 8) (omega arith) (omega arith)

-- ---- eight entries in 11 bytes

pub eight-read : (img : List ℕ) (at a b c : ℕ) → at + 11 ≤ length img
    → a ≡ word_of (take 4 (drop at img)) → a < 2 ^ 32 → b ≡ word_of (take 4 (drop (at + 4) img)) → b < 2 ^ 32
    → c ≡ word_of (take 3 (drop (at + 8) img)) → c < 2 ^ 24
    → Read img (byte_at at) (byte_at (at + 11)) (44 ∷ 44 ∷ []) ((a * 4096 + b / 0x100000) ∷ (b % 0x100000 * 0x1000000 + c) ∷ [])
unfolding bits_read after total pack
eight-read img at a b c h ea la eb lb ec lc =
    let N = word_of (take at img) in
    let e8 : at + 4 + 4 ≡ at + 8 = omega arith in
    let e11 : at + 8 + 3 ≡ at + 11 = omega arith in
    let u = word-to img at 4 (omega arith) in
    let v = rw e8 at (word-to img (at + 4) 4 (omega arith)) in
    let w = rw e11 at (word-to img (at + 8) 3 (omega arith)) in
    record {
      behind = byte-behind img (at + 11);
      pos = omega arith;
      fit = (omega arith, (omega arith, tt));
      bits =
          div-one (word_of (take (at + 11) img))
          ∙ rw (div-one N) (omega (arith, u, v, w, ea, eb, ec));
    }

-- a word behind a number, and its fields
word_fields : (S : ℕ) (ws : List ℕ) (x : ℕ) → x < 2 ^ total ws → after S (total ws ∷ []) (x ∷ []) ≡ after S ws (unpack ws x)
word_fields S ws x h = ap (λ (v : ℕ). after S (total ws ∷ []) (v ∷ [])) (sym (pack-unpack ws x h)) ∙ after-word S ws (unpack ws x)

two-words : (S : ℕ) (ws us : List ℕ) (x y : ℕ) → x < 2 ^ total ws → y < 2 ^ total us
    → after S (total ws ∷ total us ∷ []) (x ∷ y ∷ []) ≡ after S (ws ++ us) (unpack ws x ++ unpack us y)
two-words S ws us x y hx hy =
    sym (after-append S (total ws ∷ []) (x ∷ []) (total us ∷ []) (y ∷ []) refl)
    ∙ word_fields (after S (total ws ∷ []) (x ∷ [])) us y hy
    ∙ ap (λ (T : ℕ). after T us (unpack us y)) (word_fields S ws x hx)
    ∙ after-append S ws (unpack ws x) us (unpack us y) (sym (length-unpack ws x))

eight-fields : (img : List ℕ) (p q : Cursor) (w : Eight) → Read img p q (44 ∷ 44 ∷ []) (w.first ∷ w.last ∷ [])
    → Read img p q (times 8 page_widths) (eight_fields w)
unfolding total times
eight-fields img p q w f =
    record {
      behind = f.behind;
      pos = omega (arith, f.pos);
      fit = fit_append (times 4 page_widths) (times 4 page_widths) (unpack (times 4 page_widths) w.first)
          (unpack (times 4 page_widths) w.last) (fit-unpack (times 4 page_widths) w.first)
          (fit-unpack (times 4 page_widths) w.last);
      bits = f.bits ∙ two-words (bits_read img p) (times 4 page_widths) (times 4 page_widths) w.first w.last f.fit.0
          f.fit.1.0;
    }

-- a table of n eights, its first k eights those of the fields read from byte a on
pub record PagesRead (n a : ℕ) (img : List ℕ) (xs : List Page) (k : ℕ) : Type 0 where
  pub within : k ≤ n
  pub long : length xs ≡ n * 8
  pub vs : List ℕ
  pub read : Read img (byte_at a) (byte_at (a + k * 11)) (times (k * 8) page_widths) vs
  pub same : take (k * 8) xs ≡ pages_of vs

module _ {n a : ℕ} {img : List ℕ} {xs : List Page} where
  pub pages-none : length xs ≡ n * 8 → PagesRead n a img xs 0
  unfolding times pages_of
  pages-none l =
      record {
        within = omega arith;
        long = l;
        vs = [];
        read = rw (add-zero a) (read_none img (byte_at a) (byte-behind img a));
        same = refl;
      }

  pub pages-more : {k : ℕ} (w : Eight) (g : List Page) → PagesRead n a img xs k → k < n
      → Read img (byte_at (a + k * 11)) (byte_at (a + k * 11 + 11)) (44 ∷ 44 ∷ []) (w.first ∷ w.last ∷ [])
      → (g ≡ pages_of (eight_fields w)) × (length g ≡ 8)
      → PagesRead n a img (with_eight xs k g) (k + 1)
  pages-more {k} w g p h f e =
      let us = eight_fields w in
      let e11 : (k + 1) * 11 ≡ k * 11 + 11 = omega arith in
      let e8 : (k + 1) * 8 ≡ k * 8 + 8 = omega arith in
      let ea : a + (k * 11 + 11) ≡ a + k * 11 + 11 = omega arith in
      record {
        within = omega arith;
        long = length-with-eight xs g k (omega (arith, p.long)) e.1 ∙ p.long;
        vs = p.vs ++ us;
        read =
            rw (e11, e8, ea, times-add (k * 8) 8 page_widths)
            (read-append img (byte_at a) (byte_at (a + k * 11)) (byte_at (a + k * 11 + 11)) (times (k * 8) page_widths) p.vs
            (times 8 page_widths) us p.read
            (eight-fields img (byte_at (a + k * 11)) (byte_at (a + k * 11 + 11)) w f));
        same =
            rw e8
            (take-with-eight xs g k (omega (arith, p.long)) e.1 ∙ ap₂ (λ (s t : List Page). s ++ t) p.same e.0
            ∙ sym (pages-append (k * 8) p.vs us p.read.fit));
      }

  pub pages-done : {k : ℕ} → PagesRead n a img xs k → n ≤ k → a + n * 11 ≤ length img
      → xs ≡ pages_of (fields_at (times (n * 8) page_widths) img a (n * 11))
  unfolding total
  pages-done {k} p h l =
      let e : k ≡ n = omega (arith, p.within) in
      let t : total (times (n * 8) page_widths) ≡ n * 11 * 8 = omega (arith, total-times (n * 8) page_widths) in
      sym (take_all (n * 8) xs (omega (arith, p.long))) ∙ rw e at p.same
      ∙ ap pages_of (sym (section-is img a (n * 11) l (byte_at (a + n * 11)) (times (n * 8) page_widths) p.vs t (rw e at p.read)))
