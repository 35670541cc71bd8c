-- W8 to W11: a 163's registers beside the wiki's, write by write. A slot selects by the select bits of its last write, which are noted.
-- Assumes nothing.
use Prim.Native.Nat.{ℕ, ◌-◌, ◌/◌, ◌%◌, ◌^◌, ◌≤◌, ◌<◌}
use mathlib.Core.Path.{◌≡◌, refl, sym, ap, ◌∙◌}
use mathlib.Core.Bool.{Bool, true, false, cond, not, ◌&&◌}
use mathlib.Core.List.{List}
use native.Mathlib.Decide.{ℕ_discrete}
use native.Mathlib.Omega.{arith}
use borrow.Author.Tests.{lt-ltb, le-ltb, le-leb, lt-leb, ltb-true, ltb-false}
use lib.Dec.{leb, ltb}
use lib.ListN.{length, length-set, get_or, get_or-replicate, replicate, set}
use lib.Seq.{get_or-set_same, get_or-set_other}
use Rattle.board_chip.specs.declared.namco163.Board.TheVariants.{Namco163 as Is163}
use Rattle.board_chip.specs.declared.namco163.Namco163.{Namco163}
use Rattle.board_chr.specs.Slots.{sets_ciram, write_slot}
use Rattle.thm_wiki.specs.Registers.{WikiRegs, WikiPage, chr_page, nametable, no_regs, wiki_bit, wiki_write, wiki_allowed, wiki_selects}
use Rattle.thm_wiki.specs.Registers.{wiki_e800, wiki_prg_page}
use Rattle.thm_wiki.specs.Notes.{inside}

-- what is noted of E800, for each window at its last write
abbrev pub note_selects : WikiRegs → List ℕ → ℕ → List ℕ
note_selects w selects a = cond (inside 0x8000 0xE000 a) (set selects ((a - 0x8000) / 0x800) (wiki_e800 w)) selects

-- what slot k shows, by the board's CIRAM flags and banks
abbrev pub shows : List Bool → List ℕ → ℕ → WikiPage
shows flags chr k = cond (get_or flags k false) (nametable (get_or chr k 0)) (chr_page (get_or chr k 0))

-- the board's select bits, slots and banks beside the wiki's registers
pub record RegsBeside (w : WikiRegs) (selects : List ℕ) (lo hi : Bool) (flags : List Bool) (chr prg : List ℕ) : Type 0 where
  pub low : lo ≡ wiki_bit 6 (wiki_e800 w)
  pub high : hi ≡ wiki_bit 7 (wiki_e800 w)
  pub slots : (k : ℕ) → k < 12 → shows flags chr k ≡ wiki_selects (get_or selects k 0) k (get_or w.windows k 0)
  pub pages : (k : ℕ) → k < 3 → get_or prg k 0 ≡ wiki_prg_page w k
  pub windows : length w.windows ≡ 12
  pub upper : length w.upper ≡ 4
  pub noted : length selects ≡ 12

-- a new board, beside registers that nothing was written to
pub regs-fresh : RegsBeside no_regs (replicate 12 0) false false (replicate 12 false) (replicate 12 0) (replicate 3 0)
unfolding wiki_selects
regs-fresh =
    record {
      low = refl;
      high = refl;
      slots = λ k h. rw (get_or-replicate 12 k false false h, get_or-replicate {A = ℕ} 12 k 0 0 h);
      pages = λ k h. rw (get_or-replicate {A = ℕ} 3 k 0 0 h, get_or-replicate {A = ℕ} 4 k 0 0 (omega arith));
      windows = refl;
      upper = refl;
      noted = refl;
    }

-- ---- a write below 8000

pub regs-below : (w : WikiRegs) (selects : List ℕ) (lo hi : Bool) (flags : List Bool) (chr prg : List ℕ) (a v : ℕ) → a < 0x8000
    → RegsBeside w selects lo hi flags chr prg → RegsBeside (wiki_write w a v) (note_selects w selects a) lo hi flags chr prg
unfolding wiki_write
regs-below w selects lo hi flags chr prg a v h q = rw (lt-ltb a 0x8000 h, lt-leb 0x8000 a h) q

-- ---- W8 to W10: 8000..DFFF

module _ (w : WikiRegs) (selects : List ℕ) (n : Namco163) (a v : ℕ) (board : n.board ≡ Is163) (l : 0x8000 ≤ a) (h : a < 0xE000)
    (q : RegsBeside w selects n.regs.nt_select_lo n.regs.nt_select_hi n.nt_bank_enable n.chr_banks
    n.prg_banks) where
  abbrev at : ℕ
  at = (a - 0x8000) / 0x800

  -- W10: whether the slot takes CIRAM
  ciram-agrees : sets_ciram n a v ≡ leb 0xE0 v && wiki_allowed (wiki_e800 w) at
  unfolding sets_ciram wiki_allowed
  ciram-agrees =
      rw (board, q.low, q.high) (ap (λ (t : Bool). leb 0xE0 v && t) (by (ltb a 0xA000) (ltb a 0xC000) refl refl))
    where
      by : (x y : Bool) → ltb a 0xA000 ≡ x → ltb a 0xC000 ≡ y
          → cond (ltb a 0xA000) (not (wiki_bit 6 (wiki_e800 w))) (cond (ltb a 0xC000) (not (wiki_bit 7 (wiki_e800 w))) true)
          ≡ cond (ltb at 4) (not (wiki_bit 6 (wiki_e800 w))) (cond (ltb at 8) (not (wiki_bit 7 (wiki_e800 w))) true)
      by true y p r = let g = ltb-true a 0xA000 p in rw (p, lt-ltb at 4 (omega arith))
      by false true p r =
          let g = ltb-false a 0xA000 p in
          let f = ltb-true a 0xC000 r in
          rw (p, r, le-ltb at 4 (omega arith), lt-ltb at 8 (omega arith))
      by false false p r =
          let f = ltb-false a 0xC000 r in
          rw (p, r, le-ltb at 4 (omega arith), le-ltb at 8 (omega arith))

  -- W9: the slot that is written selects what the wiki says of the value, by the select bits of the moment; another stays
  slot-agrees : length n.nt_bank_enable ≡ 12 → length n.chr_banks ≡ 12
      → shows (write_slot n a v).nt_bank_enable (write_slot n a v).chr_banks at ≡ wiki_selects (wiki_e800 w) at v
  unfolding write_slot wiki_selects
  slot-agrees f c =
      rw (
        get_or-set_same n.nt_bank_enable at (sets_ciram n a v) false (omega (arith, f)),
        get_or-set_same n.chr_banks at (cond (sets_ciram n a v) (v % 2) v) 0 (omega (arith, c)),
        ciram-agrees,
      )
      (go (leb 0xE0 v && wiki_allowed (wiki_e800 w) at))
    where
      go : (t : Bool) → cond t (nametable (cond t (v % 2) v)) (chr_page (cond t (v % 2) v)) ≡ cond t (nametable (v % 2)) (chr_page v)
      go true = refl
      go false = refl

  slot-other : (k : ℕ) → (k ≡ at → ⊥)
      → shows (write_slot n a v).nt_bank_enable (write_slot n a v).chr_banks k ≡ shows n.nt_bank_enable n.chr_banks k
  unfolding write_slot
  slot-other k ne =
      rw (
        get_or-set_other n.nt_bank_enable at k (sets_ciram n a v) false ne,
        get_or-set_other n.chr_banks at k (cond (sets_ciram n a v) (v % 2) v) 0 ne,
      )

  pub regs-window : length n.nt_bank_enable ≡ 12 → length n.chr_banks ≡ 12
      → RegsBeside (wiki_write w a v) (note_selects w selects a) n.regs.nt_select_lo n.regs.nt_select_hi
      (write_slot n a v).nt_bank_enable (write_slot n a v).chr_banks n.prg_banks
  unfolding wiki_write
  regs-window f c =
      rw (le-ltb a 0x8000 l, lt-ltb a 0xE000 h, le-leb 0x8000 a l)
      (record {
        low = q.low;
        high = q.high;
        slots = λ k b. by k b (ℕ_discrete k at);
        pages = q.pages;
        windows = length-set w.windows at v ∙ q.windows;
        upper = q.upper;
        noted = length-set selects at (wiki_e800 w) ∙ q.noted;
      })
    where
      by : (k : ℕ) → k < 12 → Dec (k ≡ at)
          → shows (write_slot n a v).nt_bank_enable (write_slot n a v).chr_banks k
          ≡ wiki_selects (get_or (set selects at (wiki_e800 w)) k 0) k (get_or (set w.windows at v) k 0)
      by k b (yes e) =
          rw (
            e,
            get_or-set_same w.windows at v 0 (omega (arith, q.windows)),
            get_or-set_same selects at (wiki_e800 w) 0 (omega (arith, q.noted)),
          )
          (slot-agrees f c)
      by k b (no ne) =
          rw (get_or-set_other w.windows at k v 0 ne, get_or-set_other selects at k (wiki_e800 w) 0 ne) (slot-other k ne ∙ q.slots k b)

-- ---- W11, W12: E000..FFFF

-- register i of the four, with what it makes of the select bits and the banks
pub regs-upper : (w : WikiRegs) (selects : List ℕ) (lo hi lo' hi' : Bool) (flags : List Bool) (chr prg prg' : List ℕ) (a v i : ℕ)
    → 0xE000 ≤ a → (a - 0xE000) / 0x800 ≡ i
    → lo' ≡ wiki_bit 6 (get_or (set w.upper i v) 1 0) → hi' ≡ wiki_bit 7 (get_or (set w.upper i v) 1 0)
    → ((k : ℕ) → k < 3 → get_or prg' k 0 ≡ get_or (set w.upper i v) k 0 % 64)
    → RegsBeside w selects lo hi flags chr prg → RegsBeside (wiki_write w a v) (note_selects w selects a) lo' hi' flags chr prg'
unfolding wiki_write
regs-upper w selects lo hi lo' hi' flags chr prg prg' a v i l e x y z q =
    rw (le-ltb a 0x8000 (omega arith), le-ltb a 0xE000 l, le-leb 0x8000 a (omega arith), e)
    (record {
      low = x;
      high = y;
      slots = q.slots;
      pages = z;
      windows = q.windows;
      upper = length-set w.upper i v ∙ q.upper;
      noted = q.noted;
    })

-- W11: bank i of the three
pub pages-set : (prg upper : List ℕ) (i v : ℕ) → length prg ≡ 3 → length upper ≡ 4 → i < 3
    → ((k : ℕ) → k < 3 → get_or prg k 0 ≡ get_or upper k 0 % 64)
    → (k : ℕ) → k < 3 → get_or (set prg i (v % 64)) k 0 ≡ get_or (set upper i v) k 0 % 64
pages-set prg upper i v p q h all k b = by (ℕ_discrete k i)
  where
    by : Dec (k ≡ i) → get_or (set prg i (v % 64)) k 0 ≡ get_or (set upper i v) k 0 % 64
    by (yes e) = rw (e, get_or-set_same prg i (v % 64) 0 (omega arith), get_or-set_same upper i v 0 (omega arith))
    by (no ne) = rw (get_or-set_other prg i k (v % 64) 0 ne, get_or-set_other upper i k v 0 ne) (all k b)

-- a register of the four that is no bank
pub pages-past : (prg upper : List ℕ) (i v : ℕ) → 3 ≤ i → ((k : ℕ) → k < 3 → get_or prg k 0 ≡ get_or upper k 0 % 64)
    → (k : ℕ) → k < 3 → get_or prg k 0 ≡ get_or (set upper i v) k 0 % 64
pages-past prg upper i v h all k b = rw (get_or-set_other upper i k v 0 (λ e. omega arith)) (all k b)

-- W12: what F800 was written with last: no register below it changes that, and it does
pub f800-kept : (w : WikiRegs) (a v : ℕ) → a < 0xF800 → get_or (wiki_write w a v).upper 3 0 ≡ get_or w.upper 3 0
unfolding wiki_write
f800-kept w a v h = by (ltb a 0x8000) (ltb a 0xE000) refl
  where
    by : (x y : Bool) → ltb a 0xE000 ≡ y
        → get_or (cond x w
        (cond y (record { windows = set w.windows ((a - 0x8000) / 0x800) v; upper = w.upper })
        (record { windows = w.windows; upper = set w.upper ((a - 0xE000) / 0x800) v }))).upper 3 0
        ≡ get_or w.upper 3 0
    by true y e = refl
    by false true e = refl
    by false false e =
        let l = ltb-false a 0xE000 e in get_or-set_other w.upper ((a - 0xE000) / 0x800) 3 v 0 (λ z. omega arith)

pub f800-written : (w : WikiRegs) (a v : ℕ) → 0xF800 ≤ a → a < 2 ^ 16 → length w.upper ≡ 4 → get_or (wiki_write w a v).upper 3 0 ≡ v
unfolding wiki_write
f800-written w a v l h e =
    let at : (a - 0xE000) / 0x800 ≡ 3 = omega arith in
    rw (le-ltb a 0x8000 (omega arith), le-ltb a 0xE000 (omega arith), at) (get_or-set_same w.upper 3 v 0 (omega (arith, e)))

-- ---- where what a slot selected is what it would select now: W10

pub selects-same : (x y k v : ℕ) → (leb 0xE0 v ≡ true → wiki_allowed y k ≡ wiki_allowed x k) → wiki_selects x k v ≡ wiki_selects y k v
unfolding wiki_selects
selects-same x y k v h = go (leb 0xE0 v) refl
  where
    go : (t : Bool) → leb 0xE0 v ≡ t → wiki_selects x k v ≡ wiki_selects y k v
    go true e = rw (e, h e)
    go false e = rw e

kind : WikiPage → ℕ
kind (chr_page p) = 1
kind (nametable p) = 0

pub selects-only : (x y k v : ℕ) → wiki_selects x k v ≡ wiki_selects y k v → leb 0xE0 v ≡ true → wiki_allowed y k ≡ wiki_allowed x k
unfolding wiki_selects kind
selects-only x y k v h e = go (wiki_allowed x k) (wiki_allowed y k) refl refl (rw e at h)
  where
    go : (s t : Bool) → wiki_allowed x k ≡ s → wiki_allowed y k ≡ t
        → cond (wiki_allowed x k) (nametable (v % 2)) (chr_page v) ≡ cond (wiki_allowed y k) (nametable (v % 2)) (chr_page v)
        → wiki_allowed y k ≡ wiki_allowed x k
    go true true p r z = r ∙ sym p
    go false false p r z = r ∙ sym p
    go true false p r z = let u : ◌≡◌ {A = ℕ} 0 1 = ap kind (rw (p, r) at z) in absurd (omega (arith, u))
    go false true p r z = let u : ◌≡◌ {A = ℕ} 1 0 = ap kind (rw (p, r) at z) in absurd (omega (arith, u))
