-- Both ways between a state and its fields.
use mathlib.Core.Path.{◌≡◌, refl, sym, ◌∙◌, subst}
use mathlib.Core.Bool.{Bool, false}
use mathlib.Core.List.{List, [], ◌∷◌, map}
use mathlib.Core.Logic.{inl, inr}
use Prim.Native.Nat.{ℕ, zero, suc, ◌*◌, ◌^◌, ◌≤◌, ◌<◌}
use native.Mathlib.Omega.{arith}
use lib.Dec.{eqb}
use lib.Ieee.{nan, binary32}
use lib.Ieee.Bits.{of_bits-to_bits, to_bits-lt}
use lib.ListN.{length, get_or, replicate, length-map}
use Rattle.bits.specs.Fields.{Fit, bit, times, each}
use Rattle.bits.proofs.Fields.{fit_length, fit-below, bit-lt}
use Rattle.bits.proofs.Lists.{listed-is}
use Rattle.std.proofs.lemmas.List.{get_or-map}
use Rattle.memory.specs.declared.page.Page.{Page}
use Rattle.memory.specs.Layout.{arena_pages}
use Rattle.memory.specs.Page.{writable_of}
use Rattle.board_chip.specs.declared.namco163.Board.{Board}
use Rattle.board_chip.specs.declared.namco163.Board.TheVariants.{Unknown, Namco163, Namco175, Namco340}
use Rattle.board_chip.specs.Namco163.{board_num}
use Rattle.board_state.specs.declared.Options.{Options}
use Rattle.board_state.specs.declared.State.{State}
use Rattle.sound.specs.Range.{Level, Levels}
use Rattle.board_state.specs.State.{options_in, Known}
use Rattle.limits.specs.Limits.{used_most, prg_entries, chr_entries}
use Rattle.memory.specs.declared.layout.Layout.{Layout}
use Rattle.memory.specs.Range.{UsedIn}
use Rattle.image_write.specs.Image.{ram_low, ram_high, ram_pages, part, joined, part_widths, part_fields, level_num, page_widths}
use Rattle.image_write.specs.Image.{page_fields, layout_widths, widths, fields}
use Rattle.image_write.specs.Options.{option_widths, option_fields}
use Rattle.image_write.specs.Pages.{PagesFit}
use Rattle.image_write.proofs.Levels.{level-fits}
use Rattle.image_write.proofs.Parts.{◌then◌, fit-replicate}
use Rattle.image_write.proofs.pages.Laws.{prg-fit, chr-fit}
use Rattle.image_read.specs.Reading.{is_set, cut_into, output_from, options_from, high_from, unused_from, state_from, state_of}
use Rattle.image_read.proofs.Out.{out-back}
use Rattle.image_read.proofs.Parts.{FitParts, fit_cut, joined-cut, fit-get}
use Rattle.image_read.proofs.Values.{bit-back, is-set-back, board-back, board-num, mirroring-back, mirroring-most, mirroring-num}
use Rattle.image_read.proofs.Values.{level-back, level-num, map_back, pages-back, pages-num}

used-back : (u : ℕ) (l : Layout) → UsedIn u l → used_most * bit (eqb u used_most) ≡ u
used-back u l (inl e) = rw e
used-back u l (inr h) = rw h.0

-- ---- a state in range comes back from its fields

pub options-back : (o : Options) (pages : ℕ) → options_from (option_fields o pages) ≡ o
options-back o pages = simp bit-back

-- H12: a count of its high bit and the low seven
ram-back : (pages : ℕ) → ram_pages (ram_high pages) (ram_low pages) ≡ pages
ram-back pages = omega arith

module _ (s : State) (k : Known s) where
  pub state-back : state_from (part_fields s) (options_in s) (ram_high s.memory.layout.prg_ram) ≡ s
  unfolding state_from
  state-back =
      let n = s.chip in
      let a = n.audio in
      let m = s.memory in
      let t = k.typed in
      let r = k.range.memory in
      let lo = t.chip.audio.outputs_length in
      let flags = map_back bit is_set false n.nt_bank_enable (λ i l. bit-back (get_or n.nt_bank_enable i false)) in
      let signed = a.signed_levels in
      let outs = map_back level_num (output_from signed) nan a.channel_out
      (λ i l. level-back signed (get_or a.channel_out i nan) (k.range.chip.audio.outputs i (omega (arith, lo)))) in
      let out = of_bits-to_bits binary32 a.out t.chip.audio.out_fits in
      let prg = pages-back (arena_pages m.layout) m.prg_pages t.memory.prg_words
      (λ i l. r.ranged.prg i (omega (arith, t.memory.prg))) in
      let chr = pages-back (arena_pages m.layout) m.chr_pages t.memory.chr_words
      (λ i l. r.ranged.chr i (omega (arith, t.memory.chr))) in
      let used = used-back m.battery_ext_len m.layout r.used in
      simp (bit-back, board-back, mirroring-back, flags, outs, out, used, prg, chr, ram-back m.layout.prg_ram)

-- ---- its fields fit their widths

fit-map : {A : Type 0} (f : A → ℕ) (d : A) (n w : ℕ) (xs : List A) → length xs ≡ n
    → ((i : ℕ) → i < n → f (get_or xs i d) < 2 ^ w) → Fit (replicate n w) (map f xs)
fit-map f d n w xs e h =
    fit-replicate n w (map f xs) (length-map xs f ∙ e) (λ i l. rw (get_or-map f xs i d 0 (omega (arith, e))) (h i l))

fit-pages : (n : ℕ) (xs : List Page) → length xs ≡ n → PagesFit n xs → Fit (times n page_widths) (each page_fields xs)
unfolding times each
fit-pages zero [] e h = tt
fit-pages zero (x ∷ xs) e h = absurd (let z : ⊥ = omega arith in z)
fit-pages (suc n) [] e h = absurd (let z : ⊥ = omega arith in z)
fit-pages (suc n) (x ∷ xs) e h =
    let l = h 0 (omega arith) in
    (omega arith, (bit-lt (writable_of x), fit-pages n xs (omega arith) (λ i l. h (suc i) (omega arith))))

board-lt : (b : Board) → board_num b < 4
board-lt Unknown = omega arith
board-lt Namco163 = omega arith
board-lt Namco175 = omega arith
board-lt Namco340 = omega arith

module _ (s : State) (k : Known s) where
  pub state-fits : FitParts part_widths (part_fields s)
  state-fits =
      let n = s.chip in
      let a = n.audio in
      let m = s.memory in
      let c = k.typed.chip in
      let y = c.audio in
      let g = k.range.chip.audio in
      let r = k.range.memory.ranged in
      let l = r.sized.layout in
      let outs = a.channel_out in
      let flags = fit-map bit false 12 1 n.nt_bank_enable c.flags (λ i h. bit-lt (get_or n.nt_bank_enable i false)) in
      let chr = fit-replicate 12 8 n.chr_banks c.chr (λ i h. c.chr_bytes i) in
      let prg = fit-replicate 3 6 n.prg_banks c.prg (λ i h. omega (arith, k.range.chip.banks i)) in
      let ram = fit-replicate 128 8 a.ram y.ram_length (λ i h. y.bytes i) in
      let levels = fit-map level_num nan 8 12 outs y.outputs_length
      (λ i h. (level-fits a.signed_levels (get_or outs i nan) (g.outputs i h)).field) in
      let phases = fit-replicate 8 24 a.phase_ext y.phases_length (λ i h. g.phases i) in
      let prgs = fit-pages prg_entries m.prg_pages k.typed.memory.prg (prg-fit m r) in
      let chrs = fit-pages chr_entries m.chr_pages k.typed.memory.chr (chr-fit m r) in
      (c.counter then bit-lt n.regs.irq_pending then bit-lt n.regs.nt_select_lo then bit-lt n.regs.nt_select_hi
      then c.protect then board-lt n.board then c.mapper then c.submapper then tt)
      then (bit-lt n.auto_detect_board then omega (arith, mirroring-most n.mirroring) then bit-lt n.prg_ram_written_to
      then tt)
      then flags then chr then prg then ram
      then (omega (arith, g.address) then bit-lt a.auto_increment then bit-lt a.disabled then omega (arith, g.counter)
      then omega (arith, g.channel) then tt)
      then levels then (to_bits-lt binary32 a.out y.out_fits then tt) then phases then prgs then chrs
      then (omega (arith, l.prg_rom) then omega arith then omega (arith, l.battery) then omega (arith, l.chr)
      then bit-lt m.layout.chr_writable then omega (arith, l.ciram) then bit-lt (eqb m.battery_ext_len used_most) then tt)
      then tt

-- ---- fields that are in range come back from their state

-- a yes/no among fields
is-set-at : (ws p : List ℕ) → Fit ws p → (i : ℕ) → i < length ws → get_or ws i 0 ≡ 1 → bit (is_set (get_or p i 0)) ≡ get_or p i 0
is-set-at ws p f i h e = is-set-back (get_or p i 0) (rw e at (fit-get ws p f i h))

used-num : (v : ℕ) → v < 2 → bit (eqb (used_most * v) used_most) ≡ v
used-num zero h = refl
used-num (suc zero) h = refl
used-num (suc (suc v)) h = absurd (let z : ⊥ = omega arith in z)

-- H12: so do the two parts of a count
pub high-num : (high low : ℕ) → low < 128 → ram_high (ram_pages high low) ≡ high
high-num high low h = omega arith

low-num : (high low : ℕ) → low < 128 → ram_low (ram_pages high low) ≡ low
low-num high low h = omega arith

-- the low one among fields
abbrev pub low_in : List ℕ → ℕ
low_in vs = get_or (part (cut_into part_widths vs) 12) 1 0

pub low-small : (vs : List ℕ) → Fit widths vs → low_in vs < 128
unfolding cut_into widths
low-small vs f =
    fit-get layout_widths (part (cut_into part_widths vs) 12) (fit_cut part_widths vs f).1.1.1.1.1.1.1.1.1.1.1.1.0 1 (omega arith)

-- H9, H11, H12: and the options with the high bit, where the bits that mean nothing are clear
pub options-num : (fs : List ℕ) (pages : ℕ) → Fit option_widths fs → ram_high pages ≡ high_from fs → unused_from fs ≡ 0
    → option_fields (options_from fs) pages ≡ fs
options-num fs pages f high unused =
    let last = rw unused at (listed-is 0 5 fs (sym (fit_length option_widths fs f))) in
    rw (
      is-set-at option_widths fs f 0 (omega arith) refl,
      is-set-at option_widths fs f 1 (omega arith) refl,
      is-set-at option_widths fs f 2 (omega arith) refl,
      high,
    ) last

module _ (vs options : List ℕ) (f : Fit widths vs) (k : Known (state_of vs options))
    (mirroring : get_or (part (cut_into part_widths vs) 1) 1 0 ≤ 4) where
  pub fields-num : fields (state_of vs options) ≡ vs
  unfolding state_of state_from cut_into fields widths
  fields-num =
      let ps = cut_into part_widths vs in
      let fp = fit_cut part_widths vs f in
      let o = options_from options in
      let high = high_from options in
      let s = state_from ps o high in
      let signed = o.signed_levels in
      let g = k.range.chip.audio in
      let p0 = part ps 0 in let w0 = part part_widths 0 in let f0 = fp.0 in
      let regs : part (part_fields s) 0 ≡ p0 =
      rw (
        is-set-at w0 p0 f0 1 (omega arith) refl,
        is-set-at w0 p0 f0 2 (omega arith) refl,
        is-set-at w0 p0 f0 3 (omega arith) refl,
        board-num (get_or p0 5 0) (fit-get w0 p0 f0 5 (omega arith)),
      ) (listed-is 0 8 p0 (sym (fit_length w0 p0 f0))) in
      let p1 = part ps 1 in let w1 = part part_widths 1 in let f1 = fp.1.0 in
      let detection : part (part_fields s) 1 ≡ p1 =
      rw (
        is-set-at w1 p1 f1 0 (omega arith) refl,
        mirroring-num (get_or p1 1 0) mirroring,
        is-set-at w1 p1 f1 2 (omega arith) refl,
      ) (listed-is 0 3 p1 (sym (fit_length w1 p1 f1))) in
      let p2 = part ps 2 in let f2 = fp.1.1.0 in
      let flags = map_back is_set bit 0 p2 (λ i h. is-set-back (get_or p2 i 0) (fit-below 12 1 p2 f2 i)) in
      let f6-on = fp.1.1.1.1.1.1 in
      let p6 = part ps 6 in let w6 = part part_widths 6 in let f6 = f6-on.0 in
      let port : part (part_fields s) 6 ≡ p6 =
      rw (is-set-at w6 p6 f6 1 (omega arith) refl, is-set-at w6 p6 f6 2 (omega arith) refl)
      (listed-is 0 5 p6 (sym (fit_length w6 p6 f6))) in
      let p7 = part ps 7 in let f7 = f6-on.1.0 in
      let levels = map_back (output_from signed) level_num 0 p7
      (λ i h. level-num signed (get_or p7 i 0) (fit-below 8 12 p7 f7 i)
      (level-of signed p7 g.outputs i (omega (arith, fit_length (part part_widths 7) p7 f7)) h)) in
      let p8 = part ps 8 in let w8 = part part_widths 8 in let f8 = f6-on.1.1.0 in
      let out : part (part_fields s) 8 ≡ p8 =
      rw (out-back signed o.plain_sum (get_or p8 0 0) (fit-get w8 p8 f8 0 (omega arith)) g.mixed)
      (listed-is 0 1 p8 (sym (fit_length w8 p8 f8))) in
      let f10-on = f6-on.1.1.1.1 in
      let prg = pages-num prg_entries (part ps 10) f10-on.0 in
      let chr = pages-num chr_entries (part ps 11) f10-on.1.0 in
      let p12 = part ps 12 in let f12 = f10-on.1.1.0 in
      let layout : part (part_fields s) 12 ≡ p12 =
      rw (
        is-set-at layout_widths p12 f12 4 (omega arith) refl,
        low-num high (get_or p12 1 0) (fit-get layout_widths p12 f12 1 (omega arith)),
        used-num (get_or p12 6 0) (fit-get layout_widths p12 f12 6 (omega arith)),
      ) (listed-is 0 7 p12 (sym (fit_length layout_widths p12 f12))) in
      let all : fields s ≡ joined ps = λ i. joined
      (regs i ∷ detection i ∷ flags i ∷ part ps 3 ∷ part ps 4 ∷ part ps 5
      ∷ port i ∷ levels i ∷ out i ∷ part ps 9 ∷ prg i ∷ chr i ∷ layout i ∷ []) in
      all ∙ joined-cut part_widths vs f
    where
      level-of : (signed : Bool) (p : List ℕ) → Levels signed (map (output_from signed) p) → (i : ℕ) → i < 8 → i < length p
          → Level signed (output_from signed (get_or p i 0))
      level-of signed p o i h l = subst (Level signed) (get_or-map (output_from signed) p i 0 nan l) (o i h)
