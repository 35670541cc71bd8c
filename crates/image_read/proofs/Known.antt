-- Fields that fit their widths make a state of its types; where it is in range besides, it is known.
use mathlib.Core.Path.{◌≡◌, refl, sym, ap, ◌∙◌}
use mathlib.Core.Bool.{Bool, true, false}
use mathlib.Core.List.{List, [], ◌∷◌, map}
use Prim.Native.Nat.{ℕ, zero, suc, ◌*◌, ◌^◌, ◌<◌}
use native.Mathlib.Omega.{arith}
use lib.Dec.{T}
use lib.Ieee.{nan, binary32, fits}
use lib.Ieee.Bits.{of_bits-fits}
use lib.Ieee.Fits.{of_int-fits}
use lib.ListN.{length, get_or, length-map}
use Rattle.bits.specs.Fields.{Fit, times}
use Rattle.bits.specs.Words.{word_of}
use Rattle.bits.proofs.Fields.{fit_length, fit-below, fit-unpack}
use Rattle.limits.specs.Limits.{prg_entries, chr_entries}
use Rattle.memory.specs.Page.{unmapped, page_of}
use Rattle.board_state.specs.State.{in_range, Typed, Known}
use Rattle.board_state.proofs.Range.{state-in}
use Rattle.image_write.specs.Image.{part, part_widths, page_widths, widths}
use Rattle.image_read.specs.Reading.{is_set, pages_of, cut_into, level_from, output_from, options_from, state_from, state_of, fields_of}
use Rattle.image_read.proofs.Parts.{fit_cut, fit-get}

-- ---- arrays

outputs-fit : (signed : Bool) (p : List ℕ) (i : ℕ) → T (fits binary32 (get_or (map (output_from signed) p) i nan))
unfolding fits
outputs-fit signed [] i = tt
outputs-fit signed (v ∷ p) zero = of_int-fits binary32 (level_from signed v)
outputs-fit signed (v ∷ p) (suc i) = outputs-fit signed p i

pages-long : (n : ℕ) (vs : List ℕ) → Fit (times n page_widths) vs → length (pages_of vs) ≡ n
unfolding pages_of times
pages-long zero [] f = refl
pages-long zero (v ∷ vs) f = absurd f
pages-long (suc n) [] f = absurd f
pages-long (suc n) (v ∷ []) f = absurd f.1
pages-long (suc n) (v ∷ w ∷ vs) f = ap suc (pages-long n vs f.1.1)

page-word : (o : ℕ) (w : Bool) → (page_of o w).0 < 2 ^ 32
page-word o true = omega arith
page-word o false = omega arith

pages-words : (vs : List ℕ) (i : ℕ) → (get_or (pages_of vs) i unmapped).0 < 2 ^ 32
unfolding pages_of
pages-words [] i = omega arith
pages-words (v ∷ []) i = omega arith
pages-words (v ∷ w ∷ vs) zero = page-word (1024 * v) (is_set w)
pages-words (v ∷ w ∷ vs) (suc i) = pages-words vs i

-- ---- the state of all fields

fields-typed : (vs options : List ℕ) → Fit widths vs → Typed (state_of vs options)
unfolding state_of state_from cut_into widths
fields-typed vs options f =
    let ps = cut_into part_widths vs in
    let fp = fit_cut part_widths vs f in
    let signed = (options_from options).signed_levels in
    let p0 = part ps 0 in let w0 = part part_widths 0 in let f0 = fp.0 in
    let f2-on = fp.1.1 in let f5-on = f2-on.1.1.1 in let f7-on = f5-on.1.1 in let f10-on = f7-on.1.1.1 in
    record {
      chip =
          record {
            counter = fit-get w0 p0 f0 0 (omega arith);
            protect = fit-get w0 p0 f0 4 (omega arith);
            mapper = fit-get w0 p0 f0 6 (omega arith);
            submapper = fit-get w0 p0 f0 7 (omega arith);
            flags = length-map (part ps 2) is_set ∙ sym (fit_length (part part_widths 2) (part ps 2) f2-on.0);
            chr = sym (fit_length (part part_widths 3) (part ps 3) f2-on.1.0);
            chr_bytes = fit-below 12 8 (part ps 3) f2-on.1.0;
            prg = sym (fit_length (part part_widths 4) (part ps 4) f2-on.1.1.0);
            audio =
                record {
                  ram_length = sym (fit_length (part part_widths 5) (part ps 5) f5-on.0);
                  bytes = fit-below 128 8 (part ps 5) f5-on.0;
                  outputs_length =
                      length-map (part ps 7) (output_from signed) ∙ sym (fit_length (part part_widths 7) (part ps 7) f7-on.0);
                  outputs_fit = outputs-fit signed (part ps 7);
                  phases_length = sym (fit_length (part part_widths 9) (part ps 9) f7-on.1.1.0);
                  out_fits = of_bits-fits binary32 (get_or (part ps 8) 0 0);
                };
          };
      memory =
          record {
            prg = pages-long prg_entries (part ps 10) f10-on.0;
            chr = pages-long chr_entries (part ps 11) f10-on.1.0;
            prg_words = pages-words (part ps 10);
            chr_words = pages-words (part ps 11);
          };
    }

-- the state of an image's fields, once it has passed the test
pub image-known : (body options : List ℕ) → in_range (state_of (fields_of body) options) ≡ true → Known (state_of (fields_of body) options)
unfolding fields_of
image-known body options e =
    let t = fields-typed (fields_of body) options (fit-unpack widths (word_of body)) in
    record { typed = t; range = state-in (state_of (fields_of body) options) t e }
