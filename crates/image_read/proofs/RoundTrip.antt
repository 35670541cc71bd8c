-- The image's promises: H3, both ways at the image's own length (H10), and an image is accepted exactly where it has one of the two lengths
-- (N1) and its fields are in range (N2).
use mathlib.Core.Path.{◌≡◌, refl, sym, ap, ap₂, ◌∙◌, subst}
use mathlib.Core.Bool.{Bool, true, false, ◌&&◌, ◌||◌, true≢false}
use mathlib.Core.List.{List, [], ◌∷◌, ◌++◌}
use Prim.Native.Nat.{ℕ, zero, suc, ◌+◌, ◌≤◌, ◌<◌}
use native.Mathlib.Omega.{arith}
use borrow.Author.Tests.{not-false, eqb-true, eqb-false, ne_eqb, leb-true, le-leb}
use lib.Dec.{eqb, leb}
use lib.ListN.{length, take, get_or, length-append, get_or-eq_default}
use lib.Seq.{take_at, take-length, length-take-le, get_or-append_seam}
use Rattle.bits.specs.Fields.{total, pack, unpack, Fit, bit}
use Rattle.bits.specs.Words.{word_of, bytes_of}
use Rattle.bits.proofs.Fields.{fit-unpack, unpack-pack, pack-unpack, bit-lt}
use Rattle.bits.proofs.RoundTrip.{fields_back, bytes_back}
use Rattle.board_state.specs.declared.State.{State}
use Rattle.board_state.specs.State.{options_in, in_range, Known}
use Rattle.board_state.proofs.Range.{known-passes}
use Rattle.memory.specs.Range.{Bytes}
use Rattle.limits.specs.Limits.{prg_ram_pages}
use Rattle.limits.proofs.Every.{and_left, and_right}
use Rattle.call_refusals.specs.Refusals.{first_of}
use Rattle.call_refusals.proofs.Laws.{accepted-none, number_is}
use Rattle.image_write.specs.Image.{image_bytes, ram_high, ram_pages, part, part_widths, part_fields, widths, fields, image_of}
use Rattle.image_write.specs.Options.{options_image_bytes, option_widths, option_fields, options_byte, image_at, needs_byte, option_set}
use Rattle.image_write.specs.Options.{room_for, Room, short, long}
use Rattle.image_write.proofs.Parts.{◌then◌}
use Rattle.image_write.proofs.Whole.{total-widths}
use Rattle.image_write.proofs.writing.Laws.{room, short-room, long-room, room-none, length-image, image-short, image-long}
use Rattle.image_read.specs.Reading.{ReadImage}
use Rattle.image_read.specs.Reading.{cut_into, options_from, high_from, unused_from, state_from, state_of, fields_ok, fields_of, options_of}
use Rattle.image_read.specs.Reading.{body_in, byte_in, state_in, image_ok, read_checks, refused_read, read_image, read_body}
use Rattle.image_read.proofs.Accepted.{accepted, read_is}
use Rattle.image_read.proofs.Known.{image-known}
use Rattle.image_read.proofs.Parts.{fit-joined, same-lengths}
use Rattle.image_read.proofs.Sections.{cut-joined}
use Rattle.image_read.proofs.States.{options-back, state-back, state-fits, high-num, low_in, low-small, options-num, fields-num}
use Rattle.image_read.proofs.Values.{mirroring-most}

-- ---- what is accepted

refusal_is : (img : List ℕ) → (read_image img).refusal ≡ first_of (read_checks img)
unfolding read_image
refusal_is img = number_is (read_checks img) refused_read _ (λ (r : ReadImage). r.refusal) refl (λ q. refl)

-- an accepted image has one of the two lengths and fields in range
pub accepted-in-range : (img : List ℕ) → (read_image img).refusal ≡ 0 → (room_for false (length img) ≡ true) × (image_ok img ≡ true)
accepted-in-range img e =
    let h = accepted-none (read_checks img) (omega arith, (omega arith, tt)) (sym (refusal_is img) ∙ e) in
    (not-false (room_for false (length img)) h.0, not-false (image_ok img) h.1.0)

-- and such an image is accepted
pub in-range-accepted : (img : List ℕ) → room_for false (length img) ≡ true → image_ok img ≡ true → (read_image img).refusal ≡ 0
in-range-accepted img l e = ap (λ r. r.refusal) (accepted img l e)

-- what the fields' test says: the mirroring, the unused bits, the state
pub record FieldsPass (body : List ℕ) (options : List ℕ) : Type 0 where
  pub mirroring : get_or (part (cut_into part_widths (fields_of body)) 1) 1 0 ≤ 4
  pub unused : unused_from options ≡ 0
  pub range : in_range (state_of (fields_of body) options) ≡ true

pub fields-pass : (body options : List ℕ) → fields_ok (fields_of body) options ≡ true → FieldsPass body options
unfolding fields_ok
fields-pass body options e =
    let m = leb (get_or (part (cut_into part_widths (fields_of body)) 1) 1 0) 4 in
    let r = and_right m _ e in
    record {
      mirroring = leb-true _ 4 (and_left m _ e);
      unused = eqb-true (unused_from options) 0 (and_left (eqb (unused_from options) 0) _ r);
      range = and_right (eqb (unused_from options) 0) _ r;
    }

-- the state of an accepted image is known: its fields fit their widths, and it is in range
pub read_known : (img : List ℕ) → (read_image img).refusal ≡ 0 → Known (read_image img).state
read_known img e =
    let h = accepted-in-range img e in
    let options = options_of (byte_in img) in
    subst (λ r. Known r.state) (sym (accepted img h.0 h.1))
    (image-known (body_in img) options (fields-pass (body_in img) options h.1).range)

-- ---- a state, its image at either length, and that state again

-- where no bit of the options is set the byte is 0
no-option : (s : State) → s.memory.layout.prg_ram ≤ prg_ram_pages → option_set s ≡ false → options_byte s ≡ 0
unfolding options_byte pack total
no-option s most e =
    let o = options_in s in
    go o.f800_protects o.signed_levels o.plain_sum e
  where
    pages : ℕ
    pages = s.memory.layout.prg_ram

    go : (a b c : Bool) → (a || (b || c)) || eqb pages prg_ram_pages ≡ false
        → pack option_widths (bit a ∷ bit b ∷ bit c ∷ ram_high pages ∷ 0 ∷ []) ≡ 0
    go true b c e = absurd (true≢false e)
    go false true c e = absurd (true≢false e)
    go false false true e = absurd (true≢false e)
    go false false false e = let n = eqb-false pages prg_ram_pages e in omega arith

module _ (s : State) (k : Known s) where
  fits : Fit widths (fields s)
  unfolding widths fields
  fits = fit-joined part_widths (part_fields s) (state-fits s k)

  fields-are : fields_of (image_of s) ≡ fields s
  unfolding fields_of image_of
  fields-are = fields_back widths image_bytes total-widths (fields s) fits

  cut : cut_into part_widths (fields s) ≡ part_fields s
  unfolding fields
  cut = cut-joined part_widths (part_fields s) (same-lengths part_widths (part_fields s) (state-fits s k))

  most : s.memory.layout.prg_ram ≤ prg_ram_pages
  most = k.range.memory.ranged.sized.layout.prg_ram

  options-are : options_of (options_byte s) ≡ option_fields (options_in s) s.memory.layout.prg_ram
  unfolding options_byte
  options-are =
      let o = options_in s in
      unpack-pack option_widths (option_fields o s.memory.layout.prg_ram)
      (bit-lt o.f800_protects then bit-lt o.signed_levels then bit-lt o.plain_sum then omega (arith, most) then omega arith then tt)

  state : state_of (fields_of (image_of s)) (options_of (options_byte s)) ≡ s
  unfolding state_of
  state = ap₂ state_of fields-are options-are ∙ rw (cut, options-back (options_in s) s.memory.layout.prg_ram) (state-back s k)

  ok : fields_ok (fields_of (image_of s)) (options_of (options_byte s)) ≡ true
  unfolding fields_ok
  ok =
      let unused = unused_from (options_of (options_byte s)) in
      ap₂ (λ (p : List (List ℕ)) (x : State). leb (get_or (part p 1) 1 0) 4 && (eqb unused 0 && in_range x))
      (ap (cut_into part_widths) fields-are ∙ cut) state
      ∙ rw (le-leb _ 4 (mirroring-most s.chip.mirroring), options-are, known-passes s k)

  -- the two pieces of an image of n bytes
  pub record Pieces (n : ℕ) : Type 0 where
    pub long : length (image_at n s) ≡ n
    pub body : body_in (image_at n s) ≡ image_of s
    pub byte : byte_in (image_at n s) ≡ options_byte s

  pub pieces : (n : ℕ) → room_for (option_set s) n ≡ true → Pieces n
  pieces n r = by (room (option_set s) n r)
    where
      l : length (image_of s) ≡ image_bytes
      l = length-image s

      by : Room (option_set s) n → Pieces n
      by (short e f) =
          let i = image-short s n e in
          record {
            long = ap length i ∙ l ∙ sym e;
            body = ap (take image_bytes) i ∙ ap (λ (m : ℕ). take m (image_of s)) (sym l) ∙ take-length (image_of s);
            byte = ap (λ (x : List ℕ). get_or x image_bytes 0) i
                ∙ get_or-eq_default (image_of s) 0 {n = image_bytes} (omega (arith, l))
                ∙ sym (no-option s most f);
          }
      by (long e) =
          let i = image-long s n e in
          let b = options_byte s in
          record {
            long = ap length i ∙ length-append (image_of s) (b ∷ []) ∙ ap (λ (m : ℕ). m + 1) l ∙ sym e;
            body = ap (take image_bytes) i ∙ take_at (image_of s) (b ∷ []) image_bytes l;
            byte = ap (λ (x : List ℕ). get_or x image_bytes 0) i
                ∙ ap (λ (m : ℕ). get_or (image_of s ++ (b ∷ [])) m 0) (sym l)
                ∙ get_or-append_seam (image_of s) b [] 0;
          }

  -- H3, H10: a known state is read back from its image, at each length that holds it
  pub read-written : (n : ℕ) → room_for (option_set s) n ≡ true → read_image (image_at n s) ≡ record { refusal = 0; state = s }
  read-written n r =
      let p = pieces n r in
      let img = image_at n s in
      let good : image_ok img ≡ true =
      ap₂ (λ (x : List ℕ) (b : ℕ). fields_ok (fields_of x) (options_of b)) p.body p.byte ∙ ok in
      let same : state_in img ≡ s =
      ap₂ (λ (x : List ℕ) (b : ℕ). state_of (fields_of x) (options_of b)) p.body p.byte ∙ state in
      accepted img (rw p.long (room-none (option_set s) n r)) good ∙ (λ i. record { refusal = 0; state = same i })

-- ---- an accepted image, its state, and that image again

body-again : (body options : List ℕ) → Bytes body → length body ≡ image_bytes → FieldsPass body options
    → image_of (state_of (fields_of body) options) ≡ body
unfolding image_of fields_of
body-again body options b l p =
    let vs = fields_of body in
    ap (λ (x : List ℕ). bytes_of image_bytes (pack widths x))
    (fields-num vs options (fit-unpack widths (word_of body)) (image-known body options p.range) p.mirroring)
    ∙ bytes_back widths image_bytes total-widths body l b

-- a byte without unused bits is that of its options
byte-again : (byte pages : ℕ) → byte < 256 → ram_high pages ≡ high_from (options_of byte) → unused_from (options_of byte) ≡ 0
    → pack option_widths (option_fields (options_from (options_of byte)) pages) ≡ byte
unfolding total
byte-again byte pages h e u =
    ap (pack option_widths) (options-num (options_of byte) pages (fit-unpack option_widths byte) e u) ∙ pack-unpack option_widths byte h

take-bytes : (n : ℕ) (xs : List ℕ) → Bytes xs → Bytes (take n xs)
take-bytes zero xs b i = b-none i
  where
    b-none : (i : ℕ) → get_or {A = ℕ} [] i 0 < 256
    b-none i = omega arith
take-bytes (suc n) [] b i = b i
take-bytes (suc n) (x ∷ xs) b zero = b 0
take-bytes (suc n) (x ∷ xs) b (suc i) = take-bytes n xs (λ j. b (suc j)) i

-- all bytes before the last, and the last
body-and-byte : (xs : List ℕ) (n : ℕ) → length xs ≡ suc n → take n xs ++ (get_or xs n 0 ∷ []) ≡ xs
body-and-byte [] n e = absurd (omega arith)
body-and-byte (x ∷ []) zero e = refl
body-and-byte (x ∷ []) (suc n) e = absurd (omega arith)
body-and-byte (x ∷ y ∷ xs) zero e = absurd (omega arith)
body-and-byte (x ∷ y ∷ xs) (suc n) e = ap (λ (l : List ℕ). x ∷ l) (body-and-byte (y ∷ xs) n (omega arith))

-- the seven bits of an image's count of PRG-RAM pages
low-fits : (img : List ℕ) → low_in (fields_of (body_in img)) < 128
unfolding fields_of
low-fits img = low-small (fields_of (body_in img)) (fit-unpack widths (word_of (body_in img)))

-- a byte of 0 sets no option, and leaves a count of seven bits
pub optionless : (img : List ℕ) → byte_in img ≡ 0 → option_set (state_in img) ≡ false
unfolding state_of state_from unpack total
optionless img z =
    let low = low_in (fields_of (body_in img)) in
    let pages = ram_pages 0 low in
    ap (λ (b : ℕ). needs_byte (options_from (options_of b)) (ram_pages (high_from (options_of b)) low)) z
    ∙ ne_eqb pages prg_ram_pages (λ e. omega (arith, low-fits img, e))

-- an image's bytes hold its state
pub roomy-in : (img : List ℕ) → room_for false (length img) ≡ true → room_for (option_set (state_in img)) (length img) ≡ true
roomy-in img r = by (room false (length img) r)
  where
    by : Room false (length img) → room_for (option_set (state_in img)) (length img) ≡ true
    by (short l f) =
        subst (λ (t : Bool). room_for t (length img) ≡ true)
        (sym (optionless img (get_or-eq_default img 0 {n = image_bytes} (omega (arith, l))))) (short-room (length img) l)
    by (long l) = long-room (option_set (state_in img)) (length img) l

module _ (img : List ℕ) (b : Bytes img) where
  -- the state of an accepted image fits into its length, and gives its bytes
  pub record Again (s : State) : Type 0 where
    pub roomy : room_for (option_set s) (length img) ≡ true
    pub same : image_at (length img) s ≡ img

  again : room_for false (length img) ≡ true → image_ok img ≡ true → Again (state_in img)
  unfolding state_of state_from options_byte
  again r e = by (room false (length img) r)
    where
      p : FieldsPass (body_in img) (options_of (byte_in img))
      p = fields-pass (body_in img) (options_of (byte_in img)) e

      front : length (body_in img) ≡ image_bytes → image_of (state_in img) ≡ body_in img
      front l = body-again (body_in img) (options_of (byte_in img)) (take-bytes image_bytes img b) l p

      last : options_byte (state_in img) ≡ byte_in img
      last = byte-again (byte_in img) _ (b image_bytes) (high-num _ _ (low-fits img)) p.unused

      by : Room false (length img) → Again (state_in img)
      by (short l f) =
          let whole : body_in img ≡ img = ap (λ (m : ℕ). take m img) (sym l) ∙ take-length img in
          record {
            roomy = roomy-in img r;
            same = image-short (state_in img) (length img) l ∙ front (ap length whole ∙ l) ∙ whole;
          }
      by (long l) =
          record {
            roomy = roomy-in img r;
            same = image-long (state_in img) (length img) l
                ∙ ap₂ (λ (x : List ℕ) (y : ℕ). x ++ (y ∷ [])) (front (length-take-le image_bytes img (omega (arith, l)))) last
                ∙ body-and-byte img image_bytes l;
          }

-- H3, H10: an accepted image is written back from its state, byte for byte, at its own length
pub written_read : (img : List ℕ) (b : Bytes img) → (read_image img).refusal ≡ 0 → Again img b (read_image img).state
written_read img b e =
    let h = accepted-in-range img e in
    subst (λ r. Again img b r.state) (sym (accepted img h.0 h.1)) (again img b h.0 h.1)

-- ---- the shorter image and the longer one with 0 behind it are read alike: H10

pub lengthened : (img : List ℕ) → length img ≡ image_bytes → read_image (img ++ (0 ∷ [])) ≡ read_image img
lengthened img l =
    let more = img ++ (0 ∷ []) in
    let n : length more ≡ options_image_bytes = length-append img (0 ∷ []) ∙ ap (λ (m : ℕ). m + 1) l in
    let whole : body_in img ≡ img = ap (λ (m : ℕ). take m img) (sym l) ∙ take-length img in
    let none : byte_in img ≡ 0 = get_or-eq_default img 0 {n = image_bytes} (omega (arith, l)) in
    let last : byte_in more ≡ 0 = ap (λ (m : ℕ). get_or more m 0) (sym l) ∙ get_or-append_seam img 0 [] 0 in
    read_is more (long-room false (length more) n)
    ∙ ap₂ read_body (take_at img (0 ∷ []) image_bytes l) last
    ∙ sym (read_is img (short-room (length img) l) ∙ ap₂ read_body whole none)

pub cut_short : (img : List ℕ) → length img ≡ options_image_bytes → byte_in img ≡ 0 → read_image (body_in img) ≡ read_image img
cut_short img l z =
    sym (lengthened (body_in img) (length-take-le image_bytes img (omega (arith, l))))
    ∙ ap read_image (ap (λ (y : ℕ). body_in img ++ (y ∷ [])) (sym z) ∙ body-and-byte img image_bytes l)
