-- Laws of the parts of an image: what a reader finds in some bytes is the fields of those bytes, and all parts together are the
-- image's fields.
use mathlib.Core.Path.{◌≡◌, refl, sym, ap, ap₂, ◌∙◌, subst}
use mathlib.Core.List.{List, [], ◌∷◌, ◌++◌}
use Prim.Native.Nat.{ℕ, ◌+◌, ◌-◌, ◌*◌, ◌^◌, ◌≤◌, ◌<◌}
use native.Mathlib.Nat.{div-one, mod-one}
use native.Mathlib.Omega.{arith}
use lib.ListN.{length, take, drop, length-drop}
use lib.Seq.{take-add, take_at, drop_at, length-take-le}
use Rattle.bits.specs.Fields.{total, pack, unpack, Fit, after, times}
use Rattle.bits.specs.Words.{word_of, eights}
use Rattle.bits.specs.Cursor.{Behind, Read, bits_read}
use Rattle.bits.specs.declared.cursor.Cursor.{Cursor}
use Rattle.bits.proofs.Fields.{pack-lt, pack-unpack, unpack-pack, fit-unpack, length-unpack}
use Rattle.bits.proofs.words.Laws.{total-eights, word-append}
use Rattle.bits.proofs.cursor.Laws.{read-append, read_none, finish-read, bytes_read}
use Rattle.memory.specs.Range.{Bytes}
use Rattle.image_write.specs.Image.{image_bytes, part, joined, chip_widths, sound_widths, memory_widths, part_widths, widths, byte_at}
use Rattle.image_write.specs.Sections.{chip_at, ram_at, port_at, levels_at, out_at, phases_at, prg_pages_at, chr_pages_at, layout_at}
use Rattle.image_write.proofs.Parts.{◌then◌, SameLengths, joined-append}
use Rattle.image_write.proofs.Whole.{total-widths}
use Rattle.image_read.specs.declared.head.Head.{Head}
use Rattle.image_read.specs.Reading.{cut_into, fields_of}
use Rattle.image_read.specs.Sections.{fields_at, head_parts}

-- ---- the fields of some bytes

module _ (img : List ℕ) (a k : ℕ) (inside : a + k ≤ length img) where
  long-mid : length (take k (drop a img)) ≡ k
  long-mid = length-take-le k (drop a img) (rw length-drop (omega arith))

  pub word-to : word_of (take (a + k) img) ≡ word_of (take a img) * 2 ^ (k * 8) + word_of (take k (drop a img))
  word-to =
      ap word_of (take-add a k img) ∙ word-append (take a img) (take k (drop a img))
      ∙ ap (λ (l : ℕ). word_of (take a img) * 2 ^ (l * 8) + word_of (take k (drop a img))) long-mid

  -- what a reader finds there is their fields
  pub section-is : (q : Cursor) (ws vs : List ℕ) → total ws ≡ k * 8 → Read img (byte_at a) q ws vs → fields_at ws img a k ≡ vs
  unfolding fields_at bits_read after
  section-is q ws vs t r =
      let n0 : q.n ≡ 0 = omega (arith, r.pos, r.behind.few) in
      let e : q.at ≡ a + k = omega (arith, r.pos, r.behind.few) in
      let b : word_of (take (a + k) img) ≡ word_of (take a img) * 2 ^ (k * 8) + pack ws vs =
      sym (div-one (word_of (take (a + k) img))) ∙ rw (n0, e, t, div-one (word_of (take a img))) at r.bits in
      let w : word_of (take k (drop a img)) ≡ pack ws vs = omega (arith, b, word-to) in
      ap (unpack ws) w ∙ unpack-pack ws vs r.fit

  -- and a reader finds them there
  pub section-read : Bytes img → (ws : List ℕ) → total ws ≡ k * 8 → Read img (byte_at a) (byte_at (a + k)) ws (fields_at ws img a k)
  unfolding fields_at bits_read after
  section-read bs ws t =
      let xs = take k (drop a img) in
      let r = bytes_read img (byte_at a) (byte_at (a + k)) xs k refl refl inside bs refl refl refl refl in
      let f : Fit (eights (length xs)) xs = subst (λ (m : ℕ). Fit (eights m) xs) (sym long-mid) r.fit in
      let small : word_of xs < 2 ^ total ws =
      subst (λ (m : ℕ). word_of xs < 2 ^ m) (total-eights (length xs) ∙ ap (λ (m : ℕ). m * 8) long-mid ∙ sym t)
      (pack-lt (eights (length xs)) xs f) in
      record {
        behind = r.behind;
        pos = omega (arith, t);
        fit = fit-unpack ws (word_of xs);
        bits =
            div-one (word_of (take (a + k) img)) ∙ word-to
            ∙ rw (t, div-one (word_of (take a img)), pack-unpack ws (word_of xs) small);
      }

-- ---- parts one behind the other

pub read-part : (img : List ℕ) (p q r : Cursor) (ws vs : List ℕ) (wss vss : List (List ℕ)) → Read img p q ws vs
    → Read img q r (joined wss) (joined vss)
    → Read img p r (joined (ws ∷ wss)) (joined (vs ∷ vss))
unfolding joined
read-part img p q r ws vs wss vss f g = read-append img p q r ws vs (joined wss) (joined vss) f g

pub read-end : (img : List ℕ) (r : Cursor) → Behind img r → Read img r r (joined []) (joined [])
unfolding joined
read-end img r h = read_none img r h

pub byte-behind : (img : List ℕ) (k : ℕ) → Behind img (byte_at k)
byte-behind img k = record { few = omega arith; inside = omega arith; last = sym (mod-one _) }

pub cut-joined : (ws vs : List (List ℕ)) → SameLengths ws vs → cut_into ws (joined vs) ≡ vs
unfolding cut_into joined
cut-joined [] [] h = refl
cut-joined [] (v ∷ vs) h = absurd h
cut-joined (w ∷ ws) [] h = absurd h
cut-joined (w ∷ ws) (v ∷ vs) h =
    ap₂ (λ (x : List ℕ) (xs : List (List ℕ)). x ∷ xs) (take_at v (joined vs) (length w) (sym h.0))
    (ap (cut_into ws) (drop_at v (joined vs) (length w) (sym h.0)) ∙ cut-joined ws vs h.1)

-- ---- all parts

abbrev pub sound_parts : List ℕ → List (List ℕ)
sound_parts img =
    fields_at (part sound_widths 0) img ram_at (port_at - ram_at)
    ∷ fields_at (part sound_widths 1) img port_at (levels_at - port_at)
    ∷ fields_at (part sound_widths 2) img levels_at (out_at - levels_at)
    ∷ fields_at (part sound_widths 3) img out_at (phases_at - out_at)
    ∷ fields_at (part sound_widths 4) img phases_at (prg_pages_at - phases_at)
    ∷ []

abbrev pub memory_parts : List ℕ → List (List ℕ)
memory_parts img =
    fields_at (part memory_widths 0) img prg_pages_at (chr_pages_at - prg_pages_at)
    ∷ fields_at (part memory_widths 1) img chr_pages_at (layout_at - chr_pages_at)
    ∷ fields_at (part memory_widths 2) img layout_at (image_bytes - layout_at)
    ∷ []

long-at : (ws img : List ℕ) (a k : ℕ) → length ws ≡ length (fields_at ws img a k)
unfolding fields_at
long-at ws img a k = sym (length-unpack ws (word_of (take k (drop a img))))

pub chip-bits : total (joined chip_widths) ≡ (ram_at - chip_at) * 8
unfolding total joined
chip-bits = refl

module _ (img : List ℕ) (long : length img ≡ image_bytes) (bs : Bytes img) where
  abbrev rest : List (List ℕ)
  rest = sound_parts img ++ memory_parts img

  -- the section from a up to b, then those behind it
  section-then : (a b : ℕ) (ws : List ℕ) (wss vss : List (List ℕ)) → total ws ≡ (b - a) * 8 → a ≤ b → b ≤ image_bytes
      → Read img (byte_at b) (byte_at image_bytes) (joined wss) (joined vss)
      → Read img (byte_at a) (byte_at image_bytes) (joined (ws ∷ wss)) (joined (fields_at ws img a (b - a) ∷ vss))
  section-then a b ws wss vss t l h r =
      let e : a + (b - a) ≡ b = omega arith in
      read-part img (byte_at a) (byte_at b) (byte_at image_bytes) ws (fields_at ws img a (b - a)) wss vss
      (rw e at (section-read img a (b - a) (omega (arith, long)) bs ws t)) r

  read-rest : Read img (byte_at ram_at) (byte_at image_bytes) (joined (sound_widths ++ memory_widths)) (joined rest)
  unfolding total times
  read-rest =
      section-then ram_at port_at _ _ _ refl (omega arith) (omega arith)
      (section-then port_at levels_at _ _ _ refl (omega arith) (omega arith)
      (section-then levels_at out_at _ _ _ refl (omega arith) (omega arith)
      (section-then out_at phases_at _ _ _ refl (omega arith) (omega arith)
      (section-then phases_at prg_pages_at _ _ _ refl (omega arith) (omega arith)
      (section-then prg_pages_at chr_pages_at _ _ _ refl (omega arith) (omega arith)
      (section-then chr_pages_at layout_at _ _ _ refl (omega arith) (omega arith)
      (section-then layout_at image_bytes _ [] [] refl (omega arith) (omega arith)
      (read-end img (byte_at image_bytes) (byte-behind img image_bytes)))))))))

  same_rest : SameLengths (sound_widths ++ memory_widths) rest
  same_rest =
      long-at _ _ _ _ then long-at _ _ _ _ then long-at _ _ _ _ then long-at _ _ _ _ then long-at _ _ _ _
      then long-at _ _ _ _ then long-at _ _ _ _ then long-at _ _ _ _ then tt

  -- the image's fields in parts, given the board's
  module _ (h : Head) (head : fields_at (joined chip_widths) img chip_at (ram_at - chip_at) ≡ joined (head_parts h)) where
    fields-are : fields_of img ≡ joined (head_parts h ++ rest)
    unfolding fields_of widths
    fields-are =
        finish-read img (byte_at image_bytes) (joined part_widths) (joined (head_parts h ++ rest))
        (rw (joined-append chip_widths (sound_widths ++ memory_widths), joined-append (head_parts h) rest)
        (read-append img (byte_at chip_at) (byte_at ram_at) (byte_at image_bytes) (joined chip_widths) (joined (head_parts h))
        (joined (sound_widths ++ memory_widths)) (joined rest)
        (rw head at (section-read img chip_at (ram_at - chip_at) (omega arith) bs (joined chip_widths) chip-bits)) read-rest))
        (rw long total-widths)

    same_parts : SameLengths part_widths (head_parts h ++ rest)
    unfolding unpack
    same_parts = refl then refl then refl then refl then refl then same_rest

    pub image-parts : cut_into part_widths (fields_of img) ≡ head_parts h ++ rest
    image-parts = ap (cut_into part_widths) fields-are ∙ cut-joined part_widths (head_parts h ++ rest) same_parts
