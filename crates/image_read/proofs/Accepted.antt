-- Which images are accepted, by their length, their options, their board's words and the bits of `out`, and the state that they hold.
use mathlib.Core.Path.{◌≡◌, refl, sym, ap, ap₂, ◌∙◌, subst}
use mathlib.Core.Bool.{Bool, true, false, cond, ◌&&◌, and-false, true≢false}
use mathlib.Core.List.{List}
use Prim.Native.Nat.{ℕ, ◌-◌, ◌/◌, ◌%◌, ◌^◌, ◌≤◌, ◌<◌}
use native.Mathlib.Omega.{arith}
use borrow.Author.Tests.{eq-eqb, ne_eqb, le-leb, lt-leb}
use lib.Dec.{eqb, leb}
use lib.ListN.{length, take, drop, get_or}
use Rattle.bits.specs.Fields.{total, unpack}
use Rattle.bits.specs.Words.{word_of}
use Rattle.memory.specs.Range.{Bytes}
use Rattle.board_state.specs.declared.Options.{Options}
use Rattle.board_state.specs.declared.State.{State}
use Rattle.board_state.specs.State.{in_range, Known}
use Rattle.call_refusals.specs.Refusals.{first_of}
use Rattle.image_write.specs.Image.{image_bytes, part, part_widths, joined, chip_widths}
use Rattle.image_write.specs.Options.{room_for}
use Rattle.image_write.specs.Sections.{chip_at, ram_at, out_at, phases_at}
use Rattle.image_read.specs.declared.head.Head.{Head}
use Rattle.image_read.specs.Reading.{cut_into, options_from, high_from, unused_from, state_from, state_of, fields_ok, fields_of, options_of}
use Rattle.image_read.specs.Reading.{body_in, byte_in, state_in, image_ok, refused_read, read_image, read_body}
use Rattle.image_read.specs.Sections.{fields_at, head_parts, sound_at, memory_at, state_at}
use Rattle.image_read.proofs.Fields.{out-at}
use Rattle.image_read.proofs.Known.{image-known}
use Rattle.image_read.proofs.Out.{out_bits, out-bits}
use Rattle.image_read.proofs.Sections.{image-parts}

-- ---- the answers by the length

module _ (img : List ℕ) where
  pub refused-length : room_for false (length img) ≡ false → read_image img ≡ refused_read 1
  unfolding read_image first_of
  refused-length e = rw e

  pub refused-fields : room_for false (length img) ≡ true → image_ok img ≡ false → read_image img ≡ refused_read 2
  unfolding read_image first_of
  refused-fields l e = rw (l, e)

  pub accepted : room_for false (length img) ≡ true → image_ok img ≡ true → read_image img ≡ record { refusal = 0; state = state_in img }
  unfolding read_image first_of
  accepted l e = rw (l, e)

  -- what is left once the length has passed
  pub read_is : room_for false (length img) ≡ true → read_image img ≡ read_body (body_in img) (byte_in img)
  unfolding read_body
  read_is l = go (image_ok img) refl
    where
      go : (t : Bool) → image_ok img ≡ t
          → read_image img ≡ cond (image_ok img) (record { refusal = 0; state = state_in img }) (refused_read 2)
      go true e = accepted l e ∙ rw e
      go false e = refused-fields l e ∙ rw e

-- ---- the options of their byte

pub unused-is : (byte : ℕ) → unused_from (options_of byte) ≡ byte % 16
unfolding unpack total
unused-is byte = omega arith

pub refused-unused : (body : List ℕ) (byte : ℕ) → (byte % 16 ≡ 0 → ⊥) → read_body body byte ≡ refused_read 2
unfolding read_body fields_ok
refused-unused body byte n =
    rw (unused-is byte, ne_eqb (byte % 16) 0 n, and-false (leb (get_or (part (cut_into part_widths (fields_of body)) 1) 1 0) 4))

-- ---- the state of an image's body

-- a body of `image_bytes` bytes with a byte of options that has no unused bit, its board's words, the bits of its `out`, its options, and
-- the high bit of its count of PRG-RAM pages
pub record Opened (body : List ℕ) (byte : ℕ) (h : Head) (bits : ℕ) (chosen : Options) (high : ℕ) : Type 0 where
  pub long : length body ≡ image_bytes
  pub bytes : Bytes body
  pub unused : byte % 16 ≡ 0
  pub head : fields_at (joined chip_widths) body chip_at (ram_at - chip_at) ≡ joined (head_parts h)
  pub out : bits ≡ word_of (take (phases_at - out_at) (drop out_at body))
  pub small : bits < 2 ^ 32
  pub options : chosen ≡ options_from (options_of byte)
  pub ram : high ≡ high_from (options_of byte)

module _ (body : List ℕ) (byte : ℕ) (h : Head) (bits : ℕ) (chosen : Options) (high : ℕ) (o : Opened body byte h bits chosen high) where
  abbrev held : State
  held = state_at body h bits chosen high

  pub state-is : state_of (fields_of body) (options_of byte) ≡ held
  unfolding state_of state_from sound_at memory_at
  state-is = rw (image-parts body o.long o.bytes h o.head, out-at body bits o.out o.small, o.options, o.ram)

  ok-is : fields_ok (fields_of body) (options_of byte) ≡ leb (h.detection / 2 % 8) 4 && in_range held
  unfolding fields_ok unpack total
  ok-is =
      ap₂ (λ (p : List (List ℕ)) (s : State). leb (get_or (part p 1) 1 0) 4 && (eqb (unused_from (options_of byte)) 0 && in_range s))
      (image-parts body o.long o.bytes h o.head) state-is
      ∙ rw (unused-is byte, eq-eqb (byte % 16) 0 o.unused)

  refused : fields_ok (fields_of body) (options_of byte) ≡ false → read_body body byte ≡ refused_read 2
  unfolding read_body
  refused e = rw e

  pub refused-mirroring : 4 < h.detection / 2 % 8 → read_body body byte ≡ refused_read 2
  refused-mirroring l = refused (ok-is ∙ rw (lt-leb (h.detection / 2 % 8) 4 l))

  pub refused-range : in_range held ≡ false → read_body body byte ≡ refused_read 2
  refused-range e =
      refused (ok-is ∙ ap (λ (t : Bool). leb (h.detection / 2 % 8) 4 && t) e ∙ and-false (leb (h.detection / 2 % 8) 4))

  held-known : in_range held ≡ true → Known held
  held-known e = subst Known state-is (image-known body (options_of byte) (ap in_range state-is ∙ e))

  pub refused-out : out_bits chosen.signed_levels chosen.plain_sum bits ≡ false → read_body body byte ≡ refused_read 2
  unfolding sound_at
  refused-out l = refused-range (go (in_range held) refl)
    where
      go : (t : Bool) → in_range held ≡ t → in_range held ≡ false
      go true e =
          let mixed = (held-known e).range.chip.audio.mixed in
          absurd (true≢false (sym (out-bits chosen.signed_levels chosen.plain_sum bits o.small mixed) ∙ l))
      go false e = e

  pub accepted-state : h.detection / 2 % 8 ≤ 4 → in_range held ≡ true → read_body body byte ≡ record { refusal = 0; state = held }
  unfolding read_body
  accepted-state m e =
      rw (ok-is, le-leb (h.detection / 2 % 8) 4 m, e) (ap (λ (s : State). record { refusal = 0; state = s }) state-is)
