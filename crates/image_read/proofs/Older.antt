-- H12: an image that was accepted before the count of PRG-RAM pages had a high bit reads to the same state now; and each state of so few
-- pages is read back from its image as it was then.
use mathlib.Core.Path.{◌≡◌, refl, sym, ap, ◌∙◌, subst}
use mathlib.Core.Bool.{true, false}
use mathlib.Core.List.{List}
use Prim.Native.Nat.{ℕ, ◌/◌, ◌%◌, ◌≤◌}
use native.Mathlib.Omega.{arith}
use borrow.Author.Tests.{not-false, eqb-true, eq-eqb, le-leb}
use lib.Dec.{eqb, leb}
use lib.ListN.{length, get_or}
use Rattle.bits.specs.Fields.{total, unpack}
use Rattle.board_state.specs.declared.State.{State}
use Rattle.board_state.specs.State.{in_range, Known}
use Rattle.limits.proofs.Every.{and_left, and_right}
use Rattle.call_refusals.specs.Refusals.{first_of}
use Rattle.call_refusals.proofs.Laws.{accepted-none, number_is}
use Rattle.image_write.specs.Image.{part, part_widths}
use Rattle.image_write.specs.Options.{image_at, option_set, room_for}
use Rattle.image_read.specs.Reading.{ReadImage, cut_into, high_from, unused_from, state_from, state_of, fields_ok, fields_of, options_of}
use Rattle.image_read.specs.Reading.{body_in, byte_in, state_in, image_ok, refused_read, read_image}
use Rattle.image_read.specs.Older.{older_options, older_state, older_most, older_ok, older_checks, read_older}
use Rattle.image_read.proofs.Accepted.{accepted, unused-is}
use Rattle.image_read.proofs.RoundTrip.{FieldsPass, accepted-in-range, fields-pass, read-written}

few-state : {s t : State} → s ≡ t → s.memory.layout.prg_ram ≤ older_most → t.memory.layout.prg_ram ≤ older_most
few-state e h = subst (λ (s : State). s.memory.layout.prg_ram ≤ older_most) e h

few-pages : {r t : ReadImage} → r ≡ t → r.state.memory.layout.prg_ram ≤ older_most → t.state.memory.layout.prg_ram ≤ older_most
few-pages e h = few-state (ap (λ (r : ReadImage). r.state) e) h

-- the five bits that meant nothing are the high bit and the four that mean nothing
unused-then : (byte : ℕ) → get_or (older_options byte) 3 0 ≡ byte % 32
unfolding unpack total
unused-then byte = omega arith

high-is : (byte : ℕ) → high_from (options_of byte) ≡ byte / 16 % 2
unfolding unpack total
high-is byte = refl

-- where they are clear, both readings give one state
same_state : (img : List ℕ) → byte_in img % 32 ≡ 0 → state_in img ≡ older_state img
unfolding state_of unpack total
same_state img z =
    let clear : high_from (options_of (byte_in img)) ≡ 0 = high-is (byte_in img) ∙ omega (arith, z) in
    rw clear refl

module _ (img : List ℕ) where
  -- what an image that was accepted passed
  record Then : Type 0 where
    room : room_for false (length img) ≡ true
    ok : older_ok img ≡ true
    mirroring : leb (get_or (part (cut_into part_widths (fields_of (body_in img))) 1) 1 0) 4 ≡ true
    unused : byte_in img % 32 ≡ 0
    range : in_range (older_state img) ≡ true

  refusal_is : (read_older img).refusal ≡ first_of (older_checks img)
  unfolding read_older
  refusal_is = number_is (older_checks img) refused_read _ (λ (r : ReadImage). r.refusal) refl (λ q. refl)

  then : (read_older img).refusal ≡ 0 → Then
  unfolding older_ok
  then e =
      let h = accepted-none (older_checks img) (omega arith, (omega arith, tt)) (sym refusal_is ∙ e) in
      let ok : older_ok img ≡ true = not-false (older_ok img) h.1.0 in
      let m = leb (get_or (part (cut_into part_widths (fields_of (body_in img))) 1) 1 0) 4 in
      let u = eqb (get_or (older_options (byte_in img)) 3 0) 0 in
      let r = and_right m _ ok in
      record {
        room = not-false (room_for false (length img)) h.0;
        ok = ok;
        mirroring = and_left m _ ok;
        unused = sym (unused-then (byte_in img)) ∙ eqb-true _ 0 (and_left u _ r);
        range = and_right (leb (older_state img).memory.layout.prg_ram older_most) _ (and_right u _ r);
      }

  now-ok : Then → image_ok img ≡ true
  unfolding fields_ok
  now-ok t =
      let clear : unused_from (options_of (byte_in img)) ≡ 0 = unused-is (byte_in img) ∙ omega (arith, t.unused) in
      rw (t.mirroring, eq-eqb _ 0 clear) (ap in_range (same_state img t.unused) ∙ t.range)

  accepted-then : room_for false (length img) ≡ true → older_ok img ≡ true
      → read_older img ≡ record { refusal = 0; state = older_state img }
  unfolding read_older first_of
  accepted-then r e = rw (r, e)

  -- H12: what was accepted reads to the same state
  pub older-images : (read_older img).refusal ≡ 0 → read_image img ≡ read_older img
  older-images e =
      let t = then e in
      accepted img t.room (now-ok t)
      ∙ (λ i. record { refusal = 0; state = same_state img t.unused i })
      ∙ sym (accepted-then t.room t.ok)

  -- and what reads to few pages was accepted
  pub older-few : (read_image img).refusal ≡ 0 → (read_image img).state.memory.layout.prg_ram ≤ older_most → read_older img ≡ read_image img
  unfolding older_ok state_of state_from
  older-few e few =
      let h = accepted-in-range img e in
      let now = accepted img h.0 h.1 in
      let p : FieldsPass (body_in img) (options_of (byte_in img)) = fields-pass (body_in img) (options_of (byte_in img)) h.1 in
      let count : (state_in img).memory.layout.prg_ram ≤ older_most = few-pages now few in
      let clear : byte_in img % 32 ≡ 0 =
      omega (arith, count, sym (high-is (byte_in img)), sym (unused-is (byte_in img)) ∙ p.unused) in
      let same = same_state img clear in
      let then-ok : older_ok img ≡ true =
      rw (
        le-leb _ 4 p.mirroring,
        eq-eqb _ 0 (unused-then (byte_in img) ∙ clear),
        le-leb (older_state img).memory.layout.prg_ram older_most (few-state same count),
        ← same,
        p.range,
      ) refl in
      accepted-then h.0 then-ok ∙ (λ i. record { refusal = 0; state = sym same i }) ∙ sym now

-- H3, H12: the image of a state of so few pages read back to it then too
pub older-image-of-state : (s : State) → Known s → s.memory.layout.prg_ram ≤ older_most → (n : ℕ) → room_for (option_set s) n ≡ true
    → read_older (image_at n s) ≡ record { refusal = 0; state = s }
older-image-of-state s k few n r =
    let now = read-written s k n r in
    older-few (image_at n s) (ap (λ (x : ReadImage). x.refusal) now)
    (few-pages (sym now) few) ∙ now
