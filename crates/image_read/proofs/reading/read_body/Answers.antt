-- `read_body` meets its contract: refused by an unused bit, by `out`, by its mirroring, accepted, refused by its state.
use mathlib.Core.Path.{◌≡◌, refl, sym, ◌∙◌}
use mathlib.Core.Bool.{true, false}
use Rattle.std.specs.Prelude.{Result, Ok, Err, MatchResult}
use Rattle.refusals.specs.declared.Refusal.{Refusal}
use Rattle.refusals.specs.declared.Refusal.TheVariants as Because
use Rattle.board_state.specs.declared.State.{State}
use Rattle.board_state.specs.State.{in_range}
use Rattle.call_refusals.specs.declared.known.KnownState.{KnownState}
use Rattle.call_refusals.proofs.Laws.{known-range}
use Rattle.board_state.specs.declared.Options.{Options}
use Rattle.image_read.specs.Reading.{ReadImage, options_from, high_from, options_of, refused_read, read_answer}
use mathlib.Core.List.{List}
use Prim.Native.Nat.{ℕ, ◌+◌, ◌-◌, ◌%◌, ◌^◌, ◌<◌}
use native.Mathlib.Omega.{arith}
use lib.ListN.{length, take, drop}
use Rattle.bits.specs.Words.{word_of}
use Rattle.memory.specs.Range.{Bytes}
use Rattle.image_write.specs.Image.{image_bytes, joined, chip_widths}
use Rattle.image_write.specs.Sections.{chip_at, ram_at, out_at}
use Rattle.image_read.specs.declared.head.Head.{Head}
use Rattle.image_read.specs.Sections.{fields_at, head_parts}
use Rattle.image_read.proofs.Accepted.{Opened, refused-unused, refused-out, refused-mirroring, refused-range, accepted-state}
use Rattle.image_read.proofs.Out.{from-bits-ok}
use Rattle.image_read.proofs.reading.read_body.Goals as goal

pub returns-then-byte-ne0 : goal.returns-then-byte-ne0
returns-then-byte-ne0 c = sym (refused-unused _ _ c.if-byte-ne0.true)

-- what is known of the bytes once the board was read
opened : (img : List ℕ) (byte : ℕ) (h : Head) (word bits : ℕ) (chosen : Options) → length img ≡ image_bytes → Bytes img → byte % 16 ≡ 0
    → fields_at (joined chip_widths) img chip_at (ram_at - chip_at) ≡ joined (head_parts h)
    → word ≡ 0 + word_of (take 4 (drop out_at img)) → word < 2 ^ 32 → bits ≡ word → chosen ≡ options_from (options_of byte)
    → Opened img byte h bits chosen (high_from (options_of byte))
opened img byte h word bits chosen l f u e w s b o =
    record { long = l; bytes = f; unused = u; head = e; out = omega (arith, w, b); small = omega (arith, s, b); options = o; ram = refl }

pub returns-then-not-bits_ok : goal.returns-then-not-bits_ok
returns-then-not-bits_ok c =
    let o = opened _ _ c.read_head-h.result _ _ _ c.told-img c.fits-img c.if-byte-ne0.false c.read_head-h.ensures
    c.load-bits.ensures.value c.load-bits.ensures.upper_bound (omega arith) c.options_numbered-options.ensures in
    sym (refused-out _ _ _ _ _ _ o (sym c.bits_ok.ensures ∙ c.if-not-bits_ok.true))

pub returns-then-h-gt4 : goal.returns-then-h-gt4
returns-then-h-gt4 c =
    let o = opened _ _ c.read_head-h.result c.load-bits.result _ _ c.told-img c.fits-img c.if-byte-ne0.false c.read_head-h.ensures
    c.load-bits.ensures.value c.load-bits.ensures.upper_bound refl c.options_numbered-options.ensures in
    sym (refused-mirroring _ _ _ _ _ _ o c.if-h-gt4.true)

pub read_fields-requires : goal.read_fields-requires
read_fields-requires c = from-bits-ok _ _ _ (sym c.bits_ok.ensures ∙ c.if-not-bits_ok.false)

-- by whether the state passes
told : (r : Result KnownState Refusal) (s : State) (w : ReadImage)
    → MatchResult r (λ k. k.state ≡ s) (λ q. (q ≡ Because.State) × (in_range s ≡ false))
    → (in_range s ≡ true → record { refusal = 0; state = s } ≡ w) → (in_range s ≡ false → refused_read 2 ≡ w) → read_answer r ≡ w
told (Ok k) s w e passes fails = rw e (passes (known-range k e))
told (Err q) s w e passes fails = rw e.0 (fails e.1)

pub returns : goal.returns
returns c =
    let o = opened _ _ c.read_head-h.result _ _ _ c.told-img c.fits-img c.if-byte-ne0.false c.read_head-h.ensures
    c.load-bits.ensures.value c.load-bits.ensures.upper_bound (omega arith) c.options_numbered-options.ensures in
    told c.new.result c.read_fields.result _ c.new.ensures
    (λ i. let ok = rw (c.read_fields.ensures, c.high_of.ensures) at i in
    rw (c.read_fields.ensures, c.high_of.ensures) (sym (accepted-state _ _ _ _ _ _ o c.if-h-gt4.false ok)))
    (λ i. sym (refused-range _ _ _ _ _ _ o (rw (c.read_fields.ensures, c.high_of.ensures) at i)))
