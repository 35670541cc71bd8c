-- `namco163_reset` meets its contract: refused by the image, or on with its state.
use Prim.Native.Nat.{ℕ}
use mathlib.Core.Path.{◌≡◌, refl, ◌∙◌}
use mathlib.Core.List.{List, [], ◌∷◌}
use lib.ListN.{length}
use Rattle.refusals.proofs.Numbers.{numbered, passed}
use Rattle.image_read.specs.Reading.{ReadImage}
use Rattle.image_read.specs.Reading.{read_image}
use Rattle.call_refusals.specs.Refusals.{kind_check}
use Rattle.host_state.specs.HostState.{reset_gives}
use Rattle.host.specs.Host.{host_reset}
use Rattle.host_state.proofs.Laws.{word_of, image-of, two-of}
use Rattle.host.proofs.Laws.{OnImage, on-image}
use Rattle.host.proofs.namco163_reset.Goals as goal

-- the call, by what the reading of the image answered
call : (image : List ℕ) (kind : ℕ) {r : ReadImage} → r ≡ read_image image
    → OnImage image [] (λ s. kind_check kind ∷ []) (λ s. reset_gives (length image) s kind) r
call image kind is = on-image _ _ _ _ _ is

pub returns-in_err-read : goal.returns-in_err-read
unfolding host_reset
returns-in_err-read c =
    let e = (call c.args.image.now c.args.kind c.in_err-read.ensures).refused (numbered _) in
    record { value = passed _ _ c.from_residual.ensures.1 ∙ word_of e; image_after = image-of e }

pub reset_on-requires : goal.reset_on-requires
reset_on-requires c = ((call c.args.image.now c.args.kind c.in_ok-read.ensures).good refl).0

pub returns : goal.returns
unfolding host_reset
returns c =
    let goes_on = (call c.args.image.now c.args.kind c.in_ok-read.ensures).goes_on refl in
    let both = two-of (c.reset_on.ensures.value, c.reset_on.ensures.image_after) goes_on in
    record { value = both.0; image_after = both.1 }
