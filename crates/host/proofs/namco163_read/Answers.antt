-- `namco163_read` meets its contract: refused by the image, or on with its state.
use Prim.Native.Nat.{ℕ}
use mathlib.Core.Path.{◌≡◌, refl, ◌∙◌}
use mathlib.Core.List.{List}
use borrow.Author.Rules.{rules}
use lib.ListN.{length}
use Rattle.refusals.proofs.Numbers.{numbered, passed-word}
use Rattle.image_read.specs.Reading.{ReadImage}
use Rattle.image_read.specs.Reading.{read_image}
use Rattle.host_state.specs.HostState.{read_gives}
use Rattle.host.specs.Host.{cpu_own, host_read}
use Rattle.host_state.proofs.Laws.{word_of, image-of, two-of}
use Rattle.host.proofs.Laws.{OnImage, on-image}
use Rattle.host.proofs.namco163_read.Goals as goal

-- the call, by what the reading of the image answered
call : (image arena : List ℕ) (addr : ℕ) {r : ReadImage} → r ≡ read_image image
    → OnImage image arena (λ s. cpu_own s arena addr) (λ s. read_gives (length image) s arena addr) r
call image arena addr is = on-image _ _ _ _ _ is

pub returns-in_err-read : goal.returns-in_err-read
unfolding host_read
returns-in_err-read c =
    let e = (call c.args.image.now c.args.arena.now c.args.addr c.in_err-read.ensures).refused (numbered _) in
    record { value = passed-word _ _ c.from_residual.ensures.1 ∙ word_of e; image_after = image-of e }

-- the lent bytes are the image of the state that was read
pub read_on-requires : goal.read_on-requires
read_on-requires c =
    let read = call c.args.image.now c.args.arena.now c.args.addr c.in_ok-read.ensures in
    ((read.good refl).0, read.image (search rules) refl)

pub returns : goal.returns
unfolding host_read
returns c =
    let goes_on = (call c.args.image.now c.args.arena.now c.args.addr c.in_ok-read.ensures).goes_on refl in
    let both = two-of (c.read_on.ensures.value, c.read_on.ensures.image_after) goes_on in
    record { value = both.0; image_after = both.1 }
