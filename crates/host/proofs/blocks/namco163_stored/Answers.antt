-- `namco163_stored` meets its contract: refused by the image, or on with its state.
use Prim.Native.Nat.{ℕ}
use mathlib.Core.Path.{◌≡◌, ◌∙◌, refl}
use mathlib.Core.List.{List, []}
use Rattle.refusals.proofs.Numbers.{numbered, passed}
use Rattle.image_read.specs.Reading.{ReadImage}
use Rattle.image_read.specs.Reading.{read_image}
use Rattle.call_blocks.specs.Blocks.{with_directory}
use Rattle.host_blocks.specs.HostBlocks.{stored_drops}
use Rattle.host.specs.Blocks.{host_stored, host_stored_places}
use Rattle.host.proofs.WithDirectory.{Places, places}
use Rattle.host.proofs.blocks.namco163_stored.Goals as goal

-- what the call makes of the places, by what the reading of the image answered
call : (image directory : List ℕ) (offset : ℕ) {r : ReadImage} → r ≡ read_image image
    → Places image directory (λ s. stored_drops directory s offset) r
call image directory offset is = places _ _ _ _ is

pub returns-in_err-read : goal.returns-in_err-read
unfolding host_stored host_stored_places
returns-in_err-read c =
    let after = call c.args.image.now c.args.directory.now c.args.offset c.in_err-read.ensures in
    record {
      value = passed _ _ c.from_residual.ensures.1 ∙ after.refuses (with_directory c.args.directory.now []) (numbered _);
      directory_after = after.kept (numbered _);
    }

pub returns : goal.returns
unfolding host_stored host_stored_places
returns c =
    let after = call c.args.image.now c.args.directory.now c.args.offset c.in_ok-read.ensures in
    record {
      value = c.stored_on.ensures.value ∙ after.passes (with_directory c.args.directory.now []) refl;
      directory_after = c.stored_on.ensures.d_after ∙ after.made refl;
    }
