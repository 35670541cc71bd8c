-- `namco163_load_blocks` meets its contract: refused by the image, refused by the load, and accepted.
use mathlib.Core.Path.{refl, sym, ap, ◌∙◌}
use mathlib.Core.List.{◌∷◌}
use lib.ListN.{length}
use Rattle.refusals.proofs.Numbers.{numbered, passed}
use borrow.Author.Rules.{rules}
use Rattle.memory.specs.declared.layout.MemoryLayout.{MemoryLayout}
use Rattle.call_refusals.specs.Refusals.{load_checks}
use Rattle.image_write.specs.Options.{image_at}
use Rattle.call_blocks.specs.Blocks.{places_check, load_leaves, load_drops}
use Rattle.host_state.proofs.Laws.{called, word_of, image-of, lent_of}
use Rattle.host.specs.Host.{yes, sizes_of, options_of, load_needs_byte, load_gives}
use Rattle.host.specs.Blocks.{load_blocks_checks, host_load_blocks}
use Rattle.host.proofs.Laws.{no_room, load-known, load_fresh, room-fresh}
use Rattle.host.proofs.WithDirectory.{places-stay, load-blocks}
use Rattle.host.proofs.blocks.namco163_load_blocks.Goals as goal

-- here and below `sizes` and `options` are those that the call was given, and `given` is what the load gives of them
pub returns-then-not-room_for_load : goal.returns-then-not-room_for_load
unfolding host_load_blocks
returns-then-not-room_for_load c =
    let a = c.args in
    let sizes = sizes_of a.prg_rom a.prg_ram a.battery a.chr a.chr_ram a.ciram in
    let options = options_of a.f800_protects a.signed_levels a.plain_sum in
    let given = load_gives (length a.image.now) a.arena.now a.mapper a.submapper a.flags a.in_database sizes options in
    let asked = rw (c.sizes_of-sizes.ensures, c.options_of-options.ensures) at c.room_for_load.ensures in
    let none = sym asked ∙ c.if-not-room_for_load.true in
    let own = places_check a.directory.now ∷ load_checks a.mapper sizes (length a.arena.now) in
    let e = no_room (load_needs_byte sizes options) a.image.now own a.arena.now given none in
    let kept = places-stay a.image.now a.arena.now a.directory.now a.mapper sizes options none in
    record { value = word_of e; image_after = image-of e; arena_after = lent_of e; directory_after = kept }

-- here and below the bytes hold the image by `room-here`, and `arena-left` and `places-left` are what a load of those sizes leaves
pub returns-in_err-fresh : goal.returns-in_err-fresh
unfolding host_load_blocks
returns-in_err-fresh c =
    let a = c.args in
    let sizes = sizes_of a.prg_rom a.prg_ram a.battery a.chr a.chr_ram a.ciram in
    let options = options_of a.f800_protects a.signed_levels a.plain_sum in
    let given = load_gives (length a.image.now) a.arena.now a.mapper a.submapper a.flags a.in_database sizes options in
    let load = c.in_err-fresh.ensures in
    let asked = rw (c.sizes_of-sizes.ensures, c.options_of-options.ensures) at c.room_for_load.ensures in
    let room-here = sym asked ∙ c.if-not-room_for_load.false in
    let loaded = load-blocks a.image.now a.arena.now a.directory.now a.mapper a.submapper a.flags (yes a.in_database) sizes options
    _ room-here (rw (c.sizes_of-sizes.ensures, c.options_of-options.ensures) at load.value) in
    let checks = load_blocks_checks a.image.now a.arena.now a.directory.now a.mapper sizes options in
    let call = called checks a.image.now a.arena.now given given _ loaded.number refl in
    let arena-left = ap (λ (x : MemoryLayout). load_leaves a.directory.now a.mapper x a.arena.now) c.sizes_of-sizes.ensures in
    let places-left = ap (λ (x : MemoryLayout). load_drops a.directory.now a.mapper x a.arena.now) c.sizes_of-sizes.ensures in
    let e = call.refused (numbered _) in
    record {
      value = passed _ _ c.from_residual.ensures.1 ∙ word_of e;
      image_after = image-of e;
      arena_after = load.arena_after ∙ arena-left ∙ loaded.arena-stays (numbered _) ∙ lent_of e;
      directory_after = load.d_after ∙ places-left ∙ loaded.places-after;
    }

pub put_image-requires : goal.put_image-requires
put_image-requires c =
    let a = c.args in
    let sizes = sizes_of a.prg_rom a.prg_ram a.battery a.chr a.chr_ram a.ciram in
    let options = options_of a.f800_protects a.signed_levels a.plain_sum in
    let asked = rw (c.sizes_of-sizes.ensures, c.options_of-options.ensures) at c.room_for_load.ensures in
    let room-here = sym asked ∙ c.if-not-room_for_load.false in
    let loaded = load-blocks a.image.now a.arena.now a.directory.now a.mapper a.submapper a.flags (yes a.in_database) sizes options
    _ room-here (rw (c.sizes_of-sizes.ensures, c.options_of-options.ensures) at c.in_ok-fresh.ensures.value) in
    let own = loaded.own-load refl in (
      room-fresh a.mapper a.submapper a.flags (yes a.in_database) sizes options a.arena.now _ own refl (length a.image.now) room-here,
      load-known a.mapper a.submapper a.flags (yes a.in_database) sizes options a.arena.now _ own (search rules) refl,
    )

pub returns : goal.returns
unfolding host_load_blocks
returns c =
    let a = c.args in
    let sizes = sizes_of a.prg_rom a.prg_ram a.battery a.chr a.chr_ram a.ciram in
    let options = options_of a.f800_protects a.signed_levels a.plain_sum in
    let given = load_gives (length a.image.now) a.arena.now a.mapper a.submapper a.flags a.in_database sizes options in
    let load = c.in_ok-fresh.ensures in
    let asked = rw (c.sizes_of-sizes.ensures, c.options_of-options.ensures) at c.room_for_load.ensures in
    let room-here = sym asked ∙ c.if-not-room_for_load.false in
    let loaded = load-blocks a.image.now a.arena.now a.directory.now a.mapper a.submapper a.flags (yes a.in_database) sizes options
    _ room-here (rw (c.sizes_of-sizes.ensures, c.options_of-options.ensures) at load.value) in
    let checks = load_blocks_checks a.image.now a.arena.now a.directory.now a.mapper sizes options in
    let call = called checks a.image.now a.arena.now given given _ loaded.number refl in
    let arena-left = ap (λ (x : MemoryLayout). load_leaves a.directory.now a.mapper x a.arena.now) c.sizes_of-sizes.ensures in
    let places-left = ap (λ (x : MemoryLayout). load_drops a.directory.now a.mapper x a.arena.now) c.sizes_of-sizes.ensures in
    let e = call.accepted refl in
    let fresh = load_fresh a.mapper a.submapper a.flags (yes a.in_database) sizes options a.arena.now _ (loaded.own-load refl) refl in
    record {
      value = word_of e;
      image_after = c.put_image.ensures ∙ ap (image_at (length a.image.now)) fresh ∙ image-of e;
      arena_after = load.arena_after ∙ arena-left ∙ loaded.arena-loaded refl ∙ lent_of e;
      directory_after = load.d_after ∙ places-left ∙ loaded.places-after;
    }
