-- `namco163_load_options` meets its contract: it is `load_image`.
use mathlib.Core.Path.{ap, ◌∙◌}
use Rattle.host_state.specs.HostState.{Gives}
use Rattle.host.specs.Host.{sizes_of, options_of}
use Rattle.host.proofs.Laws.{known-bit}
use Rattle.host.proofs.namco163_load_options.Goals as goal

pub returns : goal.returns
returns c =
    let a = c.args in
    let sizes = sizes_of a.prg_rom a.prg_ram a.battery a.chr a.chr_ram a.ciram in
    let e = known-bit a.image.now a.arena.now a.mapper a.submapper a.flags a.in_database sizes (options_of a.f800_protects a.signed_levels a.plain_sum) in
    let load = rw (c.sizes_of.ensures, c.options_of.ensures) at c.load_image.ensures in
    record {
      value = load.value ∙ ap (λ (g : Gives). g.word) e;
      image_after = load.image_after ∙ ap (λ (g : Gives). g.image) e;
      arena_after = load.arena_after ∙ ap (λ (g : Gives). g.lent) e;
    }
