-- L23: the same load in another edition, and what is alike after the same calls: registers, sound, counter and detection.
use Rattle.std.specs.Prelude.{◌≡◌, Bool, List, ◌^◌, ◌<◌, Float}
use Rattle.cut.specs.Calls.{Call}
use Rattle.cut.specs.Always.{AllTyped}
use Rattle.cut.specs.Demand3.{observed}
use Rattle.thm_machine.specs.Calls.{Other, CallTyped}
use Rattle.thm_machine.specs.Board.{board}
use Rattle.thm_machine.specs.Start.{Loaded, loaded}

-- L19: the same load in the edition where F800 protects, or in the other
abbrev pub in_edition : Loaded → Bool → Loaded
in_edition l protects =
    record {
      mapper = l.mapper;
      submapper = l.submapper;
      flags = l.flags;
      known = l.known;
      sizes = l.sizes;
      options =
          record {
            f800_protects = protects;
            signed_levels = l.options.signed_levels;
            plain_sum = l.options.plain_sum;
          };
      arena = l.arena;
      accepted = l.accepted;
    }

-- L23: every field of R8's `Namco163`, the sound's too
abbrev pub ChipsAlike : Type 0
ChipsAlike = (l : Loaded) (protects : Bool) → l.submapper < 2 ^ 8 → (calls : List (Call Float Other)) → AllTyped CallTyped calls
    → (observed board calls (loaded (in_edition l protects))).state.state.chip ≡ (observed board calls (loaded l)).state.state.chip
