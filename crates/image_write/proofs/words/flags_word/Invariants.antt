-- `flags_word` meets its contract: flag after flag.
use Rattle.std.proofs.Common.{◌≡◌, ◌^◌, ◌<◌, map, take, replicate}
use Rattle.bits.specs.Fields.{pack, bit}
use Rattle.image_write.proofs.words.flags_word.Given as goal

abbrev pub invariant-loop-flag : goal.invariant-loop-flag
invariant-loop-flag l =
    (l.word ≡ pack (replicate l.flag-index 1) (map bit (take l.flag-index l.flags))) × (l.word < 2 ^ l.flag-index)
