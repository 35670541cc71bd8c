-- H1: the page tables as they are read, eight entries at a time: eight entries of 11 bits are 11 bytes.
use Rattle.std.specs.Prelude.{ℕ, List, ◌++◌}
use Rattle.bits.specs.Fields.{unpack, times}
use Rattle.image_write.specs.Image.{page_widths}
use Rattle.image_read.specs.declared.pages.Eight.{Eight}

-- the fields of eight entries, of the words that hold them
abbrev pub eight_fields : Eight → List ℕ
eight_fields w = unpack (times 4 page_widths) w.first ++ unpack (times 4 page_widths) w.last
