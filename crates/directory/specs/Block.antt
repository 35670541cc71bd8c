-- K1: one place of a directory: 0 is a free place, any other number a block, fit or not.
use Rattle.std.specs.Prelude.{ℕ, ◌+◌, ◌-◌, ◌*◌, ◌/◌, ◌%◌, ◌^◌, Bool, not, ◌&&◌, Option, Some, None, if◌then◌else◌, ◌==◌, nat_le}
use Rattle.directory.specs.declared.block.Block.{Block}

-- K1: from the most significant bit, 16 bits of start, 16 of length, 32 of number
abbrev pub start_of : ℕ → ℕ
start_of w = w / 2 ^ 48 % 2 ^ 16

abbrev pub len_of : ℕ → ℕ
len_of w = w / 2 ^ 32 % 2 ^ 16

abbrev pub number_of : ℕ → ℕ
number_of w = w % 2 ^ 32

abbrev pub word_of : ℕ → ℕ → ℕ → ℕ
word_of start len number = start * 2 ^ 48 + len * 2 ^ 32 + number

abbrev pub block_of : ℕ → Block
block_of w = record { start = start_of w; len = len_of w; number = number_of w }

-- K1, N13: a block that can be registered
unfoldable pub fits : ℕ → ℕ → Bool
fits start len = nat_le 0x6000 start && (nat_le 1 len && (nat_le len 4096 && nat_le (start + len) 0x10000))

abbrev pub registrable : ℕ → ℕ → ℕ → Option Block
registrable start len number = if fits start len then Some (record { start = start; len = len; number = number }) else None

abbrev pub free : ℕ → Bool
free w = w == 0

-- a place holds the block of a start
unfoldable pub holds : ℕ → ℕ → Bool
holds start w = not (free w) && start_of w == start

-- K5: CPU page k is under a block
unfoldable pub under : ℕ → ℕ → ℕ → Bool
under start len k = nat_le (start / 1024) k && nat_le k ((start + len - 1) / 1024)
