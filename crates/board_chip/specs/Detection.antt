-- L6, L13: which board it is, and what that says of work RAM.
use Rattle.std.specs.Prelude.{ℕ, ◌%◌, Bool, true, false, cond, not, ◌&&◌, ◌||◌, ◌==◌}
use Rattle.board_chip.specs.declared.namco163.Board.{Board}
use Rattle.board_chip.specs.declared.namco163.Board.TheVariants.{Unknown, Namco163 as Is163, Namco175, Namco340}
use Rattle.board_chip.specs.declared.namco163.Namco163.{Namco163}
use Rattle.board_chip.specs.Namco163.{is340, with_board}

-- L6: whether detection acts
unfoldable pub may_change : Namco163 → Bool
may_change n = n.auto_detect_board && (not n.prg_ram_written_to || not (is340 n.board))

-- L6: the Rust's `maybe_set_board`; where the board is b already, setting it changes nothing
unfoldable pub maybe_set_board : Namco163 → Board → Namco163
maybe_set_board n b = cond (may_change n) (with_board n b) n

-- L13: the Rust's `prg_ram_readable`, whether work RAM is mapped at 6000
abbrev pub prg_ram_readable : Board → Bool
prg_ram_readable Unknown = false
prg_ram_readable Is163 = true
prg_ram_readable Namco175 = true
prg_ram_readable Namco340 = false

-- L13: the Rust's `prg_ram_writable`, whether it takes stores, p being the protect byte
abbrev pub prg_ram_writable : Board → ℕ → Bool
prg_ram_writable Unknown p = false
prg_ram_writable Is163 p = true
prg_ram_writable Namco175 p = p % 2 == 1
prg_ram_writable Namco340 p = false
