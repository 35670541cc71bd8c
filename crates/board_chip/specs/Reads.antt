-- L8: what the board itself answers to a CPU read, the Rust's `prg_read` and `prg_peek`: the sound port and the counter. Elsewhere memory
-- answers.
use Rattle.std.specs.Prelude.{ℕ, ◌/◌, ◌%◌, cond, nat_lt, Option, Some, None}
use Rattle.sound.specs.Registers.{peeked, read_of}
use Rattle.board_chip.specs.declared.namco163.Namco163.{Namco163}
use Rattle.board_chip.specs.Namco163.{with_audio}

-- F3, F16: the board's byte, or else d, which memory answers
abbrev pub byte_or : ℕ → Option ℕ → ℕ
byte_or d (Some b) = b
byte_or d None = d

-- L8: the same ranges on every board
unfoldable pub served : Namco163 → ℕ → Option ℕ
served n a =
    cond (nat_lt a 0x4800) None
    (cond (nat_lt a 0x5000) (Some (peeked n.audio a))
    (cond (nat_lt a 0x5800) (Some (n.regs.irq_counter % 256))
    (cond (nat_lt a 0x6000) (Some (n.regs.irq_counter / 256)) None)))

-- L8, S10: only a read of the sound port can change the board, in its sound address
unfoldable pub after_read : Namco163 → ℕ → Namco163
after_read n a = cond (nat_lt a 0x4800) n (cond (nat_lt a 0x5000) (with_audio n (read_of n.audio a).audio) n)
