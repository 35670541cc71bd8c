-- The outside definition of the sound port: W15, and the bit of E000 that turns the sound off (W11).
use Rattle.std.specs.Prelude.{ℕ, ◌+◌, ◌%◌, Bool, cond, List, eqb, leb, ltb, get_or, set}
use Rattle.thm_wiki.specs.Registers.{wiki_bit}
use Rattle.thm_wiki.specs.Sound.{WikiSound}

-- W15: the address that a value of the address port has, its bits 0..6
abbrev pub wiki_address : ℕ → ℕ
wiki_address val = val % 128

-- W15: and whether it sets auto-increment, its bit 7
abbrev pub wiki_auto : ℕ → Bool
wiki_auto val = leb 128 val

-- W15: the address after an access of the data port: the next one where auto-increment is set, and 0 after 7F
abbrev pub wiki_advance : Bool → ℕ → ℕ
wiki_advance auto addr = cond auto (cond (eqb addr 0x7F) 0 (addr + 1)) addr

-- W15: the byte that the data port answers
abbrev pub wiki_byte : WikiSound → ℕ
wiki_byte w = get_or w.ram w.addr 0

-- the chip with another RAM; with another port; turned on or off
abbrev pub with_ram : WikiSound → List ℕ → WikiSound
with_ram w ram =
    record { ram = ram; addr = w.addr; auto = w.auto; silent = w.silent; timer = w.timer; turn = w.turn; outs = w.outs }

abbrev pub with_port : WikiSound → ℕ → Bool → WikiSound
with_port w addr auto =
    record { ram = w.ram; addr = addr; auto = auto; silent = w.silent; timer = w.timer; turn = w.turn; outs = w.outs }

abbrev pub with_silent : WikiSound → Bool → WikiSound
with_silent w silent =
    record { ram = w.ram; addr = w.addr; auto = w.auto; silent = silent; timer = w.timer; turn = w.turn; outs = w.outs }

-- W15: after an access of the data port
abbrev pub wiki_moved : WikiSound → WikiSound
wiki_moved w = with_port w (wiki_advance w.auto w.addr) w.auto

-- W11, W15: a write, and a read of the data port
unfoldable pub sound_write : WikiSound → ℕ → ℕ → WikiSound
sound_write w a v =
    cond (ltb a 0x4800) w
    (cond (ltb a 0x5000) (wiki_moved (with_ram w (set w.ram w.addr v)))
    (cond (ltb a 0xE000) w
    (cond (ltb a 0xE800) (with_silent w (wiki_bit 6 v))
    (cond (ltb a 0xF800) w
    (cond (ltb a 0x10000) (with_port w (wiki_address v) (wiki_auto v)) w)))))

unfoldable pub sound_read : WikiSound → ℕ → WikiSound
sound_read w a = cond (ltb a 0x4800) w (cond (ltb a 0x5000) (wiki_moved w) w)
