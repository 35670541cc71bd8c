-- F2, F14: the sound port as a struct. A read is S10's. An address of 128 or more stands for its remainder by 128, so nothing is asked of a
-- port.
use Rattle.std.specs.Prelude.{ℕ, ◌+◌, ◌%◌, cond, get_or}
use Rattle.sound.specs.declared.audio.Audio.{Audio}
use Rattle.sound.specs.Audio.{with_ram, with_addr}
use Rattle.sound_port.specs.declared.lent.Port.{Port}
use Rattle.sound_port.specs.declared.lent.PortRead.{PortRead}

-- the place that is read
abbrev pub place_of : Port → ℕ
place_of p = p.addr % 128

-- S10: the byte that a read answers
abbrev pub byte_of : Port → ℕ
byte_of p = get_or p.ram (place_of p) 0

-- S10: the port after a read; behind 7F comes address 0
unfoldable pub after_read : Port → Port
after_read p =
    record {
      ram = p.ram;
      addr = cond p.auto_increment ((place_of p + 1) % 128) p.addr;
      auto_increment = p.auto_increment;
    }

-- both, as a read by value answers them
abbrev pub step_of : Port → PortRead
step_of p = record { byte = byte_of p; port = after_read p }

-- the port of a sound chip
abbrev pub port_of : Audio → Port
port_of a = record { ram = a.ram; addr = a.addr; auto_increment = a.auto_increment }

-- a sound chip with a port put back
abbrev pub with_port : Audio → Port → Audio
with_port a p = with_addr (with_ram a p.ram) p.addr p.auto_increment
