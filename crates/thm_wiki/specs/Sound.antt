-- The outside definition of the sound: Namco 163 audio as docs/WIKI.md has it, written without the Rust. `ram` is the chip's RAM, with the
-- phases in it (W16).
use Rattle.std.specs.Prelude.{ℕ, ◌+◌, ◌-◌, ◌*◌, ◌/◌, ◌%◌, Bool, false, cond, List, [], ◌∷◌, eqb, leb, ℤ, pos, ◌+ℤ◌, ◌-ℤ◌, ◌*ℤ◌, get_or, set, replicate}

-- ---- a channel's registers, at base b: W16, W19

-- W16: the bases are 40, 48 .. 78
abbrev pub wiki_base : ℕ → ℕ
wiki_base k = 0x40 + k * 8

-- W16: the frequency, from bytes b+0, b+2 and bits 0..1 of b+4
abbrev pub wiki_frequency : List ℕ → ℕ → ℕ
wiki_frequency ram b = get_or ram (b + 0) 0 + 256 * get_or ram (b + 2) 0 + 65536 * (get_or ram (b + 4) 0 % 4)

-- W16: the phase, from bytes b+1, b+3 and b+5
abbrev pub wiki_phase : List ℕ → ℕ → ℕ
wiki_phase ram b = get_or ram (b + 1) 0 + 256 * get_or ram (b + 3) 0 + 65536 * get_or ram (b + 5) 0

-- W16: the RAM with a phase stored there
abbrev pub wiki_stored : List ℕ → ℕ → ℕ → List ℕ
wiki_stored ram b p = set (set (set ram (b + 1) (p % 256)) (b + 3) (p / 256 % 256)) (b + 5) (p / 65536 % 256)

-- W19: the length, from bits 2..7 of byte b+4
abbrev pub wiki_length : List ℕ → ℕ → ℕ
wiki_length ram b = 256 - (get_or ram (b + 4) 0 - get_or ram (b + 4) 0 % 4)

-- W16: the wave's address
abbrev pub wiki_wave_address : List ℕ → ℕ → ℕ
wiki_wave_address ram b = get_or ram (b + 6) 0

-- W16: the volume
abbrev pub wiki_volume : List ℕ → ℕ → ℕ
wiki_volume ram b = get_or ram (b + 7) 0 % 16

-- ---- an update: W19, W20

-- W19: sample x
abbrev pub wiki_sample : List ℕ → ℕ → ℕ
wiki_sample ram x = cond (eqb (x % 2) 0) (get_or ram (x / 2) 0 % 16) (get_or ram (x / 2) 0 / 16)

-- W20: the phase after an update
abbrev pub wiki_next_phase : List ℕ → ℕ → ℕ
wiki_next_phase ram b = (wiki_phase ram b + wiki_frequency ram b) % (wiki_length ram b * 65536)

-- W20: where the sample of a phase is
abbrev pub wiki_place : List ℕ → ℕ → ℕ → ℕ
wiki_place ram b phase = (phase / 65536 + wiki_wave_address ram b) % 256

-- W20: the level of a sample at a volume, signed
abbrev pub wiki_level : ℕ → ℕ → ℤ
wiki_level sample volume = (pos sample -ℤ pos 8) *ℤ pos volume

-- W20: the level at a phase: of the sample there, at the volume of byte b+7
abbrev pub wiki_output : List ℕ → ℕ → ℕ → ℤ
wiki_output ram b phase = wiki_level (wiki_sample ram (wiki_place ram b phase)) (wiki_volume ram b)

-- ---- which channels, and when: W17, W18, W21

-- W17: c, one less than the number of enabled channels
abbrev pub wiki_count : List ℕ → ℕ
wiki_count ram = get_or ram 0x7F 0 / 16 % 8

-- W17: whether channel k is enabled
abbrev pub wiki_enabled : ℕ → ℕ → Bool
wiki_enabled c k = leb 7 (k + c)

-- W21: the sum of the enabled channels' outputs, from channel k on, which the usual approximation divides by their number
unfoldable pub wiki_sum : ℕ → ℕ → List ℤ → ℤ
wiki_sum c k [] = pos 0
wiki_sum c k (z ∷ zs) = cond (wiki_enabled c k) z (pos 0) +ℤ wiki_sum c (k + 1) zs

-- ---- the chip

-- the RAM, the port's address and auto-increment (W15), whether the sound is off (W11), the cycles since the last update, whose turn it is
-- (W18), and what each channel put out last (W20)
pub record WikiSound : Type 0 where
  pub ram : List ℕ
  pub addr : ℕ
  pub auto : Bool
  pub silent : Bool
  pub timer : ℕ
  pub turn : ℕ
  pub outs : List ℤ

-- W22: how it begins
abbrev pub no_sound : WikiSound
no_sound = record { ram = replicate 128 0; addr = 0; auto = false; silent = false; timer = 0; turn = 7; outs = replicate 8 (pos 0) }

-- the base of the channel whose turn it is, and its next phase
abbrev pub wiki_at : WikiSound → ℕ
wiki_at w = wiki_base w.turn

abbrev pub wiki_next : WikiSound → ℕ
wiki_next w = wiki_next_phase w.ram (wiki_at w)

-- W18, W23: whose turn it is after channel k
abbrev pub wiki_next_turn : ℕ → ℕ → ℕ
wiki_next_turn c k = cond (leb k (7 - c)) 7 (k - 1)

-- W20: an update: the phase, the output, the turn
unfoldable pub wiki_update : WikiSound → WikiSound
wiki_update w =
    record {
      ram = wiki_stored w.ram (wiki_at w) (wiki_next w);
      addr = w.addr;
      auto = w.auto;
      silent = w.silent;
      timer = 0;
      turn = wiki_next_turn (wiki_count w.ram) w.turn;
      outs = set w.outs w.turn (wiki_output w.ram (wiki_at w) (wiki_next w));
    }

-- W18, W24: one CPU cycle; a sound that is off stands still
unfoldable pub sound_cycle : WikiSound → WikiSound
sound_cycle w =
    cond w.silent w
    (cond (eqb (w.timer + 1) 15) (wiki_update w)
    (record {
      ram = w.ram;
      addr = w.addr;
      auto = w.auto;
      silent = w.silent;
      timer = w.timer + 1;
      turn = w.turn;
      outs = w.outs;
    }))
