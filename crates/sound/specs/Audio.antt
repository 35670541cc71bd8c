-- R8, S12, S13: the sound chip's state, the one that `Audio::new` makes, and a state with the named fields replaced.
use Rattle.std.specs.Prelude.{ℕ, Bool, false, List, replicate}
use Rattle.std.specs.Float.{binary32}
use Rattle.std.specs.Float.Ieee.{of_bits}
use Rattle.sound.specs.declared.audio.Audio.{Audio}

-- S12: the new sound
abbrev pub fresh : Audio
fresh =
    record {
      ram = replicate 128 0;
      addr = 0;
      auto_increment = false;
      disabled = false;
      update_counter = 0;
      current_channel = 7;
      channel_out = replicate 8 (of_bits binary32 0);
      out = of_bits binary32 0;
      phase_ext = replicate 8 0;
      signed_levels = false;
      plain_sum = false;
    }

-- the sound RAM
abbrev pub with_ram : Audio → List ℕ → Audio
with_ram a ram =
    record {
      ram = ram;
      addr = a.addr;
      auto_increment = a.auto_increment;
      disabled = a.disabled;
      update_counter = a.update_counter;
      current_channel = a.current_channel;
      channel_out = a.channel_out;
      out = a.out;
      phase_ext = a.phase_ext;
      signed_levels = a.signed_levels;
      plain_sum = a.plain_sum;
    }

-- the address and the auto-increment flag
abbrev pub with_addr : Audio → ℕ → Bool → Audio
with_addr a addr auto =
    record {
      ram = a.ram;
      addr = addr;
      auto_increment = auto;
      disabled = a.disabled;
      update_counter = a.update_counter;
      current_channel = a.current_channel;
      channel_out = a.channel_out;
      out = a.out;
      phase_ext = a.phase_ext;
      signed_levels = a.signed_levels;
      plain_sum = a.plain_sum;
    }

-- whether the sound is disabled
abbrev pub with_disabled : Audio → Bool → Audio
with_disabled a d =
    record {
      ram = a.ram;
      addr = a.addr;
      auto_increment = a.auto_increment;
      disabled = d;
      update_counter = a.update_counter;
      current_channel = a.current_channel;
      channel_out = a.channel_out;
      out = a.out;
      phase_ext = a.phase_ext;
      signed_levels = a.signed_levels;
      plain_sum = a.plain_sum;
    }

-- the update counter
abbrev pub with_counter : Audio → ℕ → Audio
with_counter a u =
    record {
      ram = a.ram;
      addr = a.addr;
      auto_increment = a.auto_increment;
      disabled = a.disabled;
      update_counter = u;
      current_channel = a.current_channel;
      channel_out = a.channel_out;
      out = a.out;
      phase_ext = a.phase_ext;
      signed_levels = a.signed_levels;
      plain_sum = a.plain_sum;
    }

-- the current channel
abbrev pub with_channel : Audio → ℕ → Audio
with_channel a k =
    record {
      ram = a.ram;
      addr = a.addr;
      auto_increment = a.auto_increment;
      disabled = a.disabled;
      update_counter = a.update_counter;
      current_channel = k;
      channel_out = a.channel_out;
      out = a.out;
      phase_ext = a.phase_ext;
      signed_levels = a.signed_levels;
      plain_sum = a.plain_sum;
    }

-- S13: the choices of a load, whether levels are signed and whether they are summed plainly
abbrev pub with_choice : Audio → Bool → Bool → Audio
with_choice a signed plain =
    record {
      ram = a.ram;
      addr = a.addr;
      auto_increment = a.auto_increment;
      disabled = a.disabled;
      update_counter = a.update_counter;
      current_channel = a.current_channel;
      channel_out = a.channel_out;
      out = a.out;
      phase_ext = a.phase_ext;
      signed_levels = signed;
      plain_sum = plain;
    }
