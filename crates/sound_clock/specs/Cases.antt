-- Worked values at edges of S2 to S15 and C2. Each line has what a definition gives and what it has to be. The cases of T are
-- in crates/thm_machine/specs/Cases.antt.
use Rattle.std.specs.Prelude.{ℕ, ◌-◌, Bool, true, false, ◌&&◌, List, [], ◌∷◌, ◌++◌, map, eqb, length, get_or, set, replicate, ℤ, pos, negsuc}
use Rattle.std.specs.Float.{binary32}
use Rattle.std.specs.Float.Ieee.{of_bits, to_bits}
use Rattle.limits.specs.Limits.{out_most}
use Rattle.sound.specs.declared.audio.Audio.{Audio}
use Rattle.sound.specs.Audio.{fresh, with_ram, with_choice}
use Rattle.sound.specs.Registers.{peeked, read_of, written}
use Rattle.sound_wave.specs.Channel.{next_phase, nibble_at, level_by}
use Rattle.sound.specs.Levels.{whole, whole_z}
use Rattle.sound_wave.specs.Mix.{mix_of, output_of}
use Rattle.sound_clock.specs.Clock.{next_channel}
use Rattle.sound_clock.specs.Run.{sound_run, samples_of}

-- whether each line holds
unfoldable pub right : List (ℕ × ℕ) → Bool
right [] = true
right ((got, want) ∷ rest) = eqb got want && right rest

-- the bits of `out` for outputs of channels 0..=7 that are whole numbers
abbrev pub out_bits : ℕ → List ℕ → ℕ
out_bits c ks = to_bits binary32 (mix_of (map whole ks) c false)

-- the bits of a sample for the bits of `out`
abbrev pub output_bits : ℕ → ℕ
output_bits bits = to_bits binary32 (output_of (of_bits binary32 bits))

-- a wave of length 4 at frequency 3FFFF, in the registers of channel 7
abbrev pub fast : List ℕ
fast = set (set (set (replicate 128 0) 0x78 0xFF) 0x7A 0xFF) 0x7C 0xFF

-- S6: channel 7 plays nibble 0 at volume 15, so its level is 3720; c is 0
abbrev pub loud : Audio
loud = with_ram fresh (set (replicate 128 0) 0x7F 0x0F)

-- S7, S8: `out` for 3, 5 and 7 channels, and samples of 1/3, 1/7, 105, 3720 and 3825
abbrev pub mixes : List (ℕ × ℕ)
mixes =
    (out_bits 2 (0 ∷ 0 ∷ 0 ∷ 0 ∷ 0 ∷ 1 ∷ 1 ∷ 0 ∷ []), 0x3F2AAAAB)
    ∷ (out_bits 2 (0 ∷ 0 ∷ 0 ∷ 0 ∷ 0 ∷ 3720 ∷ 0 ∷ 1 ∷ []), 0x449B0AAB)
    ∷ (out_bits 4 (7 ∷ 7 ∷ 7 ∷ 1 ∷ 0 ∷ 0 ∷ 0 ∷ 0 ∷ []), 0x3E4CCCCD)
    ∷ (out_bits 6 (7 ∷ 0 ∷ 0 ∷ 0 ∷ 0 ∷ 0 ∷ 0 ∷ 1 ∷ []), 0x3E124925)
    ∷ (out_bits 6 (7 ∷ 3720 ∷ 0 ∷ 0 ∷ 0 ∷ 0 ∷ 0 ∷ 0 ∷ []), 0x4404DB6E)
    ∷ (output_bits 0x3EAAAAAB, 0x380BCF65) ∷ (output_bits 0x3E124925, 0x376FACAD) ∷ (output_bits 0x42D20000, 0x3C2C0831)
    ∷ (output_bits 0x45688000, 0x3EBE76C8) ∷ (output_bits out_most, 0x3EC3D70A)
    ∷ []

-- S14: the bits of signed outputs at a nibble and a volume: −120, −15, 0, 105, −1, and 0 at volume 0
abbrev pub level_bits : ℕ → ℕ → ℕ
level_bits nibble volume = to_bits binary32 (whole_z (level_by true nibble volume))

abbrev pub signed_levels : List (ℕ × ℕ)
signed_levels =
    (level_bits 0 15, 0xC2F00000) ∷ (level_bits 7 15, 0xC1700000) ∷ (level_bits 8 15, 0) ∷ (level_bits 15 15, 0x42D20000)
    ∷ (level_bits 7 1, 0xBF800000) ∷ (level_bits 0 0, 0) ∷ (level_bits 4 0, 0)
    ∷ []

-- S7, S15: the bits of plain sum and average for the outputs of channels 7 − c up to 7
abbrev pub both_bits : List ℤ → ℕ → ℕ → List (ℕ × ℕ)
both_bits zs sum mean =
    let c = length zs - 1 in
    let outs = map whole_z (replicate (7 - c) (pos 9) ++ zs) in
    (to_bits binary32 (mix_of outs c true), sum) ∷ (to_bits binary32 (mix_of outs c false), mean) ∷ []

abbrev pub signed_mixes : List (ℕ × ℕ)
signed_mixes =
    both_bits (negsuc 0 ∷ pos 0 ∷ pos 0 ∷ []) 0xBF800000 0xBEAAAAAB
    ++ both_bits (negsuc 119 ∷ pos 105 ∷ pos 15 ∷ []) 0 0
    ++ both_bits (pos 105 ∷ negsuc 104 ∷ []) 0 0
    ++ both_bits (negsuc 0 ∷ replicate 6 (pos 0)) 0xBF800000 0xBE124925
    ++ both_bits (replicate 6 (pos 105) ++ (pos 104 ∷ [])) 0x44378000 0x42D1B6DB
    ++ both_bits (replicate 4 (negsuc 119) ++ (pos 105 ∷ [])) 0xC3BB8000 0xC2960000
    ++ both_bits (replicate 8 (negsuc 119)) 0xC4700000 0xC2F00000
    ++ both_bits (replicate 8 (pos 105)) 0x44520000 0x42D20000
    ++ both_bits (replicate 8 (pos 3825)) 0x46EF1000 0x456F1000

-- S13: 45 clocks of two channels at volume 15, channel 7 at nibble 0 and channel 6 at nibble F, in each choice
abbrev pub duet : Bool → Bool → Audio
duet signed plain =
    with_choice (with_ram fresh (set (set (set (set (replicate 128 0) 0x00 0xF0) 0x7F 0x1F) 0x76 0x01) 0x77 0x0F)) signed plain

abbrev pub three_samples : Audio → ℕ → ℕ → ℕ → List (ℕ × ℕ)
three_samples a x y z =
    let xs = map (to_bits binary32) (samples_of 45 a) in
    (length xs, 3) ∷ (get_or xs 0 0, x) ∷ (get_or xs 1 0, y) ∷ (get_or xs 2 0, z) ∷ []

abbrev pub duets : List (ℕ × ℕ)
duets =
    three_samples (duet false false) 0x3E3E76C8 0x3E43D70A 0x3E43D70A
    ++ three_samples (duet true false) 0xBBC49BA6 0xBA449BA6 0xBA449BA6
    ++ three_samples (duet false true) 0x3EBE76C8 0x3EC3D70A 0x3EC3D70A
    ++ three_samples (duet true true) 0xBC449BA6 0xBAC49BA6 0xBAC49BA6

-- S4: phases at length 4 and frequency 3FFFF, and one that lies behind the end of the wave
abbrev pub phases : List (ℕ × ℕ)
phases =
    (next_phase fast 0x78 0, 0x3FFFF) ∷ (next_phase fast 0x78 0x3FFFF, 0x3FFFE) ∷ (next_phase fast 0x78 0x3FFFE, 0x3FFFD)
    ∷ (next_phase fast 0x78 0xFFFFC, 0x3FFFB)
    ∷ []

-- S2, S5: the turn at c = 7, 2, 1 and 0; the two halves of a byte, and the last nibble of the sound RAM
abbrev pub turns : List (ℕ × ℕ)
turns =
    (next_channel 7 7, 6) ∷ (next_channel 1 7, 0) ∷ (next_channel 0 7, 7) ∷ (next_channel 7 2, 6) ∷ (next_channel 6 2, 5) ∷ (next_channel 5 2, 7)
    ∷ (next_channel 3 1, 7) ∷ (next_channel 0 0, 7)
    ∷ (nibble_at (0xA5 ∷ []) 0, 0x5) ∷ (nibble_at (0xA5 ∷ []) 1, 0xA) ∷ (nibble_at (set (replicate 128 0) 0x7F 0x9C) 0xFF, 0x9)
    ∷ []

-- S7: where sound byte 7F makes two channels of one, `out` stays 3720 up to the next update and is 1860 then
abbrev pub halved : List (ℕ × ℕ)
halved =
    let a = sound_run 15 loud in
    let b = with_ram a (set a.ram 0x7F 0x1F) in
    (to_bits binary32 a.out, 0x45688000) ∷ (to_bits binary32 b.out, 0x45688000) ∷ (to_bits binary32 (sound_run 15 b).out, 0x44E88000)
    ∷ []

-- S10, S11: F800 = FF, 4800 = 5A, so byte 7F is 5A and the address 0. C2: a clock of a disabled sound does not count.
abbrev pub ports : List (ℕ × ℕ)
ports =
    let a = written (written fresh 0xF800 0xFF) 0x4800 0x5A in
    let b = written (sound_run 7 fresh) 0xE000 0x40 in
    let c = written (sound_run 20 b) 0xE000 0x00 in
    (get_or a.ram 0x7F 0, 0x5A) ∷ (a.addr, 0) ∷ ((read_of a 0x4FFF).audio.addr, 1) ∷ (peeked a 0x5000, 0)
    ∷ ((sound_run 20 b).update_counter, 7) ∷ (length (samples_of 20 b), 0) ∷ (length (samples_of 8 c), 1)
    ∷ []
