-- W15 to W20: the board's sound beside the wiki's, access by access and cycle by cycle. Departure: the phases are kept apart from the RAM,
-- so they agree as long as nobody but an update changes them in the wiki's. Assumes nothing.
use Prim.Native.Nat.{ℕ, ◌+◌, ◌*◌, ◌/◌, ◌%◌, ◌<◌}
use mathlib.Core.Path.{◌≡◌, refl, sym, ap, ◌∙◌}
use mathlib.Core.Bool.{Bool, true, false, cond, not, ◌||◌}
use mathlib.Core.List.{List}
use native.Mathlib.Decide.{ℕ_discrete}
use native.Mathlib.Omega.{arith}
use borrow.Author.Tests.{le-leb, eqb-true}
use lib.Dec.{eqb, leb}
use lib.Ieee.{nan}
use lib.IntN.{ℤ, pos, ◌+ℤ◌}
use lib.ListN.{length, length-set, get_or, get_or-replicate, replicate, set}
use lib.Seq.{get_or-set_same, get_or-set_other}
use Rattle.limits.proofs.Every.{every-at}
use Rattle.sound.specs.declared.audio.Audio.{Audio}
use Rattle.sound.specs.Audio.{fresh, with_counter, with_choice}
use Rattle.sound.specs.Audio.{with_ram as with_sound_ram, with_addr, with_disabled}
use Rattle.sound.specs.Levels.{whole, whole_z}
use Rattle.sound.specs.Range.{Typed, InRange}
use Rattle.sound.specs.Registers.{advanced}
use Rattle.sound.proofs.levels.Laws.{zero_bits}
use Rattle.sound_wave.specs.Channel.{base_addr, channel_count, next_phase, output_at}
use Rattle.sound_wave.proofs.Range.Channel.{next-phase-small}
use Rattle.sound_clock.specs.Clock.{update_channel, updated, sound_clock}
use Rattle.thm_wiki.specs.Sound.{WikiSound, no_sound, wiki_base, wiki_phase, wiki_stored, wiki_count, wiki_place, wiki_sample}
use Rattle.thm_wiki.specs.Sound.{wiki_volume, wiki_output, wiki_at, wiki_next, wiki_update, sound_cycle}
use Rattle.thm_wiki.specs.Port.{wiki_advance, with_ram, with_port, with_silent, wiki_moved}
use Rattle.thm_wiki.specs.Machine.{Wiki, cycle}
use Rattle.thm_wiki.specs.Notes.{Notes, is_phase, same_phases, next_place, note_update, note}
use Rattle.thm_wiki.specs.Agrees.{PutOut, SoundAgrees}
use Rattle.thm_wiki.proofs.Tests.{never, or_left, or_right, not-not}
use Rattle.thm_wiki.proofs.Channel.{base_agrees, frequency-agrees, length-agrees, output-agrees, turn-agrees}
use Rattle.thm_wiki.proofs.Port.{advance-agrees}

-- ---- W16: which bytes hold a phase

-- bytes 1, 3 and 5 of a channel do, and a byte that holds none is none of them
is-phase : (k o : ℕ) → (eqb (o % 8) 1 || (eqb (o % 8) 3 || eqb (o % 8) 5)) ≡ true → o < 8 → is_phase (wiki_base k + o) ≡ true
is-phase k o e h =
    let m : (wiki_base k + o) % 8 ≡ o % 8 = omega arith in
    rw (le-leb 0x40 (wiki_base k + o) (omega arith), m) e

apart : (j k o : ℕ) → is_phase j ≡ false → (eqb (o % 8) 1 || (eqb (o % 8) 3 || eqb (o % 8) 5)) ≡ true → o < 8 → j ≡ wiki_base k + o → ⊥
apart j k o f e h p = never (sym (is-phase k o e h) ∙ ap is_phase (sym p) ∙ f)

-- its other bytes do not
no-phase : (k o : ℕ) → (eqb (o % 8) 1 || (eqb (o % 8) 3 || eqb (o % 8) 5)) ≡ false → o < 8 → is_phase (wiki_base k + o) ≡ false
no-phase k o e h =
    let m : (wiki_base k + o) % 8 ≡ o % 8 = omega arith in
    rw (le-leb 0x40 (wiki_base k + o) (omega arith), m) e

-- a phase that is stored leaves every other byte
other-stays : (wiki : List ℕ) (b p j : ℕ) → (j ≡ b + 1 → ⊥) → (j ≡ b + 3 → ⊥) → (j ≡ b + 5 → ⊥)
    → get_or (wiki_stored wiki b p) j 0 ≡ get_or wiki j 0
other-stays wiki b p j x y z =
    get_or-set_other (set (set wiki (b + 1) (p % 256)) (b + 3) (p / 256 % 256)) (b + 5) j _ 0 z
    ∙ get_or-set_other (set wiki (b + 1) (p % 256)) (b + 3) j _ 0 y
    ∙ get_or-set_other wiki (b + 1) j _ 0 x

-- and is read back
stored-phase : (wiki : List ℕ) (k p : ℕ) → length wiki ≡ 128 → k < 8 → p < 16777216
    → wiki_phase (wiki_stored wiki (wiki_base k) p) (wiki_base k) ≡ p
stored-phase wiki k p l h q =
    let b = wiki_base k in
    let w1 = set wiki (b + 1) (p % 256) in
    let w2 = set w1 (b + 3) (p / 256 % 256) in
    let l1 : length w1 ≡ 128 = length-set wiki (b + 1) (p % 256) ∙ l in
    let l2 : length w2 ≡ 128 = length-set w1 (b + 3) (p / 256 % 256) ∙ l1 in
    let one : get_or (wiki_stored wiki b p) (b + 1) 0 ≡ p % 256 = get_or-set_other w2 (b + 5) (b + 1) _ 0 (λ e. omega arith)
    ∙ get_or-set_other w1 (b + 3) (b + 1) _ 0 (λ e. omega arith) ∙ get_or-set_same wiki (b + 1) _ 0 (omega arith) in
    let two : get_or (wiki_stored wiki b p) (b + 3) 0 ≡ p / 256 % 256 = get_or-set_other w2 (b + 5) (b + 3) _ 0 (λ e. omega arith)
    ∙ get_or-set_same w1 (b + 3) _ 0 (omega arith) in
    let three : get_or (wiki_stored wiki b p) (b + 5) 0 ≡ p / 65536 % 256 = get_or-set_same w2 (b + 5) _ 0 (omega arith) in
    rw (one, two, three) (omega arith)

stored-length : (ram : List ℕ) (b p : ℕ) → length (wiki_stored ram b p) ≡ length ram
stored-length ram b p =
    length-set (set (set ram (b + 1) (p % 256)) (b + 3) (p / 256 % 256)) (b + 5) (p / 65536 % 256)
    ∙ (length-set (set ram (b + 1) (p % 256)) (b + 3) (p / 256 % 256) ∙ length-set ram (b + 1) (p % 256))

-- ---- what is noted of an update

abbrev pub above_of : WikiSound → ℕ
above_of w = cond (leb 8 (wiki_sample w.ram (next_place w))) 0 (256 * wiki_volume w.ram (wiki_at w))

abbrev pub above_next : WikiSound → List ℕ → List ℕ
above_next w above = set above w.turn (above_of w)

abbrev pub stray_next : WikiSound → Bool → List Bool → List Bool
stray_next w changed stray = set stray w.turn (is_phase (next_place w / 2) || changed)

-- ---- what is kept: agreement, and the lengths of the machine's lists

pub record Lengths (ram : List ℕ) (outs : List ℤ) (above : List ℕ) (stray : List Bool) : Type 0 where
  pub rams : length ram ≡ 128
  pub channels : length outs ≡ 8
  pub aboves : length above ≡ 8
  pub strays : length stray ≡ 8

pub record SoundBeside (w : WikiSound) (changed : Bool) (above : List ℕ) (stray : List Bool) (a : Audio) : Type 0 where
  pub agrees : SoundAgrees w changed above stray a
  pub long : Lengths w.ram w.outs above stray

zero-out : (signed : Bool) → whole 0 ≡ whole_z (cond signed (pos 0) (pos 0 +ℤ pos 0))
zero-out true = refl
zero-out false = refl

pub sound-fresh : (signed plain : Bool) → SoundBeside no_sound false (replicate 8 0) (replicate 8 false) (with_choice fresh signed plain)
sound-fresh signed plain =
    record {
      agrees =
          record {
            ram =
                record {
                  others = λ j f. refl;
                  phase = λ e k h.
                      rw (
                        get_or-replicate {A = ℕ} 128 (wiki_base k + 1) 0 0 (omega arith),
                        get_or-replicate {A = ℕ} 128 (wiki_base k + 3) 0 0 (omega arith),
                        get_or-replicate {A = ℕ} 128 (wiki_base k + 5) 0 0 (omega arith),
                        get_or-replicate {A = ℕ} 8 k 0 0 h,
                      );
                };
            port = (refl, refl);
            turn = (refl, (refl, refl));
            outs = λ k h f.
                rw (get_or-replicate {A = ℤ} 8 k (pos 0) (pos 0) h, get_or-replicate {A = ℕ} 8 k 0 0 h)
                (get_or-replicate 8 k _ nan h ∙ zero_bits ∙ zero-out signed);
          };
      long = record { rams = refl; channels = refl; aboves = refl; strays = refl };
    }

module _ (w : WikiSound) (changed : Bool) (above : List ℕ) (stray : List Bool) (a : Audio) (q : SoundBeside w changed above stray a) where
  abbrev g : SoundAgrees w changed above stray a
  g = q.agrees

  -- where a phase was changed less is claimed
  pub changed-kept : (t : Bool) → SoundBeside w (t || changed) above stray a
  changed-kept t =
      record {
        agrees =
            record {
              ram = record { others = g.ram.others; phase = λ e. g.ram.phase (or_right t changed e) };
              port = g.port;
              turn = g.turn;
              outs = g.outs;
            };
        long = q.long;
      }

  -- W15: the address port
  pub port-kept : (addr : ℕ) (auto : Bool) → SoundBeside (with_port w addr auto) changed above stray (with_addr a addr auto)
  port-kept addr auto =
      record { agrees = record { ram = g.ram; port = (refl, refl); turn = g.turn; outs = g.outs }; long = q.long }

  -- W15: an access moves the address
  pub moved-kept : a.addr < 128 → SoundBeside (wiki_moved w) changed above stray (advanced a)
  unfolding advanced
  moved-kept h = by a.auto_increment refl (advance-agrees a h ∙ rw (g.port.0, g.port.1))
    where
      by : (t : Bool) → a.auto_increment ≡ t → (advanced a).addr ≡ wiki_advance w.auto w.addr
          → SoundBeside (wiki_moved w) changed above stray (advanced a)
      by true e p =
          record {
            agrees =
                record { ram = rw e g.ram; port = (p, rw e (sym e ∙ g.port.1)); turn = rw e g.turn; outs = rw e g.outs };
            long = q.long;
          }
      by false e p =
          record {
            agrees =
                record { ram = rw e g.ram; port = (p, rw e (sym e ∙ g.port.1)); turn = rw e g.turn; outs = rw e g.outs };
            long = q.long;
          }

  -- W11: the sound turned on or off
  pub silent-kept : (t : Bool) → SoundBeside (with_silent w t) changed above stray (with_disabled a t)
  silent-kept t =
      record { agrees = record { ram = g.ram; port = g.port; turn = (refl, g.turn.1); outs = g.outs }; long = q.long }

  -- W18: a cycle without an update
  waits_kept : SoundBeside
      (record { ram = w.ram; addr = w.addr; auto = w.auto; silent = w.silent; timer = w.timer + 1; turn = w.turn; outs = w.outs })
      changed above stray (with_counter a (a.update_counter + 1))
  waits_kept =
      record {
        agrees =
            record {
              ram = g.ram;
              port = g.port;
              turn = (g.turn.0, (ap (λ (u : ℕ). u + 1) g.turn.1.0, g.turn.1.1));
              outs = g.outs;
            };
        long = q.long;
      }

  -- W15, W25: another RAM in both, which agrees but for the phases
  pub ram-kept : (wiki ram : List ℕ) → length wiki ≡ 128 → ((j : ℕ) → is_phase j ≡ false → get_or wiki j 0 ≡ get_or ram j 0)
      → SoundBeside (with_ram w wiki) (not (same_phases w.ram wiki) || changed) above stray (with_sound_ram a ram)
  unfolding same_phases
  ram-kept wiki ram l o =
      let test = not (same_phases w.ram wiki) in
      record {
        agrees =
            record {
              ram =
                  record {
                    others = o;
                    phase = λ e k h.
                        eqb-true (wiki_phase wiki (wiki_base k)) (wiki_phase w.ram (wiki_base k))
                        (every-at 8 (λ i. eqb (wiki_phase wiki (wiki_base i)) (wiki_phase w.ram (wiki_base i)))
                        (not-not (same_phases w.ram wiki) (or_left test changed e)) k h)
                        ∙ g.ram.phase (or_right test changed e) k h;
                  };
              port = g.port;
              turn = g.turn;
              outs = g.outs;
            };
        long = record { rams = l; channels = q.long.channels; aboves = q.long.aboves; strays = q.long.strays };
      }

  -- W15: a byte is stored in both
  pub store_kept : (v : ℕ) → a.addr < 128 → length a.ram ≡ 128
      → SoundBeside (with_ram w (set w.ram w.addr v)) (not (same_phases w.ram (set w.ram w.addr v)) || changed) above stray
      (with_sound_ram a (set a.ram a.addr v))
  store_kept v h l =
      ram-kept (set w.ram w.addr v) (set a.ram a.addr v) (length-set w.ram w.addr v ∙ q.long.rams)
      (λ j f. rw g.port.0 (by j f (ℕ_discrete j w.addr)))
    where
      by : (j : ℕ) → is_phase j ≡ false → Dec (j ≡ w.addr) → get_or (set w.ram w.addr v) j 0 ≡ get_or (set a.ram w.addr v) j 0
      by j f (yes e) =
          rw (
            e,
            get_or-set_same w.ram w.addr v 0 (omega (arith, h, q.long.rams, q.agrees.port.0)),
            get_or-set_same a.ram w.addr v 0 (omega (arith, h, l, q.agrees.port.0)),
          )
      by j f (no ne) =
          rw (get_or-set_other w.ram w.addr j v 0 ne, get_or-set_other a.ram w.addr j v 0 ne) (q.agrees.ram.others j f)

  -- ---- W20: an update

  -- the next phase of the channel whose turn it is
  phase-agrees : changed ≡ false → w.turn < 8
      → wiki_next w ≡ next_phase a.ram (base_addr w.turn) (get_or a.phase_ext w.turn 0)
  unfolding next_phase
  phase-agrees c h =
      let k = w.turn in
      rw (
        base_agrees k,
        frequency-agrees a.ram (wiki_base k),
        length-agrees a.ram (wiki_base k),
        ← g.ram.phase c k h,
        ← g.ram.others (wiki_base k + 0) (no-phase k 0 refl (omega arith)),
        ← g.ram.others (wiki_base k + 2) (no-phase k 2 refl (omega arith)),
        ← g.ram.others (wiki_base k + 4) (no-phase k 4 refl (omega arith)),
      )

  -- the wiki's output and what is noted above it are those of the board's RAM, where the sample lies in no phase byte
  output-same : (p : ℕ) → is_phase (wiki_place w.ram (wiki_at w) p / 2) ≡ false
      → cond a.signed_levels (wiki_output a.ram (wiki_at w) p) (wiki_output a.ram (wiki_at w) p
      +ℤ pos (cond (leb 8 (wiki_sample a.ram (wiki_place a.ram (wiki_at w) p))) 0 (256 * wiki_volume a.ram (wiki_at w))))
      ≡ cond a.signed_levels (wiki_output w.ram (wiki_at w) p) (wiki_output w.ram (wiki_at w) p
      +ℤ pos (cond (leb 8 (wiki_sample w.ram (wiki_place w.ram (wiki_at w) p))) 0 (256 * wiki_volume w.ram (wiki_at w))))
  output-same p f =
      let k = w.turn in
      let six = sym (g.ram.others (wiki_base k + 6) (no-phase k 6 refl (omega arith))) in
      let seven = sym (g.ram.others (wiki_base k + 7) (no-phase k 7 refl (omega arith))) in
      rw (six, seven, sym (g.ram.others (wiki_place w.ram (wiki_base k) p / 2) f))

  count_same : wiki_count w.ram ≡ channel_count a.ram
  count_same = rw (q.agrees.ram.others 0x7F refl)

  module _ (t : Typed a) (r : InRange a) where
    turn_small : w.turn < 8
    turn_small = omega (arith, r.channel, q.agrees.turn.1.1)

    -- the phase that the board keeps of the channel
    abbrev phase-of : ℕ
    phase-of = next_phase a.ram (base_addr w.turn) (get_or a.phase_ext w.turn 0)

    phases-kept : changed ≡ false → (k : ℕ) → k < 8
        → wiki_phase (wiki_stored w.ram (wiki_at w) (wiki_next w)) (wiki_base k) ≡ get_or (set a.phase_ext w.turn phase-of) k 0
    phases-kept c k h =
        let p = phase-agrees c turn_small in
        by (ℕ_discrete k w.turn) p
      where
        small : phase-of < 16777216
        small = next-phase-small a.ram (base_addr w.turn) (get_or a.phase_ext w.turn 0) (t.bytes _)

        by : Dec (k ≡ w.turn) → wiki_next w ≡ phase-of
            → wiki_phase (wiki_stored w.ram (wiki_at w) (wiki_next w)) (wiki_base k) ≡ get_or (set a.phase_ext w.turn phase-of) k 0
        by (yes e) p =
            rw (e, p)
            (stored-phase w.ram w.turn phase-of q.long.rams turn_small small
            ∙ sym (get_or-set_same a.phase_ext w.turn phase-of 0 (omega (arith, turn_small, t.phases_length))))
        by (no ne) p =
            rw (
              other-stays w.ram (wiki_at w) (wiki_next w) (wiki_base k + 1) (λ e. ne (omega arith)) (λ e. omega arith) (λ e. omega arith),
              other-stays w.ram (wiki_at w) (wiki_next w) (wiki_base k + 3) (λ e. omega arith) (λ e. ne (omega arith)) (λ e. omega arith),
              other-stays w.ram (wiki_at w) (wiki_next w) (wiki_base k + 5) (λ e. omega arith) (λ e. omega arith) (λ e. ne (omega arith)),
              get_or-set_other a.phase_ext w.turn k phase-of 0 ne,
            )
            (q.agrees.ram.phase c k h)

    outs-kept : (k : ℕ) → k < 8 → get_or (stray_next w changed stray) k false ≡ false
        → PutOut a.signed_levels (get_or (set w.outs w.turn (wiki_output w.ram (wiki_at w) (wiki_next w))) k (pos 0))
        (get_or (above_next w above) k 0)
        (get_or (set a.channel_out w.turn (output_at a.ram (base_addr w.turn) phase-of a.signed_levels)) k nan)
    outs-kept k h f = by (ℕ_discrete k w.turn) f
      where
        by : Dec (k ≡ w.turn) → get_or (stray_next w changed stray) k false ≡ false
            → PutOut a.signed_levels (get_or (set w.outs w.turn (wiki_output w.ram (wiki_at w) (wiki_next w))) k (pos 0))
            (get_or (above_next w above) k 0)
            (get_or (set a.channel_out w.turn (output_at a.ram (base_addr w.turn) phase-of a.signed_levels)) k nan)
        by (yes e) f =
            let s : is_phase (next_place w / 2) || changed ≡ false =
            sym (get_or-set_same stray w.turn (is_phase (next_place w / 2) || changed) false (omega (arith, turn_small, q.long.strays)))
            ∙ ap (λ (i : ℕ). get_or (stray_next w changed stray) i false) (sym e) ∙ f in
            let c = or_right (is_phase (next_place w / 2)) changed s in
            let p = phase-agrees c turn_small in
            rw (
              e,
              get_or-set_same w.outs w.turn (wiki_output w.ram (wiki_at w) (wiki_next w)) (pos 0)
                  (omega (arith, turn_small, q.long.channels)),
              get_or-set_same above w.turn (above_of w) 0 (omega (arith, turn_small, q.long.aboves)),
              ← p,
              base_agrees w.turn,
            )
            (get_or-set_same a.channel_out w.turn _ nan (omega (arith, turn_small, t.outputs_length))
            ∙ ap whole_z (output-agrees a.ram (wiki_at w) (wiki_next w) a.signed_levels (t.bytes _)
            ∙ output-same (wiki_next w) (or_left (is_phase (next_place w / 2)) changed s)))
        by (no ne) f =
            rw (
              get_or-set_other w.outs w.turn k (wiki_output w.ram (wiki_at w) (wiki_next w)) (pos 0) ne,
              get_or-set_other above w.turn k (above_of w) 0 ne,
              get_or-set_other a.channel_out w.turn k
                  (output_at a.ram (base_addr w.turn) phase-of a.signed_levels) nan ne,
            )
            (q.agrees.outs k h (sym (get_or-set_other stray w.turn k (is_phase (next_place w / 2) || changed) false ne) ∙ f))

    update-kept : SoundBeside (wiki_update w) changed (above_next w above) (stray_next w changed stray) (updated (with_counter a 0))
    unfolding wiki_update updated update_channel
    update-kept =
        rw g.turn.1.1
        (record {
          agrees =
              record {
                ram =
                    record {
                      others = λ j f.
                          other-stays w.ram (wiki_at w) (wiki_next w) j (apart j w.turn 1 f refl (omega arith))
                          (apart j w.turn 3 f refl (omega arith)) (apart j w.turn 5 f refl (omega arith))
                          ∙ g.ram.others j f;
                      phase = phases-kept;
                    };
                port = g.port;
                turn = (g.turn.0, (refl, rw count_same (turn-agrees w.turn (channel_count a.ram) (omega arith))));
                outs = outs-kept;
              };
          long =
              record {
                rams = stored-length w.ram (wiki_at w) (wiki_next w) ∙ q.long.rams;
                channels = length-set w.outs w.turn (wiki_output w.ram (wiki_at w) (wiki_next w)) ∙ q.long.channels;
                aboves = length-set above w.turn (above_of w) ∙ q.long.aboves;
                strays = length-set stray w.turn (is_phase (next_place w / 2) || changed) ∙ q.long.strays;
              };
        })

-- ---- W18: a cycle, with what is noted of it

clock-stays : (a : Audio) → a.disabled ≡ true → sound_clock a ≡ a
unfolding sound_clock
clock-stays a d = rw d

clock-updates : (a : Audio) → a.disabled ≡ false → eqb (a.update_counter + 1) 15 ≡ true → sound_clock a ≡ updated (with_counter a 0)
unfolding sound_clock
clock-updates a d e = rw (d, e)

clock-waits : (a : Audio) → a.disabled ≡ false → eqb (a.update_counter + 1) 15 ≡ false
    → sound_clock a ≡ with_counter a (a.update_counter + 1)
unfolding sound_clock
clock-waits a d e = rw (d, e)

cycle-waits : (w : WikiSound) → w.silent ≡ false → eqb (w.timer + 1) 15 ≡ false → sound_cycle w
    ≡ record { ram = w.ram; addr = w.addr; auto = w.auto; silent = w.silent; timer = w.timer + 1; turn = w.turn; outs = w.outs }
unfolding sound_cycle
cycle-waits w p e = rw (p, e)

cycle-updates : (w : WikiSound) → w.silent ≡ false → eqb (w.timer + 1) 15 ≡ true → sound_cycle w ≡ wiki_update w
unfolding sound_cycle
cycle-updates w p e = rw (p, e)

note-updates : (m : Wiki) (t : Notes) → m.sound.silent ≡ false → eqb (m.sound.timer + 1) 15 ≡ true
    → note m t cycle ≡ note_update m.sound t
unfolding note
note-updates m t p e = rw (p, e)

cycle-stays : (w : WikiSound) → w.silent ≡ true → sound_cycle w ≡ w
unfolding sound_cycle
cycle-stays w p = rw p

note-stays : (m : Wiki) (t : Notes) → m.sound.silent ≡ true → note m t cycle ≡ t
unfolding note
note-stays m t p = rw p

note-waits : (m : Wiki) (t : Notes) → m.sound.silent ≡ false → eqb (m.sound.timer + 1) 15 ≡ false → note m t cycle ≡ t
unfolding note
note-waits m t p e = rw (p, e)

pub cycle-kept : (m : Wiki) (t : Notes) (a : Audio) → Typed a → InRange a → SoundBeside m.sound t.phases t.above t.stray a
    → SoundBeside (sound_cycle m.sound) (note m t cycle).phases (note m t cycle).above (note m t cycle).stray (sound_clock a)
cycle-kept m t a y r q = by m.sound.silent (eqb (m.sound.timer + 1) 15) refl refl
  where
    by : (x z : Bool) → m.sound.silent ≡ x → eqb (m.sound.timer + 1) 15 ≡ z
        → SoundBeside (sound_cycle m.sound) (note m t cycle).phases (note m t cycle).above (note m t cycle).stray (sound_clock a)
    by true z p e = rw (cycle-stays m.sound p, note-stays m t p, clock-stays a (q.agrees.turn.0 ∙ p)) q
    by false true p e =
        rw (cycle-updates m.sound p e, note-updates m t p e, clock-updates a (q.agrees.turn.0 ∙ p) (rw q.agrees.turn.1.0 e))
        (update-kept m.sound t.phases t.above t.stray a q y r)
    by false false p e =
        rw (cycle-waits m.sound p e, note-waits m t p e, clock-waits a (q.agrees.turn.0 ∙ p) (rw q.agrees.turn.1.0 e))
        (waits_kept m.sound t.phases t.above t.stray a q)
