-- H4, H6: what each call of the host answers and leaves on a state, once its image is read: `..Gives` where it is accepted, `..On` refused
-- or not.
use Rattle.std.specs.Prelude.{ℕ, ◌+◌, ◌*◌, ◌/◌, ◌^◌, List, [], ◌∷◌, ◌++◌, length, drop}
use Rattle.bits.specs.Fields.{each}
use Rattle.board_state.specs.declared.State.{State}
use Rattle.call_refusals.specs.Refusals.{Check, unless_refused, reset_checks, cpu_checks, state_check}
use Rattle.call_cpu.specs.Calls.{cpu_read, cpu_write, cpu_write_arena}
use Rattle.call_reset.specs.Reset.{reset_state}
use Rattle.image_write.specs.Options.{image_at}
use Rattle.cut.specs.Contract.{last_or}
use Rattle.call_run.specs.Run.{clocks, length_check, room_check}
use Rattle.host_samples.specs.Samples.{sample_bytes}

-- H4, H6: the 64 bits that a call returns, the image afterwards, and the other bytes that it was lent: the arena or the sample bytes.
pub record Gives : Type 0 where
  pub word : ℕ
  pub image : List ℕ
  pub lent : List ℕ

-- H6, N0: a refused call's word is its number alone, and what was lent stays
abbrev pub unaltered : List ℕ → List ℕ → ℕ → Gives
unaltered img lent q = record { word = q; image = img; lent = lent }

-- ---- reset: C7, H6; here and below the image is written back at its own length n (H10)

abbrev pub reset_gives : ℕ → State → ℕ → Gives
reset_gives n s kind = record { word = 0; image = image_at n (reset_state s kind).state; lent = [] }

abbrev pub reset_on : State → List ℕ → ℕ → Gives
reset_on s img kind = unless_refused (reset_checks s kind) (unaltered img []) (reset_gives (length img) s kind)

-- ---- CPU read and write: L7, L8, H6

-- H6: the byte in bits 8..15
abbrev pub read_gives : ℕ → State → List ℕ → ℕ → Gives
read_gives n s arena addr = let r = cpu_read s arena addr in record { word = r.byte * 2 ^ 8; image = image_at n r.state; lent = arena }

abbrev pub read_on : State → List ℕ → List ℕ → ℕ → Gives
read_on s img arena addr = unless_refused (cpu_checks s (length arena) addr) (unaltered img arena) (read_gives (length img) s arena addr)

-- H6: the CHR mask in bits 8..23, and the PRG mask where its own bits stand, which begin at 24 (L15)
abbrev pub write_gives : ℕ → State → List ℕ → ℕ → ℕ → Gives
write_gives n s arena addr v =
    let w = cpu_write s arena addr v in
    record {
      word = w.changed.chr.mask * 2 ^ 8 + w.changed.prg.mask;
      image = image_at n w.state;
      lent = cpu_write_arena s arena addr v;
    }

abbrev pub write_on : State → List ℕ → List ℕ → ℕ → ℕ → Gives
write_on s img arena addr v = unless_refused (cpu_checks s (length arena) addr) (unaltered img arena) (write_gives (length img) s arena addr v)

-- ---- run: C4, H6, H7

-- N10 and N11: each whole group of four sample bytes is a place
abbrev pub run_own : State → List ℕ → ℕ → List Check
run_own s samples n = length_check n ∷ room_check s n (length samples / 4) ∷ []

-- C4, H6, H7: n single clocks; the count of samples in bits 8..31, the rise in bits 32..63; the sample bytes behind those of the samples
-- made stay
abbrev pub run_gives : ℕ → State → List ℕ → ℕ → Gives
run_gives size s samples n =
    let t = clocks n s in
    let w = t.stretch.samples in
    record {
      word = length w * 2 ^ 8 + last_or 0 t.stretch.rises * 2 ^ 32;
      image = image_at size t.state;
      lent = each sample_bytes w ++ drop (4 * length w) samples;
    }

abbrev pub run_on : State → List ℕ → List ℕ → ℕ → Gives
run_on s img samples n = unless_refused (state_check s ∷ run_own s samples n) (unaltered img samples) (run_gives (length img) s samples n)

-- how long a short run is at most, and as many samples as it can make; `made-few` says that they hold it
abbrev pub short_run : ℕ
short_run = 1920

abbrev pub short_samples : ℕ
short_samples = 128
