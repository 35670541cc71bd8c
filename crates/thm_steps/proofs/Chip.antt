-- Each step of the chip keeps what is known of it: what the types say, and that it is in range. A written value is a byte.
use Prim.Native.Nat.{ℕ, ◌+◌, ◌*◌, ◌/◌, ◌%◌, ◌^◌, ◌≤◌, ◌<◌}
use mathlib.Core.Path.{◌≡◌, refl, ◌∙◌}
use mathlib.Core.Bool.{Bool, true, false, cond}
use mathlib.Core.List.{List}
use native.Mathlib.Omega.{arith}
use lib.Dec.{ltb}
use lib.ListN.{length, length-set, set}
use Rattle.limits.specs.Limits.{bank_most}
use Rattle.limits.proofs.Each.{cond-holds, each_set, below_set, each-replicate}
use Rattle.memory.specs.Range.{Bytes}
use Rattle.memory.specs.declared.mirroring.Mirroring.{Mirroring}
use Rattle.sound.specs.declared.audio.Audio.{Audio}
use Rattle.sound.specs.Audio.{with_choice}
use Rattle.sound.specs.Range.{InRange as AudioInRange, Typed as AudioTyped}
use Rattle.sound.specs.Registers.{read_of, written}
use Rattle.sound.proofs.registers.Range.{written-range, written-typed, advanced-range, advanced-typed}
use Rattle.sound.proofs.audio.Range.{fresh-range, fresh-typed}
use Rattle.board_chip.specs.declared.namco163.Board.{Board}
use Rattle.board_chip.specs.declared.namco163.Namco163.{Namco163}
use Rattle.board_chip.specs.declared.namco163.Regs.{Regs}
use Rattle.board_chip.specs.declared.reset.ResetKind.{ResetKind}
use Rattle.board_chip.specs.declared.reset.ResetKind.TheVariants.{Soft, Hard}
use Rattle.board_chip.specs.Namco163.{with_board, with_mirroring, with_regs, with_audio, with_written, with_slots}
use Rattle.board_chip.specs.Namco163.{with_protect}
use Rattle.board_chip.specs.Detection.{may_change, maybe_set_board}
use Rattle.board_chip.specs.Load.{chip_at_load}
use Rattle.board_chip.specs.Reads.{after_read}
use Rattle.board_chip.specs.Reset.{reset_regs, set_nametables, reset_chip}
use Rattle.board_chr.specs.Slots.{sets_ciram, write_slot}
use Rattle.board_prg.specs.Banks.{write_bank}
use Rattle.board_registers.specs.Writes.{write_chip}
use Rattle.board_registers.proofs.Steps.{Steps, write-by}
use Rattle.board_state.specs.State.{MapperIn, BanksIn, ChipInRange, ChipTyped}

-- m is a step after n
pub record Keeps (n m : Namco163) : Type 0 where
  pub typed : ChipTyped n → ChipTyped m
  pub range : ChipTyped n → ChipInRange n → ChipInRange m

-- ---- steps in a row, and a choice of two

pub keeps_self : (n : Namco163) → Keeps n n
keeps_self n = record { typed = λ t. t; range = λ t r. r }

pub keeps-both : {n m k : Namco163} → Keeps n m → Keeps m k → Keeps n k
keeps-both p q = record { typed = λ t. q.typed (p.typed t); range = λ t r. q.range (p.typed t) (p.range t r) }

keeps-cond : (t : Bool) (n a b : Namco163) → Keeps n a → Keeps n b → Keeps n (cond t a b)
keeps-cond t n = cond-holds (Keeps n) t

-- ---- the fields

-- the parts of what the types say, each as it was
abbrev RegsTyped : Regs → Type 0
RegsTyped r = (r.irq_counter < 2 ^ 16) × (r.prg_ram_protect < 2 ^ 8)

abbrev SlotsTyped : List Bool → List ℕ → Type 0
SlotsTyped flags chr = (length flags ≡ 12) × ((length chr ≡ 12) × Bytes chr)

regs-stay : {n : Namco163} → ChipTyped n → RegsTyped n.regs
regs-stay t = (t.counter, t.protect)

slots-stay : {n : Namco163} → ChipTyped n → SlotsTyped n.nt_bank_enable n.chr_banks
slots-stay t = (t.flags, (t.chr, t.chr_bytes))

-- a step by its parts
module _ (n m : Namco163) (mapper : m.mapper_num ≡ n.mapper_num) (sub : m.submapper_num ≡ n.submapper_num)
    (regs : ChipTyped n → RegsTyped m.regs)
    (slots : ChipTyped n → SlotsTyped m.nt_bank_enable m.chr_banks)
    (three : length m.prg_banks ≡ length n.prg_banks) (banks : BanksIn n.prg_banks → BanksIn m.prg_banks)
    (typed : AudioTyped n.audio → AudioTyped m.audio)
    (sound : AudioTyped n.audio → AudioInRange n.audio → AudioInRange m.audio) where
  step : Keeps n m
  step =
      record {
        typed = λ t.
            record {
              counter = (regs t).0;
              protect = (regs t).1;
              mapper = rw mapper t.mapper;
              submapper = rw sub t.submapper;
              flags = (slots t).0;
              chr = (slots t).1.0;
              chr_bytes = (slots t).1.1;
              prg = three ∙ t.prg;
              audio = typed t.audio;
            };
        range = λ t r. record { mapper = rw mapper r.mapper; banks = banks r.banks; audio = sound t.audio r.audio };
      }

-- what is neither of a range nor of a type that says anything: the board, the mirroring, flags
keeps-board : (n : Namco163) (b : Board) → Keeps n (with_board n b)
keeps-board n b = step n (with_board n b) refl refl regs-stay slots-stay refl (λ h. h) (λ t. t) (λ t r. r)

keeps-mirroring : (n : Namco163) (k : Mirroring) → Keeps n (with_mirroring n k)
keeps-mirroring n k = step n (with_mirroring n k) refl refl regs-stay slots-stay refl (λ h. h) (λ t. t) (λ t r. r)

keeps-flag : (n : Namco163) (w : Bool) → Keeps n (with_written n w)
keeps-flag n w = step n (with_written n w) refl refl regs-stay slots-stay refl (λ h. h) (λ t. t) (λ t r. r)

pub keeps-regs : (n : Namco163) (r : Regs) → (ChipTyped n → RegsTyped r) → Keeps n (with_regs n r)
keeps-regs n r h = step n (with_regs n r) refl refl h slots-stay refl (λ h. h) (λ t. t) (λ t r. r)

keeps-slots : (n : Namco163) (flags : List Bool) (chr : List ℕ) → (ChipTyped n → SlotsTyped flags chr) → Keeps n (with_slots n flags chr)
keeps-slots n flags chr h = step n (with_slots n flags chr) refl refl regs-stay h refl (λ h. h) (λ t. t) (λ t r. r)

bank-keeps : (n : Namco163) (k v : ℕ) → Keeps n (write_bank n k v)
bank-keeps n k v =
    let banks = n.prg_banks in
    step n (write_bank n k v) refl refl regs-stay slots-stay (length-set banks k (v % 64))
    (λ h i. each_set (λ (x : ℕ). x ≤ bank_most) 0 banks k (v % 64) (omega arith) i (h i)) (λ t. t) (λ t r. r)

pub keeps-audio : (n : Namco163) (a : Audio) → (AudioTyped n.audio → AudioTyped a)
    → (AudioTyped n.audio → AudioInRange n.audio → AudioInRange a) → Keeps n (with_audio n a)
keeps-audio n a y z = step n (with_audio n a) refl refl regs-stay slots-stay refl (λ h. h) y z

keeps-written : (n : Namco163) (addr v : ℕ) → v < 256 → Keeps n (with_audio n (written n.audio addr v))
keeps-written n addr v h = keeps-audio n _ (written-typed n.audio addr v h) (λ t. written-range n.audio addr v)

-- the protect byte, and a half of the counter
keeps-protect : (n : Namco163) (v : ℕ) → v < 256 → Keeps n (with_regs n (with_protect n.regs v))
keeps-protect n v h = keeps-regs n _ (λ t. (t.counter, h))

-- ---- detection

maybe-keeps : (n : Namco163) (b : Board) → Keeps n (maybe_set_board n b)
unfolding maybe_set_board
maybe-keeps n b =
    keeps-cond (may_change n) n (with_board n b) n (keeps-board n b) (keeps_self n)

-- ---- writes

slot-byte : (b : Bool) (v : ℕ) → v < 256 → cond b (v % 2) v < 256
slot-byte true v h = omega arith
slot-byte false v h = h

slot-keeps : (n : Namco163) (a v : ℕ) → v < 256 → Keeps n (write_slot n a v)
unfolding write_slot
slot-keeps n a v h =
    keeps-slots n _ _ (λ t. (
      length-set n.nt_bank_enable _ _ ∙ t.flags,
      (
        length-set n.chr_banks _ _ ∙ t.chr,
        below_set n.chr_banks _ _ 256 t.chr_bytes (slot-byte (sets_ciram n a v) v h),
      ),
    ))

half-low : (c v : ℕ) → c < 2 ^ 16 → v < 256 → c / 256 * 256 + v < 2 ^ 16
half-low c v p q = omega arith

half_high : (c v : ℕ) → v < 256 → c % 256 + v * 256 < 2 ^ 16
half_high c v q = omega arith

write-steps : (n : Namco163) (a v : ℕ) → v < 256 → Steps (Keeps n) a v
write-steps n a v h =
    record {
      detect = λ m b k. keeps-both k (maybe-keeps m b);
      sound = λ m k. keeps-both k (keeps-written m a v h);
      low = λ lo hi m k.
          keeps-both k (keeps-regs m _ (λ t. (half-low m.regs.irq_counter v t.counter h, t.protect)));
      high = λ lo hi m k. keeps-both k (keeps-regs m _ (λ t. (half_high m.regs.irq_counter v h, t.protect)));
      flag = λ m k. keeps-both k (keeps-flag m true);
      slot = λ m k. keeps-both k (slot-keeps m a v h);
      protect = λ m k. keeps-both k (keeps-protect m v h);
      bank = λ m i k. keeps-both k (bank-keeps m i v);
      selects = λ m k. keeps-both k (keeps-regs m _ (λ t. (t.counter, t.protect)));
      mirroring = λ m k. keeps-both k (keeps-mirroring m _);
    }

-- the write whole, at every address
pub write_keeps : (n : Namco163) (a v : ℕ) → v < 256 → Keeps n (write_chip n a v)
write_keeps n a v h = write-by (Keeps n) a v (write-steps n a v h) n (keeps_self n)

-- ---- reads and reset

pub after-read-keeps : (n : Namco163) (a : ℕ) → Keeps n (after_read n a)
unfolding after_read read_of
after-read-keeps n a =
    keeps-cond (ltb a 0x4800) n _ _ (keeps_self n)
    (keeps-cond (ltb a 0x5000) n _ _ (keeps-audio n _ (advanced-typed n.audio) (λ t. advanced-range n.audio)) (keeps_self n))

reset-regs : (k : ResetKind) (n : Namco163) → ChipTyped n → RegsTyped (reset_regs k n.regs)
reset-regs Soft n t = (t.counter, t.protect)
reset-regs Hard n t = (omega arith, omega arith)

-- four stores of one value
nametables-long : {A : Type 0} (v : A) (l : List A) → length (set_nametables v l) ≡ length l
nametables-long v l = simp length-set

nametables-bytes : (l : List ℕ) → Bytes l → Bytes (set_nametables 0 l)
nametables-bytes l b =
    let l8 = set l 8 0 in let l9 = set l8 9 0 in let l10 = set l9 10 0 in
    let byte : 0 < 256 = omega arith in
    below_set l10 11 0 256 (below_set l9 10 0 256 (below_set l8 9 0 256 (below_set l 8 0 256 b byte) byte) byte) byte

pub reset-keeps : (n : Namco163) (k : ResetKind) → Keeps n (reset_chip n k)
unfolding reset_chip
reset-keeps n k =
    step n (reset_chip n k) refl refl (reset-regs k n)
    (λ t. (
      nametables-long true n.nt_bank_enable ∙ t.flags,
      (nametables-long 0 n.chr_banks ∙ t.chr, nametables-bytes n.chr_banks t.chr_bytes),
    ))
    refl (λ h. h) (λ t. fresh-typed _ _) (λ t r. fresh-range _ _)

-- ---- load

-- the registers at load, with the choices of a load's sound
abbrev at_load : ℕ → ℕ → ℕ → Bool → Bool → Bool → Namco163
at_load mapper sub flags known signed plain =
    let n = chip_at_load mapper sub flags known in with_audio n (with_choice n.audio signed plain)

pub load_typed : (mapper sub flags : ℕ) (known signed plain : Bool) → mapper < 2 ^ 16 → sub < 2 ^ 8
    → ChipTyped (at_load mapper sub flags known signed plain)
unfolding chip_at_load
load_typed mapper sub flags known signed plain m s =
    record {
      counter = omega arith;
      protect = omega arith;
      mapper = m;
      submapper = s;
      flags = refl;
      chr = refl;
      chr_bytes = each-replicate (λ (x : ℕ). x < 256) 12 0 0 (omega arith) (omega arith);
      prg = refl;
      audio = fresh-typed signed plain;
    }

pub load-in-range : (mapper sub flags : ℕ) (known signed plain : Bool) → MapperIn mapper
    → ChipInRange (at_load mapper sub flags known signed plain)
unfolding chip_at_load
load-in-range mapper sub flags known signed plain m =
    record {
      mapper = m;
      banks = each-replicate (λ (x : ℕ). x ≤ bank_most) 3 0 0 (omega arith) (omega arith);
      audio = fresh-range signed plain;
    }
