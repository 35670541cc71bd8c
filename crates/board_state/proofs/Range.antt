-- The test of a state and the facts that it gives are the same, for a state of its types; every state that is owned is of its types.
use Prim.Native.Nat.{ℕ, ◌≤◌, ◌<◌}
use mathlib.Core.Path.{◌≡◌, refl}
use mathlib.Core.Bool.{Bool, true, false, ◌||◌}
use mathlib.Core.List.{List}
use mathlib.Core.Logic.{inl, inr}
use native.Mathlib.Omega.{arith}
use borrow.Author.Rules.{elem_Fits}
use borrow.Author.Tests.{leb-true, le-leb, eqb-true, ltb-true, ltb-false}
use lib.Dec.{eqb, ltb}
use lib.ListN.{length, get_or, get_or-eq_default}
use mir.Syntax.{w8}
use mir.Val.{Val}
use denote.Laws.{Is}
use Rattle.limits.specs.Limits.{update_most, channel_most, address_most, bank_most}
use Rattle.limits.specs.Every.{every}
use Rattle.limits.proofs.Every.{and_left, and_right, both, at_most, every-at, every-all}
use Rattle.memory.specs.Range.{MemoryInRange}
use Rattle.memory.proofs.Laws.Range.{memory-in, in_memory}
use Rattle.memory.proofs.Laws.Typed.{memory-typed}
use Rattle.sound.specs.Range.{audio_ok, Known as AudioKnown}
use Rattle.sound.proofs.range.Laws.{audio-in, in-audio}
use Rattle.sound.proofs.audio.Typed.{typed as audio-typed}
use Rattle.board_chip.specs.declared.namco163.Namco163.{Namco163}
use Rattle.board_state.specs.declared.State.{State}
use Rattle.board_state.specs.None.{no_state}
use Rattle.board_state.specs.State.{mapper_ok, MapperIn, bank_test, BanksIn, chip_ok, ChipInRange, ChipTyped, in_range, InRange, Typed}
use Rattle.board_state.specs.State.{Known}
use Rattle.board_state.specs.contracts.State as Row

-- ---- the mapper and the banks

pub mapper-in : (k : ℕ) → mapper_ok k ≡ true → MapperIn k
mapper-in k e = go (eqb k 19) refl e
  where
    go : (t : Bool) → eqb k 19 ≡ t → t || eqb k 210 ≡ true → MapperIn k
    go true q e = inl (eqb-true k 19 q)
    go false q e = inr (eqb-true k 210 e)

in-mapper : (k : ℕ) → MapperIn k → mapper_ok k ≡ true
in-mapper k (inl e) = rw e
in-mapper k (inr e) = rw e

banks-in : (banks : List ℕ) → length banks ≡ 3 → every 3 (bank_test banks) ≡ true → BanksIn banks
banks-in banks l e i = go (ltb i 3) refl
  where
    go : (t : Bool) → ltb i 3 ≡ t → get_or banks i 0 ≤ bank_most
    go true q = leb-true (get_or banks i 0) bank_most (every-at 3 (bank_test banks) e i (ltb-true i 3 q))
    go false q = rw (get_or-eq_default banks 0 {n = i} (omega (arith, ltb-false i 3 q))) (omega arith)

in-banks : (banks : List ℕ) → BanksIn banks → every 3 (bank_test banks) ≡ true
in-banks banks h = every-all 3 (bank_test banks) (λ i k. le-leb (get_or banks i 0) bank_most (h i))

-- ---- the registers, both ways

chip-in : (n : Namco163) → ChipTyped n → chip_ok n ≡ true → ChipInRange n
unfolding chip_ok
chip-in n t e =
    let r = and_right (mapper_ok n.mapper_num) _ e in
    record {
      mapper = mapper-in n.mapper_num (and_left (mapper_ok n.mapper_num) _ e);
      banks = banks-in n.prg_banks t.prg (and_left (every 3 (bank_test n.prg_banks)) _ r);
      audio = audio-in n.audio t.audio (and_right (every 3 (bank_test n.prg_banks)) _ r);
    }

in-chip : (n : Namco163) → ChipInRange n → chip_ok n ≡ true
unfolding chip_ok
in-chip n h =
    both (mapper_ok n.mapper_num) _ (in-mapper n.mapper_num h.mapper)
    (both (every 3 (bank_test n.prg_banks)) _ (in-banks n.prg_banks h.banks) (in-audio n.audio h.audio))

-- ---- the state, both ways

pub state-in : (s : State) → Typed s → in_range s ≡ true → InRange s
unfolding in_range
state-in s t e =
    record {
      chip = chip-in s.chip t.chip (and_left (chip_ok s.chip) _ e);
      memory = memory-in s.memory (and_right (chip_ok s.chip) _ e);
    }

pub in-state : (s : State) → InRange s → in_range s ≡ true
unfolding in_range
in-state s h = both (chip_ok s.chip) _ (in-chip s.chip h.chip) (in_memory s.memory h.memory)

-- ---- what is owned is of its types, and once it has passed the test it is known

pub owned-typed : (s : State) (vs : List Val) → Is Row.the_row s vs → Typed s
owned-typed s vs is =
    let fields = is.1.1 in
    let n = fields.0.1.1 in
    let regs = n.0.1.1 in
    let flags = n.1.1.1.1.1.1.1.1.0 in
    let chr = n.1.1.1.1.1.1.1.1.1.0 in
    let prg = n.1.1.1.1.1.1.1.1.1.1.0 in
    record {
      chip =
          record {
            counter = regs.0.1;
            protect = regs.1.1.1.1.0.1;
            mapper = n.1.1.0.1;
            submapper = n.1.1.1.0.1;
            flags = flags.1.0.1;
            chr = chr.1.0.1;
            chr_bytes = λ i. (elem_Fits w8 w8 s.chip.chr_banks chr.0 i chr.1.1 tt).fits;
            prg = prg.1.0.1;
            audio = audio-typed s.chip.audio _ n.1.1.1.1.0;
          };
      memory = memory-typed s.memory _ fields.1.0;
    }

pub known : (s : State) (vs : List Val) → Is Row.the_row s vs → in_range s ≡ true → Known s
known s vs is e = let t = owned-typed s vs is in record { typed = t; range = state-in s t e }

pub known-passes : (s : State) → Known s → in_range s ≡ true
known-passes s k = in-state s k.range

pub known-audio : (s : State) → Known s → AudioKnown s.chip.audio
known-audio s k = record { typed = k.typed.chip.audio; range = k.range.chip.audio }

-- ---- what the test alone says, for a caller that has made it

pub sound-ok : (s : State) → in_range s ≡ true → audio_ok s.chip.audio ≡ true
unfolding in_range chip_ok
sound-ok s e =
    let n = s.chip in
    and_right (every 3 (bank_test n.prg_banks)) _ (and_right (mapper_ok n.mapper_num) _ (and_left (chip_ok n) _ e))

pub memory-good : (s : State) → in_range s ≡ true → MemoryInRange s.memory
unfolding in_range
memory-good s e = memory-in s.memory (and_right (chip_ok s.chip) _ e)

pub counter-small : (s : State) → in_range s ≡ true → s.chip.audio.update_counter ≤ update_most
unfolding audio_ok
counter-small s e = (at_most _ _ _ (sound-ok s e)).0

-- the sound port's address lies in the sound RAM
pub port-good : (s : State) → in_range s ≡ true → s.chip.audio.addr < 128
unfolding audio_ok
port-good s e =
    let a = s.chip.audio in
    let h1 = at_most a.update_counter update_most _ (sound-ok s e) in
    let h2 = at_most a.current_channel channel_most _ h1.1 in
    omega (arith, (at_most a.addr address_most _ h2.1).0)

-- N21: N2 refuses the state of a refused load
pub no-state-out : in_range no_state ≡ false
unfolding in_range chip_ok no_state
no-state-out = refl
