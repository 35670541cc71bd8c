-- L19, S17: every call keeps the options, accepted or refused, and so after every list of calls they are the load's.
use Prim.Native.Nat.{ℕ, zero, suc}
use mathlib.Core.Path.{◌≡◌, refl, ap, ◌∙◌}
use mathlib.Core.List.{List, [], ◌∷◌}
use lib.Ieee.{Float}
use lib.ListN.{length}
use Rattle.cut.specs.Calls.{Call, start}
use Rattle.cut.specs.Contract.{run_by}
use Rattle.cut.specs.Machine.{plainly, ticks}
use Rattle.cut.specs.Demand3.{observed}
use Rattle.cut.specs.Always.{AllTyped, Kept}
use Rattle.cut.proofs.Always.{always}
use Rattle.cut.proofs.Machine.{state-more}
use Rattle.board_chip.specs.Reset.{reset_chip}
use Rattle.board_state.specs.declared.Options.{Options}
use Rattle.board_state.specs.declared.State.{State}
use Rattle.board_state.specs.State.{options_in}
use Rattle.call_cpu.specs.Calls.{write_register}
use Rattle.call_load.specs.Cartridge.{fresh_state}
use Rattle.call_refusals.specs.Refusals.{first_of}
use Rattle.call_run.specs.Clock.{state_clock}
use Rattle.call_run.specs.Run.{clocks, run_checks, run_gave}
use Rattle.thm_steps.proofs.Choice.{SameChoice, read-choice, write-choice, chip-clock-choice}
use Rattle.thm_machine.specs.Calls.{Held, Other, cpu_read, cpu_peek, cpu_write, chr_read, chr_write, fill, region_peek, region_write, sram, reset}
use Rattle.thm_machine.specs.Calls.{sync_battery, restore_battery, write_image}
use Rattle.thm_machine.specs.Paper.{checks, answers}
use Rattle.thm_machine.specs.Board.{other_gives, run_gives, board}
use Rattle.thm_machine.specs.Start.{Loaded, loaded}
use Rattle.thm_machine.proofs.Keeps.{keeps-other}
use Rattle.thm_machine.proofs.Start.{load-starts}

-- the options of two states are the same where the edition is and the sound's choices are
pub options-same : (s t : State) → t.f800_protects ≡ s.f800_protects → SameChoice s.chip.audio t.chip.audio
    → options_in t ≡ options_in s
options-same s t e c i = record { f800_protects = e i; signed_levels = c.signed i; plain_sum = c.plain i }

answers-keep : (a : Other) (h : Held) → options_in (answers a h).state.state ≡ options_in h.state
unfolding answers write_register reset_chip
answers-keep (cpu_read addr) h =
    options-same h.state (answers (cpu_read addr) h).state.state refl (read-choice h.state.chip addr)
answers-keep (cpu_peek addr) h = refl
answers-keep (cpu_write addr v) h =
    options-same h.state (answers (cpu_write addr v) h).state.state refl (write-choice h.state.chip addr v)
answers-keep (chr_read addr) h = refl
answers-keep (chr_write addr v) h = refl
answers-keep (fill src bytes) h = refl
answers-keep (region_peek src offset) h = refl
answers-keep (region_write src offset v) h = refl
answers-keep sram h = refl
answers-keep (reset kind) h = refl
answers-keep sync_battery h = refl
answers-keep restore_battery h = refl
answers-keep (write_image buffer) h = refl

pub other-keeps-options : (a : Other) (h : Held) → options_in (other_gives a h).state.state ≡ options_in h.state
other-keeps-options a h = rw (keeps-other a h) (go (first_of (checks a h)))
  where
    go : (q : ℕ) → options_in (plainly q (answers a h) h).state.state ≡ options_in h.state
    go zero = answers-keep a h
    go (suc q) = refl

clock-keeps : (s : State) → options_in (state_clock s).state ≡ options_in s
unfolding state_clock
clock-keeps s = options-same s (state_clock s).state refl (chip-clock-choice s.chip)

pub clocks-keep-options : (n : ℕ) (s : State) → options_in (clocks n s).state ≡ options_in s
unfolding ticks
clocks-keep-options zero s = refl
clocks-keep-options (suc n) s = rw (state-more state_clock n s) (clock-keeps (clocks n s).state ∙ clocks-keep-options n s)

pub run-keeps-options : (n : ℕ) (lent : List Float) (h : Held) → options_in (run_gives n lent h).state.state ≡ options_in h.state
unfolding run_gives run_gave
run-keeps-options n lent h = go (first_of (run_checks h.state n (length lent)))
  where
    go : (q : ℕ) → options_in (run_by q (clocks n h.state) lent h.state).state ≡ options_in h.state
    go zero = clocks-keep-options n h.state
    go (suc q) = refl

-- from every load, with no hypothesis on the calls
abbrev pub Chosen : Options → Held → Type 0
Chosen o h = options_in h.state ≡ o

abbrev pub Any : Call Float Other → Type 0
Any c = Unit {0}

all_any : (calls : List (Call Float Other)) → AllTyped Any calls
all_any [] = tt
all_any (c ∷ calls) = (tt, all_any calls)

pub kept : (o : Options) → Kept board Any (Chosen o)
kept o =
    record {
      run = λ n lent h typed e. run-keeps-options n lent h ∙ e;
      other = λ a h typed e. other-keeps-options a h ∙ e;
    }

pub load-options : (l : Loaded) → options_in (loaded l).state ≡ l.options
unfolding fresh_state
load-options l = ap (λ (h : Held). options_in h.state) (load-starts l)

pub always-options : (l : Loaded) (calls : List (Call Float Other))
    → options_in (observed board calls (loaded l)).state.state ≡ l.options
always-options l calls =
    always board Any (Chosen l.options) (kept l.options) calls (start (loaded l)) (all_any calls) (load-options l)
