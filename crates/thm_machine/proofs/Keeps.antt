-- C16, C17: the board keeps to `paper`: its run is n single clocks, and its other calls answer and alter what `paper` says.
use Prim.Native.Nat.{ℕ, zero, suc}
use mathlib.Core.Path.{◌≡◌, refl, ap}
use mathlib.Core.Bool.{false}
use native.Mathlib.Omega.{arith}
use borrow.Author.Tests.{ne_eqb}
use lib.Dec.{eqb}
use mathlib.Core.List.{List}
use lib.Ieee.{Float}
use lib.ListN.{length}
use Rattle.cut.specs.Calls.{RunGave, Point, start}
use Rattle.cut.specs.Machine.{tick, ticks, other_of}
use Rattle.cut.specs.Contract.{run_by, run_of, Keeps}
use Rattle.board_state.specs.declared.State.{State}
use Rattle.call_refusals.specs.Refusals.{first_of}
use Rattle.call_cpu.specs.Calls.{cpu_read as cpu_read_gives, cpu_peek as cpu_peek_gives, cpu_write as cpu_write_gives, cpu_write_arena}
use Rattle.call_regions.specs.Regions.{chr_read as chr_read_gives, chr_write_arena, fill_arena, region_read, region_write_arena, sram_answer}
use Rattle.call_reset.specs.Reset.{reset_state}
use Rattle.call_battery.specs.Battery.{sync_arena, restore_state}
use Rattle.image_write.specs.Writing.{write_refusal, written_image}
use Rattle.call_run.specs.Clock.{state_clock}
use Rattle.call_run.specs.Run.{run_checks, run_gave}
use Rattle.thm_machine.specs.Calls.{Held, Other, cpu_read, cpu_peek, cpu_write, chr_read, chr_write, fill, region_peek, region_write, sram}
use Rattle.thm_machine.specs.Calls.{reset, sync_battery, restore_battery, write_image}
use Rattle.thm_machine.specs.Paper.{clock, checks, answers, paper}
use Rattle.thm_machine.specs.Board.{other_gives, run_gives, board}

-- ---- clocks leave the arena

held : List ℕ → Point State Float → Point Held Float
held arena p = record { state = record { state = p.state; arena = arena }; count = p.count; stretch = p.stretch }

ticks-held : (n : ℕ) (h : Held) → ticks clock n (start h) ≡ held h.arena (ticks state_clock n (start h.state))
unfolding ticks tick clock held
ticks-held zero h = refl
ticks-held (suc n) h = ap (tick clock) (ticks-held n h)

keeps-run : (n : ℕ) (lent : List Float) (h : Held) → run_gives n lent h ≡ run_of paper n lent h
unfolding run_gives run_gave held
keeps-run n lent h = rw (ticks-held n h) (go (first_of (run_checks h.state n (length lent))))
  where
    go : (q : ℕ)
        → let g = run_by q (ticks state_clock n (start h.state)) lent h.state in
        ◌≡◌ {A = RunGave Held Float}
        (record {
          refusal = g.refusal;
          made = g.made;
          rise = g.rise;
          samples = g.samples;
          state = record { state = g.state; arena = h.arena };
        })
        (run_by q (held h.arena (ticks state_clock n (start h.state))) lent h)
    go zero = refl
    go (suc q) = refl

-- ---- the other calls, each accepted and refused

refusal : (q : ℕ) → eqb (suc q) 0 ≡ false
refusal q = ne_eqb (suc q) 0 (λ e. omega arith)

pub keeps-other : (a : Other) (h : Held) → other_gives a h ≡ other_of paper a h
unfolding other_gives checks answers cpu_read_gives cpu_peek_gives cpu_write_gives cpu_write_arena chr_read_gives chr_write_arena fill_arena region_read
    region_write_arena sram_answer reset_state sync_arena restore_state write_refusal written_image
keeps-other a h = by a (first_of (checks a h)) refl
  where
    by : (a : Other) (q : ℕ) → first_of (checks a h) ≡ q → other_gives a h ≡ other_of paper a h
    by (cpu_read addr) zero e = rw e
    by (cpu_read addr) (suc q) e = rw (e, refusal q)
    by (cpu_peek addr) zero e = rw e
    by (cpu_peek addr) (suc q) e = rw (e, refusal q)
    by (cpu_write addr v) zero e = rw e
    by (cpu_write addr v) (suc q) e = rw (e, refusal q)
    by (chr_read addr) zero e = rw e
    by (chr_read addr) (suc q) e = rw (e, refusal q)
    by (chr_write addr v) zero e = rw e
    by (chr_write addr v) (suc q) e = rw (e, refusal q)
    by (fill src bytes) zero e = rw e
    by (fill src bytes) (suc q) e = rw (e, refusal q)
    by (region_peek src offset) zero e = rw e
    by (region_peek src offset) (suc q) e = rw (e, refusal q)
    by (region_write src offset v) zero e = rw e
    by (region_write src offset v) (suc q) e = rw (e, refusal q)
    by sram zero e = rw e
    by sram (suc q) e = rw (e, refusal q)
    by (reset kind) zero e = rw e
    by (reset kind) (suc q) e = rw (e, refusal q)
    by sync_battery zero e = rw e
    by sync_battery (suc q) e = rw (e, refusal q)
    by restore_battery zero e = rw e
    by restore_battery (suc q) e = rw (e, refusal q)
    by (write_image buffer) zero e = rw e
    by (write_image buffer) (suc q) e = rw e

pub keeps : Keeps board paper
keeps = record { run = keeps-run; other = keeps-other }
