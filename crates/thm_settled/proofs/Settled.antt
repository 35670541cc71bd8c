-- The claims of specs/Settled.antt. A predicate of the type, whether it is detected and the written flag is kept by a list where each
-- detection step, the flag's step and each accepted reset keep it: no other step touches the three.
use Prim.Native.Nat.{ℕ, zero, suc}
use mathlib.Core.Path.{◌≡◌, refl, sym, ap, ◌∙◌}
use mathlib.Core.Bool.{Bool, true, false}
use mathlib.Core.List.{List, [], ◌∷◌}
use lib.Dec.{ltb}
use lib.Ieee.{Float}
use lib.ListN.{length}
use Rattle.cut.specs.Calls.{Call, run, other, Gave, Trace, last, then, Point, from, start, answered, after_run, noted}
use Rattle.cut.specs.Contract.{run_by}
use Rattle.cut.specs.Machine.{Clocked, ticks}
use Rattle.cut.proofs.Always.{handed-on, in_two}
use Rattle.cut.proofs.Machine.{state-more}
use Rattle.limits.proofs.Each.{cond-holds}
use Rattle.board_chip.specs.declared.namco163.Board.{Board}
use Rattle.board_chip.specs.declared.namco163.Board.TheVariants.{Namco340}
use Rattle.board_chip.specs.declared.namco163.Namco163.{Namco163}
use Rattle.board_chip.specs.declared.reset.ResetKind.{ResetKind}
use Rattle.board_chip.specs.Namco163.{is163, with_board}
use Rattle.board_chip.specs.Detection.{may_change, maybe_set_board}
use Rattle.board_chip.specs.Load.{board_at_load, chip_at_load}
use Rattle.board_chip.specs.Reads.{after_read}
use Rattle.board_chip.specs.Reset.{reset_chip}
use Rattle.board_chr.specs.Slots.{write_slot}
use Rattle.board_registers.specs.Writes.{write_chip}
use Rattle.board_registers.proofs.Steps.{Steps, write-by}
use Rattle.board_state.specs.declared.State.{State}
use Rattle.call_refusals.specs.Refusals.{first_of}
use Rattle.call_cpu.specs.Calls.{write_register}
use Rattle.call_load.specs.Cartridge.{fresh_state}
use Rattle.call_run.specs.Clock.{chip_clock, state_clock}
use Rattle.call_run.specs.Run.{clocks, run_checks, run_gave}
use Rattle.thm_machine.specs.Calls.{Held, Other, cpu_read, cpu_peek, cpu_write, chr_read, chr_write, fill, region_peek, region_write, sram, reset}
use Rattle.thm_machine.specs.Calls.{sync_battery, restore_battery, write_image, Answer, done}
use Rattle.thm_machine.specs.Paper.{checks, answers}
use Rattle.thm_machine.specs.Board.{other_gives, run_gives, board}
use Rattle.thm_machine.specs.Start.{Loaded, loaded}
use Rattle.thm_machine.proofs.Keeps.{keeps-other}
use Rattle.thm_machine.proofs.Start.{load-starts}
use Rattle.thm_range.proofs.Calls.{by_answer}
use Rattle.thm_settled.specs.Settled.{type_of, detects, NoReset, after, StaysSettled, StaysDetecting, StaysFixed}
use Rattle.thm_settled.specs.Settled.{SettledFromLoad, TypeOfLoad}

-- ---- what a list keeps

-- of the type, whether it is detected, and the written flag
abbrev Of : (Board → Bool → Bool → Type 0) → Namco163 → Type 0
Of Q n = Q n.board n.auto_detect_board n.prg_ram_written_to

record Kept (Q : Board → Bool → Bool → Type 0) : Type 0 where
  detect : (n : Namco163) (b : Board) → Of Q n → Of Q (maybe_set_board n b)
  flag : (b : Board) (d w : Bool) → Q b d w → Q b d true

-- what an accepted reset has to keep, which clears the flag (C7)
abbrev Resets : (Board → Bool → Bool → Type 0) → Type 0
Resets Q = (b : Board) (d w : Bool) → Q b d w → Q b d false

-- R holds wherever a list has an accepted reset
abbrev AtResets : Type 0 → Trace Float Other Answer → Type 0
AtResets R (last w) = Unit {0}
AtResets R (then w a r t) = ((kind : ℕ) → a ≡ reset kind → r ≡ answered done → R) × AtResets R t

none-at : (R : Type 0) (t : Trace Float Other Answer) → NoReset t → AtResets R t
none-at R (last w) n = tt
none-at R (then w a r t) n = ((λ kind e d. absurd (n.0 kind e d)), none-at R t n.1)

all-at : {R : Type 0} → R → (t : Trace Float Other Answer) → AtResets R t
all-at x (last w) = tt
all-at x (then w a r t) = ((λ kind e d. x), all-at x t)

module _ (Q : Board → Bool → Bool → Type 0) (k : Kept Q) where
  -- a write
  steps : (a v : ℕ) → Steps (Of Q) a v
  unfolding write_slot
  steps a v =
      record {
        detect = k.detect;
        sound = λ n q. q;
        low = λ lo hi n q. q;
        high = λ lo hi n q. q;
        flag = λ n q. k.flag n.board n.auto_detect_board n.prg_ram_written_to q;
        slot = λ n q. q;
        protect = λ n q. q;
        bank = λ n i q. q;
        selects = λ n q. q;
        mirroring = λ n q. q;
      }

  write-of : (n : Namco163) (a v : ℕ) → Of Q n → Of Q (write_chip n a v)
  write-of n a v = write-by (Of Q) a v (steps a v) n

  read_of : (n : Namco163) (a : ℕ) → Of Q n → Of Q (after_read n a)
  unfolding after_read
  read_of n a q = cond-holds (Of Q) (ltb a 0x4800) n _ q (cond-holds (Of Q) (ltb a 0x5000) _ n q q)

  -- a run
  clock-of : (n : Namco163) → Of Q n → Of Q (chip_clock n).state
  unfolding chip_clock
  clock-of n q = cond-holds (λ (c : Clocked Namco163 Float). Of Q c.state) (is163 n.board) _ _ q q

  clocks-of : (n : ℕ) (s : State) → Of Q s.chip → Of Q (clocks n s).state.chip
  unfolding ticks state_clock
  clocks-of zero s q = q
  clocks-of (suc n) s q = rw (state-more state_clock n s) (clock-of (clocks n s).state.chip (clocks-of n s q))

  run_of : (n : ℕ) (lent : List Float) (h : Held) → Of Q h.state.chip → Of Q (run_gives n lent h).state.state.chip
  unfolding run_gives run_gave
  run_of n lent h q = go (first_of (run_checks h.state n (length lent)))
    where
      go : (r : ℕ) → Of Q (run_by r (clocks n h.state) lent h.state).state.chip
      go zero = clocks-of n h.state q
      go (suc r) = q

  -- the other calls
  reset-of : (n : Namco163) (kind : ResetKind) → Resets Q → Of Q n → Of Q (reset_chip n kind)
  unfolding reset_chip
  reset-of n kind r q = r n.board n.auto_detect_board n.prg_ram_written_to q

  accepted-of : (a : Other) (h : Held) → ((kind : ℕ) → a ≡ reset kind → Resets Q) → Of Q h.state.chip
      → Of Q (answers a h).state.state.chip
  unfolding answers write_register
  accepted-of (cpu_read addr) h r q = read_of h.state.chip addr q
  accepted-of (cpu_peek addr) h r q = q
  accepted-of (cpu_write addr v) h r q = write-of h.state.chip addr v q
  accepted-of (chr_read addr) h r q = q
  accepted-of (chr_write addr v) h r q = q
  accepted-of (fill src bytes) h r q = q
  accepted-of (region_peek src offset) h r q = q
  accepted-of (region_write src offset v) h r q = q
  accepted-of sram h r q = q
  accepted-of (reset kind) h r q = reset-of h.state.chip _ (r kind refl) q
  accepted-of sync_battery h r q = q
  accepted-of restore_battery h r q = q
  accepted-of (write_image buffer) h r q = q

  other-of : (a : Other) (h : Held) → ((kind : ℕ) → a ≡ reset kind → (other_gives a h).reply ≡ answered done → Resets Q)
      → Of Q h.state.chip → Of Q (other_gives a h).state.state.chip
  unfolding answers
  other-of a h r q =
      by_answer (λ (g : Held). Of Q g.state.chip) a h q
      (λ e. accepted-of a h (λ kind same. r kind same (replied a h kind same e)) q)
    where
      -- an accepted reset answers that it is done
      replied : (a : Other) (h : Held) (kind : ℕ) → a ≡ reset kind → first_of (checks a h) ≡ 0 → (other_gives a h).reply ≡ answered done
      replied a h kind same e = ap (λ (g : Gave Held Answer). g.reply) (keeps-other a h) ∙ rw (e, same)

  along : (calls : List (Call Float Other)) (p : Point Held Float) → AtResets (Resets Q) (noted board calls p).trace
      → Of Q p.state.state.chip → Of Q (noted board calls p).state.state.chip
  unfolding noted
  along [] p r q = q
  along (run n lent ∷ calls) p r q =
      let g = run_gives n lent p.state in
      along calls (after_run g.refusal n g p) r (rw (handed-on g.refusal n g p) (run_of n lent p.state q))
  along (other a ∷ calls) p r q =
      along calls (from (other_gives a p.state).state p.count) r.1 (other-of a p.state r.0 q)

-- ---- detection that does not act

stays : (n : Namco163) (b : Board) → may_change n ≡ false → maybe_set_board n b ≡ n
unfolding maybe_set_board
stays n b e = rw e

-- L6: a settled 340
abbrev IsSettled : Board → Bool → Bool → Type 0
IsSettled b d w = (d ≡ true) × ((b ≡ Namco340) × (w ≡ true))

settled-kept : Kept IsSettled
unfolding may_change
settled-kept =
    record {
      detect = λ n b q. rw (stays n b (rw (q.0, q.1.0, q.1.1))) q;
      flag = λ b d w q. (q.0, (q.1.0, refl));
    }

-- L6: a board that does not detect, of one type
abbrev IsFixed : Board → Board → Bool → Bool → Type 0
IsFixed type b d w = (d ≡ false) × (b ≡ type)

fixed_kept : (type : Board) → Kept (IsFixed type)
unfolding may_change
fixed_kept type = record { detect = λ n b q. rw (stays n b (rw q.0)) q; flag = λ b d w q. q }

-- whether it detects
abbrev IsDetecting : Bool → Board → Bool → Bool → Type 0
IsDetecting was b d w = d ≡ was

detecting-kept : (was : Bool) → Kept (IsDetecting was)
unfolding maybe_set_board
detecting-kept was =
    record {
      detect = λ n b q. cond-holds (Of (IsDetecting was)) (may_change n) (with_board n b) n q q;
      flag = λ b d w q. q;
    }

-- ---- the claims

pub stays-settled : StaysSettled
stays-settled calls h s n =
    let q = along IsSettled settled-kept calls (start h) (none-at (Resets IsSettled) (noted board calls (start h)).trace n)
    (s.detecting, (s.type, s.flag)) in
    record { detecting = q.0; type = q.1.0; flag = q.1.1 }

pub stays-detecting : StaysDetecting
stays-detecting calls h =
    along (IsDetecting (detects h)) (detecting-kept (detects h)) calls (start h)
    (all-at (λ b d w q. q) (noted board calls (start h)).trace) refl

pub stays-fixed : StaysFixed
stays-fixed calls h e =
    (along (IsFixed (type_of h)) (fixed_kept (type_of h)) calls (start h) (all-at (λ b d w q. q) (noted board calls (start h)).trace)
    (e, refl)).1

pub settled-from-load : SettledFromLoad
settled-from-load l first rest s n =
    rw (in_two board first rest (start (loaded l))) (stays-settled rest (after first (loaded l)) s n)

load-type : (l : Loaded) → type_of (loaded l) ≡ board_at_load l.mapper l.submapper
unfolding fresh_state chip_at_load
load-type l = ap type_of (load-starts l)

pub type-of-load : TypeOfLoad
type-of-load l calls e =
    stays-fixed calls (loaded l) (sym (stays-detecting calls (loaded l)) ∙ e) ∙ load-type l
