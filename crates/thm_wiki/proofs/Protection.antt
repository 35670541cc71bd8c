-- L24: a 163 that does not detect and whose F800 protects has the wiki's flags after every list of calls, resets and refused calls among
-- them, but for the time from a hard reset to the next write to 8000..FFFF. Assumes nothing.
use Prim.Native.Nat.{ℕ, zero, suc, ◌+◌, ◌/◌, ◌<◌}
use mathlib.Core.Path.{◌≡◌, refl, sym, ap, subst, ◌∙◌}
use mathlib.Core.Bool.{Bool, true, false, cond, not, ◌&&◌, ◌||◌}
use mathlib.Core.List.{List, [], ◌∷◌}
use native.Mathlib.Omega.{arith}
use borrow.Author.Tests.{le-leb, lt-leb, leb-false, ltb-false}
use lib.Dec.{eqb, leb, ltb}
use lib.Ieee.{Float}
use lib.ListN.{length, get_or}
use Rattle.cut.specs.Calls.{Call, run, other, Point, from, start, after_run, noted}
use Rattle.cut.specs.Contract.{run_by}
use Rattle.cut.specs.Machine.{plainly, ticks}
use Rattle.cut.specs.Demand3.{observed}
use Rattle.cut.proofs.Always.{handed-on}
use Rattle.cut.proofs.Machine.{state-more}
use Rattle.memory.specs.declared.Memory.{Memory}
use Rattle.memory.specs.declared.layout.MemoryLayout.{MemoryLayout}
use Rattle.memory.specs.Page.{unmapped}
use Rattle.memory.specs.Range.{MemoryTyped}
use Rattle.sound.specs.declared.audio.Audio.{Audio}
use Rattle.board_chip.specs.declared.namco163.Board.{Board}
use Rattle.board_chip.specs.declared.namco163.Board.TheVariants.{Namco163 as Is163}
use Rattle.board_chip.specs.declared.namco163.Namco163.{Namco163}
use Rattle.board_chip.specs.declared.reset.ResetKind.TheVariants.{Soft, Hard}
use Rattle.board_chip.specs.Clock.{clock_counter}
use Rattle.board_chip.specs.Namco163.{with_audio}
use Rattle.board_chip.specs.Detection.{prg_ram_readable}
use Rattle.board_chip.specs.Load.{chip_at_load, board_at_load, detecting_at_load}
use Rattle.board_chip.specs.Reset.{reset_chip}
use Rattle.board_chr.specs.Slots.{write_slot, write_nametable}
use Rattle.board_prg.specs.Banks.{high_bits_e000, write_e800}
use Rattle.board_registers.specs.Writes.{write_chip, remaps}
use Rattle.board_protection.specs.Protection.{remap_banks, remaps_in}
use Rattle.board_state.specs.declared.Options.{Options}
use Rattle.board_state.specs.declared.State.{State}
use Rattle.board_state.specs.State.{with_chip}
use Rattle.call_cpu.specs.Calls.{write_register}
use Rattle.call_load.specs.Cartridge.{chosen, memory_at_load, fresh_state}
use Rattle.call_refusals.specs.Refusals.{first_of}
use Rattle.call_reset.specs.Reset.{kind_of}
use Rattle.call_run.specs.Clock.{state_clock}
use Rattle.call_run.specs.Run.{clocks, run_checks, run_gave}
use Rattle.thm_machine.specs.Calls.{Held, Other, cpu_read, cpu_peek, cpu_write, chr_read, chr_write, fill, region_peek, region_write, sram, reset}
use Rattle.thm_machine.specs.Calls.{sync_battery, restore_battery, write_image}
use Rattle.thm_machine.specs.Paper.{checks, answers}
use Rattle.thm_machine.specs.Board.{other_gives, run_gives, board}
use Rattle.thm_machine.specs.Start.{Loaded, loaded}
use Rattle.thm_machine.proofs.Keeps.{keeps-other}
use Rattle.thm_machine.proofs.Start.{load-starts}
use Rattle.thm_steps.proofs.Protection.{remap-banks-kept}
use Rattle.thm_range.proofs.Calls.{memory-load}
use Rattle.thm_wiki.specs.Registers.{wiki_unprotected}
use Rattle.thm_wiki.specs.Shown.{ram_entry, ram_writable}
use Rattle.thm_wiki.specs.Protection.{Protect, at_load, protect_by, protect_after, protect_in, with_f800, MeetsPage}
use Rattle.thm_wiki.proofs.Ranges.{by-range}
use Rattle.thm_wiki.proofs.Shown.Tables.{remap-maps}
use Rattle.thm_wiki.proofs.Shown.Steps.{read-holds, clock-holds}

-- ---- the board: a 163 that does not detect, with a value of F800

record Firm163 (v : ℕ) (n : Namco163) : Type 0 where
  fixed : n.auto_detect_board ≡ false
  board : n.board ≡ Is163
  byte : n.regs.prg_ram_protect ≡ v

-- after a write: F800..FFFF sets the value
write-firm : (n : Namco163) (v a x : ℕ) → Firm163 v n → Firm163 (cond (leb 0xF800 a) x v) (write_chip n a x)
unfolding write_slot write_nametable high_bits_e000 write_e800
write-firm n v a x f =
    let w = cond (leb 0xF800 a) x v in
    let low : a < 0xF800 → w ≡ v = λ h. rw (lt-leb 0xF800 a h) in
    let same : a < 0xF800 → Firm163 w n = λ h. record { fixed = f.fixed; board = f.board; byte = f.byte ∙ sym (low h) } in
    by-range (Firm163 w) n a x f.fixed
    (record {
      below = λ h. same (omega arith);
      sound = λ l h. let s = same (omega arith) in record { fixed = s.fixed; board = s.board; byte = s.byte };
      low = λ l h. let s = same (omega arith) in record { fixed = s.fixed; board = s.board; byte = s.byte };
      high = λ l h. let s = same (omega arith) in record { fixed = s.fixed; board = s.board; byte = s.byte };
      ram = λ l h. let s = same (omega arith) in record { fixed = s.fixed; board = s.board; byte = s.byte };
      chr = λ l h. let s = same (omega arith) in record { fixed = s.fixed; board = s.board; byte = s.byte };
      nametable = λ l h. let s = same (omega arith) in rw f.board (record { fixed = s.fixed; board = refl; byte = s.byte });
      e000 = λ l h. let s = same (omega arith) in rw f.board (record { fixed = s.fixed; board = refl; byte = s.byte });
      e800 = λ l h. let s = same (omega arith) in rw f.board (record { fixed = s.fixed; board = refl; byte = s.byte });
      f000 = λ l h. let s = same (omega arith) in record { fixed = s.fixed; board = s.board; byte = s.byte };
      port = λ l. rw (f.board, le-leb 0xF800 a l) (record { fixed = f.fixed; board = refl; byte = refl });
    })

-- ---- the state with what is noted of F800

record Protected (p : Protect) (s : State) : Type 0 where
  chip : Firm163 p.value s.chip
  edition : s.f800_protects ≡ true
  typed : MemoryTyped s.memory
  page : MeetsPage p s

-- another chip with the same three, and the same memory
with-chip : (p : Protect) (s t : State) → Firm163 p.value t.chip → t.f800_protects ≡ s.f800_protects
    → t.memory ≡ s.memory → Protected p s → Protected p t
with-chip p s t f e m q =
    record {
      chip = f;
      edition = e ∙ q.edition;
      typed = rw m q.typed;
      page = record { byte = f.byte; flags = λ z i h. rw m (q.page.flags z i h) };
    }

-- tables that were made anew show the value
made : (v : ℕ) (n : Namco163) (m : Memory) → Firm163 v n → MemoryTyped m → (i : ℕ) → i < 8
    → let k = remap_banks true n m in
    get_or k.prg_pages (24 + i) unmapped ≡ ram_entry k true (wiki_unprotected (with_f800 v) (i / 2)) i
made v n m f t i h =
    let k = remap_banks true n m in
    (remap-maps true n m t).ram i h
    ∙ ap (λ (b : Board). ram_entry k (prg_ram_readable b) (ram_writable true b n.regs.prg_ram_protect i) i) f.board
    ∙ ap (λ (x : ℕ). ram_entry k true (wiki_unprotected (with_f800 x) (i / 2)) i) f.byte

-- L14, L21: on a board that stays a 163 the tables are made by each write to 8000..FFFF and by no other
made_by : (n : Namco163) (a x : ℕ) (b : Board) → n.board ≡ Is163 → b ≡ Is163 → remaps_in true n.board b a ≡ leb 0x8000 a
unfolding remaps_in remaps
made_by n a x b e f = rw (e, f) (go (leb 0x8000 a) refl (ltb a 0xF800) refl)
  where
    go : (t : Bool) → leb 0x8000 a ≡ t → (u : Bool) → ltb a 0xF800 ≡ u
        → ((t && u) || not (eqb 1 1)) || (true && (leb 0xF800 a && true)) ≡ t
    go true p true q = refl
    go true p false q = rw (le-leb 0xF800 a (ltb-false a 0xF800 q))
    go false p u q = rw (lt-leb 0xF800 a (omega (arith, leb-false 0x8000 a p))) (none u)
      where
        none : (u : Bool) → ((false && u) || not (eqb 1 1)) || (true && (false && true)) ≡ false
        none true = refl
        none false = refl

-- ---- each call

write-protected : (p : Protect) (s : State) (a x : ℕ) → Protected p s → Protected (protect_by (cpu_write a x) p) (write_register s a x)
unfolding write_register
write-protected p s a x q =
    let n = write_chip s.chip a x in
    let f = write-firm s.chip p.value a x q.chip in
    rw (q.edition, made_by s.chip a x n.board q.chip.board f.board) (go f (leb 0x8000 a) refl)
  where
    go : let n = write_chip s.chip a x in let v = cond (leb 0xF800 a) x p.value in
        Firm163 v n → (t : Bool) → leb 0x8000 a ≡ t
        → Protected (record { value = v; shown = t || p.shown })
        (record { chip = n; memory = cond t (remap_banks true n s.memory) s.memory; f800_protects = true })
    go f true e =
        let n = write_chip s.chip a x in
        record {
          chip = f;
          edition = refl;
          typed = (remap-banks-kept true n s.memory).typed q.typed;
          page = record { byte = f.byte; flags = λ z. made (cond (leb 0xF800 a) x p.value) n s.memory f q.typed };
        }
    go f false e =
        let same : cond (leb 0xF800 a) x p.value ≡ p.value = rw (lt-leb 0xF800 a (omega (arith, leb-false 0x8000 a e))) in
        record {
          chip = f;
          edition = refl;
          typed = q.typed;
          page = record { byte = f.byte; flags = λ z i h. rw same (q.page.flags z i h) };
        }

reset-protected : (p : Protect) (s : State) (kind : ℕ) → Protected p s
    → Protected (protect_by (reset kind) p) (with_chip s (reset_chip s.chip (kind_of kind)))
unfolding reset_chip
reset-protected p s kind q = go (eqb kind 0)
  where
    go : (t : Bool) → Protected (cond t p (record { value = 0; shown = false })) (with_chip s (reset_chip s.chip (cond t Soft Hard)))
    go true =
        let f = q.chip in
        with-chip p s _ (record { fixed = f.fixed; board = f.board; byte = f.byte }) refl refl q
    go false =
        record {
          chip = record { fixed = q.chip.fixed; board = q.chip.board; byte = refl };
          edition = q.edition;
          typed = q.typed;
          page = record { byte = refl; flags = λ z. let y : ◌≡◌ {A = ℕ} 0 1 = cc in absurd (omega arith) };
        }

-- a chip whose sound is another
sound-firm : (v : ℕ) (n : Namco163) (x : Audio) → Firm163 v n → Firm163 v (with_audio n x)
sound-firm v n x f = record { fixed = f.fixed; board = f.board; byte = f.byte }

accepted-protected : (a : Other) (h : Held) (p : Protect) → Protected p h.state → Protected (protect_by a p) (answers a h).state.state
unfolding answers
accepted-protected (cpu_read addr) h p q =
    let n = h.state.chip in
    with-chip p h.state _ (read-holds (Firm163 p.value) n addr (λ x. sound-firm p.value n x q.chip)) refl refl q
accepted-protected (cpu_peek addr) h p q = q
accepted-protected (cpu_write addr v) h p q = write-protected p h.state addr v q
accepted-protected (chr_read addr) h p q = q
accepted-protected (chr_write addr v) h p q = q
accepted-protected (fill src bytes) h p q = q
accepted-protected (region_peek src offset) h p q = q
accepted-protected (region_write src offset v) h p q = q
accepted-protected sram h p q = q
accepted-protected (reset kind) h p q = reset-protected p h.state kind q
accepted-protected sync_battery h p q = q
accepted-protected restore_battery h p q =
    with-chip p h.state _ (sound-firm p.value h.state.chip _ q.chip) refl refl q
accepted-protected (write_image buffer) h p q = q

other-protected : (a : Other) (h : Held) (p : Protect) → Protected p h.state
    → Protected (protect_after (first_of (checks a h)) a p) (other_gives a h).state.state
other-protected a h p q = rw (keeps-other a h) (go (first_of (checks a h)))
  where
    go : (n : ℕ) → Protected (protect_after n a p) (plainly n (answers a h) h).state.state
    go zero = accepted-protected a h p q
    go (suc n) = q

clocks-protected : (n : ℕ) (s : State) (p : Protect) → Protected p s → Protected p (clocks n s).state
unfolding ticks state_clock clock_counter
clocks-protected zero s p q = q
clocks-protected (suc n) s p q =
    let t = (clocks n s).state in
    let r = clocks-protected n s p q in
    rw (state-more state_clock n s)
    (with-chip p t _
    (clock-holds (Firm163 p.value) t.chip (λ x. record { fixed = r.chip.fixed; board = r.chip.board; byte = r.chip.byte }))
    refl refl r)

run-protected : (n : ℕ) (lent : List Float) (h : Held) (p : Protect) → Protected p h.state
    → Protected p (run_gives n lent h).state.state
unfolding run_gives run_gave
run-protected n lent h p q = go (first_of (run_checks h.state n (length lent)))
  where
    go : (r : ℕ) → Protected p (run_by r (clocks n h.state) lent h.state).state
    go zero = clocks-protected n h.state p q
    go (suc r) = q

-- ---- every list of calls from a load

along : (calls : List (Call Float Other)) (x : Point Held Float) (p : Protect) → Protected p x.state.state
    → Protected (protect_in calls x.state p) (noted board calls x).state.state
unfolding noted protect_in
along [] x p q = q
along (run n lent ∷ calls) x p q =
    let g = run_gives n lent x.state in
    let after = after_run g.refusal n g x in
    let e = handed-on g.refusal n g x in
    subst (λ (h : Held). Protected (protect_in calls h p) (noted board calls after).state.state) e
    (along calls after p (subst (λ (h : Held). Protected p h.state) (sym e) (run-protected n lent x.state p q)))
along (other a ∷ calls) x p q =
    along calls (from (other_gives a x.state).state x.count) (protect_after (first_of (checks a x.state)) a p)
    (other-protected a x.state p q)

fresh-protected : (sub flags : ℕ) (sizes : MemoryLayout) (options : Options) → options.f800_protects ≡ true
    → Protected at_load (fresh_state 19 sub flags true sizes options)
unfolding fresh_state chip_at_load board_at_load detecting_at_load
fresh-protected sub flags sizes options e =
    let n = chosen (chip_at_load 19 sub flags true) options in
    let m = memory_at_load 19 sizes in
    let f : Firm163 0 n = record { fixed = refl; board = refl; byte = refl } in
    rw e
    (record {
      chip = f;
      edition = refl;
      typed = (remap-banks-kept true n m).typed (memory-load 19 sizes);
      page = record { byte = refl; flags = λ z. made 0 n m f (memory-load 19 sizes) };
    })

-- L24: from every load of mapper 19 that is known to the database, with F800 protecting
pub protected-163 : (l : Loaded) → l.mapper ≡ 19 → l.known ≡ true → l.options.f800_protects ≡ true → (calls : List (Call Float Other))
    → MeetsPage (protect_in calls (loaded l) at_load) (observed board calls (loaded l)).state.state
protected-163 l m k e calls =
    let first : Protected at_load (loaded l).state =
    subst (λ (h : Held). Protected at_load h.state) (sym (load-starts l))
    (subst (λ (x : ℕ). Protected at_load (fresh_state x l.submapper l.flags l.known l.sizes l.options)) (sym m)
    (subst (λ (x : Bool). Protected at_load (fresh_state 19 l.submapper l.flags x l.sizes l.options)) (sym k)
    (fresh-protected l.submapper l.flags l.sizes l.options e))) in
    (along calls (start (loaded l)) at_load first).page
