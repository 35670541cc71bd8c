-- The theorem of a 163: after every list of public calls from an accepted load of mapper 19, of either edition, refused calls among them,
-- the board agrees with the wiki's machine, but for the departures that `Agrees163` names. Without a database entry the board detects, and
-- the claim goes as far as it stays a 163: E000..E7FF is not written with bit 7 set. A list has no reset, which the wiki does not define.
use Prim.Native.Nat.{ℕ, ◌+◌, ◌/◌, ◌^◌, ◌<◌}
use mathlib.Core.Path.{◌≡◌, refl, sym, ap, subst, ◌∙◌}
use mathlib.Core.Bool.{Bool, true, false, cond, not, ◌&&◌, ◌||◌}
use mathlib.Core.List.{List}
use native.Mathlib.Omega.{arith}
use borrow.Author.Tests.{le-leb, lt-ltb}
use lib.Ieee.{Float}
use lib.IntN.{pos}
use lib.ListN.{get_or}
use Rattle.cut.specs.Calls.{Call, start as start_at}
use Rattle.cut.specs.Always.{AllTyped}
use Rattle.cut.specs.Demand3.{observed}
use Rattle.memory.specs.declared.layout.MemoryLayout.{MemoryLayout}
use Rattle.sound.specs.Audio.{with_ram}
use Rattle.board_chip.specs.declared.namco163.Board.{Board}
use Rattle.board_chip.specs.declared.namco163.Board.TheVariants.{Namco163 as Is163}
use Rattle.board_chip.specs.declared.namco163.Namco163.{Namco163}
use Rattle.board_chip.specs.Namco163.{is163}
use Rattle.board_chip.specs.Detection.{prg_ram_readable}
use Rattle.board_chip.specs.Load.{detecting_at_load, chip_at_load}
use Rattle.board_state.specs.declared.Options.{Options}
use Rattle.board_state.specs.declared.State.{State}
use Rattle.board_state.specs.State.{Known}
use Rattle.call_cpu.specs.Calls.{write_register}
use Rattle.call_load.specs.Cartridge.{fresh_state}
use Rattle.call_run.specs.Clock.{state_clock}
use Rattle.thm_machine.specs.Calls.{Held, Other}
use Rattle.thm_machine.specs.Board.{board}
use Rattle.thm_machine.specs.Start.{Loaded, loaded}
use Rattle.thm_machine.proofs.Start.{load-starts}
use Rattle.thm_range.proofs.Calls.{load_fits}
use Rattle.thm_range.proofs.Lists.{always-fit}
use Rattle.thm_wiki.specs.Registers.{WikiRegs, wiki_bit, wiki_e800, wiki_shows, wiki_unprotected}
use Rattle.thm_wiki.specs.Notes.{Noted, Steady, inside, note, start}
use Rattle.thm_wiki.specs.Shown.{Mapped, slot_shows, entry_of, prg_entry, ram_entry, ram_writable}
use Rattle.thm_wiki.specs.Lists.{beside, Plain}
use Rattle.thm_wiki.specs.Agrees.{Agrees163}
use Rattle.thm_wiki.proofs.Ranges.{Firm, firm-settled, firm-163}
use Rattle.thm_wiki.proofs.Registers.{selects-same, selects-only}
use Rattle.thm_wiki.proofs.Tests.{or_left, or_right}
use Rattle.thm_wiki.proofs.Counter.{counter-agrees}
use Rattle.thm_wiki.proofs.Port.{port-byte}
use Rattle.thm_wiki.proofs.Notes.{cycle-notes}
use Rattle.thm_wiki.proofs.Shown.Steps.{firm-board, read-board, clock-board, write-mapped, read_mapped, clock-mapped, audio-mapped}
use Rattle.thm_wiki.proofs.Shown.Steps.{load-mapped}
use Rattle.thm_wiki.proofs.Stands.{Stands, stands-fresh, write-stands, read-stands, cycle-stands, restore-stands}
use Rattle.thm_wiki.proofs.Lists.{Kept, along, plain-typed}

-- ---- what every step keeps

-- d: the board detects
record Good (d : Bool) (x : Noted) (s : State) : Type 0 where
  detects : s.chip.auto_detect_board ≡ d
  stands : Stands x s.chip
  mapped : Mapped s.f800_protects s.chip s.memory

abbrev As163 : Bool → Noted → State → Type 0
As163 d x s = d && x.notes.turned ≡ false → Good d x s

-- what is noted of E000 only grows
earlier : (d t u : Bool) → d && (t || u) ≡ false → d && u ≡ false
earlier true t u e = or_right t u e
earlier false t u e = refl

firm-by : (d : Bool) (n : Namco163) (a v : ℕ) (u : Bool) → n.auto_detect_board ≡ d → n.board ≡ Is163
    → d && ((inside 0xE000 0xE800 a && wiki_bit 7 v) || u) ≡ false → Firm n a v
firm-by false n a v u s b e = firm-settled n a v s
firm-by true n a v u s b e =
    firm-163 n a v b
    (λ l h.
    let z = or_left (inside 0xE000 0xE800 a && wiki_bit 7 v) u e in
    rw (le-leb 0xE000 a l, lt-ltb a 0xE800 h) at z)

kept : (d : Bool) → Kept (As163 d)
unfolding note write_register state_clock
kept d =
    record {
      write = λ x s a v top b y q e.
          let g = q (earlier d (inside 0xE000 0xE800 a && wiki_bit 7 v) x.notes.turned e) in
          let f = firm-by d s.chip a v x.notes.turned g.detects g.stands.board e in
          record {
            detects = (firm-board s.chip a v f).1 ∙ g.detects;
            stands = write-stands x s.chip a v top b y.typed.chip y.range.chip g.stands f;
            mapped = write-mapped s a v f y.typed.memory g.mapped;
          };
      read = λ x s a y q e.
          let g = q e in
          record {
            detects = (read-board s.chip a).1 ∙ g.detects;
            stands = read-stands x s.chip a y.range.chip g.stands;
            mapped = read_mapped s.f800_protects s.chip a s.memory g.mapped;
          };
      cycle = λ x s y q e.
          let g = q (ap (λ (t : Bool). d && t) (sym (cycle-notes x.machine x.notes).turned) ∙ e) in
          record {
            detects = (clock-board s.chip).1 ∙ g.detects;
            stands = cycle-stands x s.chip y.typed.chip y.range.chip g.stands;
            mapped = clock-mapped s.f800_protects s.chip s.memory g.mapped;
          };
      restore = λ x s len bytes z l y q e.
          let g = q e in
          record {
            detects = g.detects;
            stands = restore-stands x s.chip bytes l g.stands;
            mapped = audio-mapped s.f800_protects s.chip (with_ram s.chip.audio bytes) s.memory g.mapped;
          };
    }

-- ---- what that says

-- W12: whether a KiB of work RAM takes stores
stores-by : (protects : Bool) (w : WikiRegs) (v i : ℕ) → v ≡ get_or w.upper 3 0
    → ram_writable protects Is163 v i ≡ cond protects (wiki_unprotected w (i / 2)) true
stores-by true w v i e = rw e
stores-by false w v i e = refl

module _ (d : Bool) (x : Noted) (s : State) (y : Known s) (g : Good d x s) where
  is-163 : is163 s.chip.board ≡ true
  is-163 = ap is163 g.stands.board

  slot_is : (k : ℕ) → k < 12 → Steady x k → slot_shows s.chip k ≡ wiki_shows x.machine.regs k
  slot_is k h t =
      g.stands.regs.slots k h
      ∙ selects-same (get_or x.notes.selects k 0) (wiki_e800 x.machine.regs) k (get_or x.machine.regs.windows k 0) t

  agrees : Agrees163 x s
  agrees =
      let m = s.memory in
      let protects = s.f800_protects in
      let v = s.chip.regs.prg_ram_protect in
      record {
        prg =
            record {
              switched = λ k h i z.
                  g.mapped.prg k h i z ∙ ap (λ (p : ℕ). prg_entry m (pos p) i) (g.stands.regs.pages k h);
              last = g.mapped.last;
            };
        chr =
            record {
              windows = λ k h t. g.mapped.chr k (rw is-163 h) ∙ ap (entry_of m) (slot_is k h t);
              again = λ k h t. g.mapped.again is-163 k h ∙ ap (entry_of m) (slot_is (8 + k) (omega arith) t);
              only = λ k h e.
                  selects-only (get_or x.notes.selects k 0) (wiki_e800 x.machine.regs) k (get_or x.machine.regs.windows k 0)
                  (sym (g.stands.regs.slots k h) ∙ e);
            };
        ram = λ i h.
            g.mapped.ram i h
            ∙ (ap (λ (b : Board). ram_entry m (prg_ram_readable b) (ram_writable protects b v i) i) g.stands.board
            ∙ ap (λ (t : Bool). ram_entry m true t i) (stores-by protects x.machine.regs v i g.stands.protect));
        counter = counter-agrees x.machine.irq s y.typed.chip.counter g.stands.irq;
        sound = g.stands.sound.agrees;
        port = λ arena a l h f.
            let z = g.stands.sound.agrees in
            port-byte s arena a l h ∙ rw z.port.0 (sym (z.ram.others x.machine.sound.addr f));
      }

-- ---- every list of calls from a load

fresh-good : (sub flags : ℕ) (known : Bool) (sizes : MemoryLayout) (options : Options)
    → Good (not known) start (fresh_state 19 sub flags known sizes options)
unfolding fresh_state chip_at_load detecting_at_load
fresh-good sub flags known sizes options =
    record { detects = refl; stands = stands-fresh sub flags known options; mapped = load-mapped 19 sub flags known sizes options }

pub agrees-163 : (l : Loaded) → l.mapper ≡ 19 → l.submapper < 2 ^ 8 → (calls : List (Call Float Other)) → AllTyped Plain calls
    → let x = beside calls (loaded l) start in not l.known && x.notes.turned ≡ false
    → Agrees163 x (observed board calls (loaded l)).state.state
agrees-163 l m sub calls t e =
    let d = not l.known in
    let first : Good d start (loaded l).state =
    subst (λ (h : Held). Good d start h.state) (sym (load-starts l))
    (subst (λ (k : ℕ). Good d start (fresh_state k l.submapper l.flags l.known l.sizes l.options)) (sym m)
    (fresh-good l.submapper l.flags l.known l.sizes l.options)) in
    agrees d (beside calls (loaded l) start) (observed board calls (loaded l)).state.state
    (always-fit l sub calls (plain-typed calls t)).known
    (along (As163 d) (kept d) calls (start_at (loaded l)) start t (load_fits l sub) (λ z. first) e)

-- the same of a game that is known: no list makes it another board
pub agrees-known : (l : Loaded) → l.mapper ≡ 19 → l.known ≡ true → l.submapper < 2 ^ 8 → (calls : List (Call Float Other))
    → AllTyped Plain calls → Agrees163 (beside calls (loaded l) start) (observed board calls (loaded l)).state.state
agrees-known l m k sub calls t =
    agrees-163 l m sub calls t (ap (λ (b : Bool). not b && (beside calls (loaded l) start).notes.turned) k)
