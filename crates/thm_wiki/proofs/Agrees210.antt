-- The theorems of a 175 and of a 340: after every list of public calls from an accepted load of mapper 210, submapper 1 or 2, refused calls
-- among them, the board agrees with the wiki's machine, but for the departures that `Agrees175` and `Agrees340` name. A list has no reset,
-- which the wiki does not define.
use Prim.Native.Nat.{ℕ, ◌<◌}
use mathlib.Core.Path.{◌≡◌, refl, sym, ap, subst, ◌∙◌}
use mathlib.Core.Bool.{Bool, true, false}
use mathlib.Core.List.{List}
use native.Mathlib.Omega.{arith}
use borrow.Author.Rules.{rules}
use borrow.Author.Tests.{eq-eqb}
use lib.Ieee.{Float}
use lib.IntN.{pos}
use lib.ListN.{get_or}
use Rattle.cut.specs.Calls.{Call, start as start_at}
use Rattle.cut.specs.Always.{AllTyped}
use Rattle.cut.specs.Demand3.{observed}
use Rattle.limits.proofs.Each.{cond-holds}
use Rattle.memory.specs.declared.layout.MemoryLayout.{MemoryLayout}
use Rattle.memory.specs.declared.mirroring.Mirroring.{Mirroring}
use Rattle.board_chip.specs.declared.namco163.Board.{Board}
use Rattle.board_chip.specs.declared.namco163.Board.TheVariants.{Namco175, Namco340}
use Rattle.board_chip.specs.Namco163.{is163}
use Rattle.board_chip.specs.Detection.{prg_ram_readable, prg_ram_writable}
use Rattle.board_chip.specs.Load.{board_at_load, detecting_at_load, mirroring_at_load}
use Rattle.board_registers.specs.Writes.{write_chip}
use Rattle.board_protection.specs.Protection.{remaps_in}
use Rattle.board_state.specs.declared.Options.{Options}
use Rattle.board_state.specs.declared.State.{State}
use Rattle.board_state.specs.State.{Known}
use Rattle.call_cpu.specs.Calls.{write_register}
use Rattle.call_load.specs.Cartridge.{memory_at_load, fresh_state}
use Rattle.call_refusals.specs.Refusals.{first_of, battery_checks}
use Rattle.call_refusals.proofs.Laws.{accepted-none}
use Rattle.call_run.specs.Clock.{state_clock}
use Rattle.thm_machine.specs.Calls.{Held, Other}
use Rattle.thm_machine.specs.Board.{board}
use Rattle.thm_machine.specs.Start.{Loaded, loaded}
use Rattle.thm_machine.proofs.Start.{load-starts}
use Rattle.thm_range.proofs.Calls.{load_fits}
use Rattle.thm_range.proofs.Lists.{always-fit}
use Rattle.thm_steps.proofs.Banking.{Kept as MemoryKept, kept_self}
use Rattle.thm_steps.proofs.Protection.{remap-banks-kept}
use Rattle.thm_wiki.specs.Registers.{wiki_bit}
use Rattle.thm_wiki.specs.Notes.{Noted, start}
use Rattle.thm_wiki.specs.Shown.{Mapped, entry_of, prg_entry, ram_entry, ram_writable}
use Rattle.thm_wiki.specs.Lists.{beside, Plain}
use Rattle.thm_wiki.specs.Agrees.{Agrees210, Agrees175, Agrees340, MirroredBy, RamIs, selected_by}
use Rattle.thm_wiki.proofs.Tests.{never}
use Rattle.thm_wiki.proofs.Ranges.{firm-settled}
use Rattle.thm_wiki.proofs.Counter.{counter-agrees}
use Rattle.thm_wiki.proofs.Port.{port-byte}
use Rattle.thm_wiki.proofs.Shown.Steps.{write-mapped, read_mapped, clock-mapped, load-mapped}
use Rattle.thm_wiki.proofs.Stands210.{Stands210, fresh-stands, write-stands, read-stands, cycle-stands}
use Rattle.thm_wiki.proofs.Lists.{Kept, along, plain-typed}

-- L5: no battery byte is used, and no write changes that
used-kept : (s : State) (a v : ℕ) → (write_register s a v).memory.battery_ext_len ≡ s.memory.battery_ext_len
unfolding write_register
used-kept s a v =
    let protects = s.f800_protects in
    let n = write_chip s.chip a v in
    (cond-holds (MemoryKept s.memory) (remaps_in protects s.chip.board n.board a) _ _ (remap-banks-kept protects n s.memory)
    (kept_self s.memory)).used

-- N12: so a restore is refused
no-restore : (s : State) (len : ℕ) → s.memory.battery_ext_len ≡ 0 → first_of (battery_checks s len) ≡ 0 → ⊥
no-restore s len u e =
    let h = accepted-none (battery_checks s len) (search rules) e in
    never (sym (eq-eqb s.memory.battery_ext_len 0 u) ∙ h.1.1.0)

-- L20: only a 163 is held to F800
stores-other : (protects : Bool) (b : Board) (v i : ℕ) → is163 b ≡ false → ram_writable protects b v i ≡ prg_ram_writable b v
stores-other true b v i e = rw e
stores-other false b v i e = refl

module _ (b : Board) (m : Mirroring) (other : is163 b ≡ false) where
  -- ---- what every step keeps

  record Good (x : Noted) (s : State) : Type 0 where
    stands : Stands210 b m other x s.chip
    mapped : Mapped s.f800_protects s.chip s.memory
    used : s.memory.battery_ext_len ≡ 0

  kept : Kept Good
  unfolding write_register state_clock
  kept =
      record {
        write = λ x s a v top small y q.
            record {
              stands = write-stands b m other x s.chip a v small y.typed.chip q.stands;
              mapped = write-mapped s a v (firm-settled s.chip a v q.stands.settled) y.typed.memory q.mapped;
              used = used-kept s a v ∙ q.used;
            };
        read = λ x s a y q.
            record {
              stands = read-stands b m other x s.chip a q.stands;
              mapped = read_mapped s.f800_protects s.chip a s.memory q.mapped;
              used = q.used;
            };
        cycle = λ x s y q.
            record {
              stands = cycle-stands b m other x s.chip y.typed.chip q.stands;
              mapped = clock-mapped s.f800_protects s.chip s.memory q.mapped;
              used = q.used;
            };
        restore = λ x s len bytes e l y q. absurd (no-restore s len q.used e);
      }

  -- ---- what that says

  module _ (x : Noted) (s : State) (y : Known s) (g : Good x s) where
    not-163 : is163 s.chip.board ≡ false
    not-163 = ap is163 g.stands.board ∙ other

    both : Agrees210 x s
    both =
        record {
          prg =
              record {
                switched = λ k h i z.
                    g.mapped.prg k h i z ∙ ap (λ (p : ℕ). prg_entry s.memory (pos p) i) (g.stands.prg k h);
                last = g.mapped.last;
              };
          chr = λ k h. g.mapped.chr k (rw not-163 h) ∙ ap (entry_of s.memory) (g.stands.chr k h);
          counter = counter-agrees x.machine.irq s y.typed.chip.counter g.stands.irq;
          address = (g.stands.port.addr, g.stands.port.auto);
          port = λ arena a l h. port-byte s arena a l h ∙ ap (λ (i : ℕ). get_or s.chip.audio.ram i 0) g.stands.port.addr;
        }

    nametables : (k : Mirroring) → s.chip.mirroring ≡ k → MirroredBy s k
    nametables k e = subst (MirroredBy s) e (g.mapped.mirrored not-163)

    work-ram : RamIs s (prg_ram_readable b) (prg_ram_writable b s.chip.regs.prg_ram_protect)
    work-ram i h =
        let protects = s.f800_protects in
        let v = s.chip.regs.prg_ram_protect in
        g.mapped.ram i h
        ∙ (ap (λ (o : Board). ram_entry s.memory (prg_ram_readable o) (ram_writable protects o v i) i) g.stands.board
        ∙ ap (λ (t : Bool). ram_entry s.memory (prg_ram_readable b) t i) (stores-other protects b v i other))

-- ---- every list of calls from a load

fresh-used : (sub flags : ℕ) (known : Bool) (sizes : MemoryLayout) (options : Options)
    → (fresh_state 210 sub flags known sizes options).memory.battery_ext_len ≡ 0
unfolding fresh_state memory_at_load
fresh-used sub flags known sizes options = (remap-banks-kept options.f800_protects _ _).used

-- the load of a list, by its numbers
fresh_at : (l : Loaded) (sub : ℕ) (P : State → Type 0) → l.mapper ≡ 210 → l.submapper ≡ sub
    → P (fresh_state 210 sub l.flags l.known l.sizes l.options) → P (loaded l).state
fresh_at l sub P m e p =
    subst (λ (h : Held). P h.state) (sym (load-starts l))
    (subst (λ (k : ℕ). P (fresh_state k l.submapper l.flags l.known l.sizes l.options)) (sym m)
    (subst (λ (k : ℕ). P (fresh_state 210 k l.flags l.known l.sizes l.options)) (sym e) p))

-- what stands after a list of calls
record Reached (b : Board) (other : is163 b ≡ false) (l : Loaded) (x : Noted) (s : State) : Type 0 where
  known : Known s
  good : Good b (mirroring_at_load l.flags) other x s

reached : (b : Board) (other : is163 b ≡ false) (sub : ℕ) (l : Loaded) → sub < 256 → l.mapper ≡ 210 → l.submapper ≡ sub
    → board_at_load 210 sub ≡ b → detecting_at_load 210 sub l.known ≡ false → (calls : List (Call Float Other)) → AllTyped Plain calls
    → Reached b other l (beside calls (loaded l) start) (observed board calls (loaded l)).state.state
unfolding fresh_state
reached b other sub l small m e is quiet calls t =
    let k = mirroring_at_load l.flags in
    let byte : l.submapper < 256 = omega (arith, e, small) in
    let first : Good b k other start (loaded l).state =
    fresh_at l sub (Good b k other start) m e
    (record {
      stands = fresh-stands b k other sub l.flags l.known l.options is quiet refl;
      mapped = load-mapped 210 sub l.flags l.known l.sizes l.options;
      used = fresh-used sub l.flags l.known l.sizes l.options;
    }) in
    record {
      known = (always-fit l byte calls (plain-typed calls t)).known;
      good = along (Good b k other) (kept b k other) calls (start_at (loaded l)) start t (load_fits l byte) first;
    }

pub agrees-175 : (l : Loaded) → l.mapper ≡ 210 → l.submapper ≡ 1 → (calls : List (Call Float Other)) → AllTyped Plain calls
    → Agrees175 (mirroring_at_load l.flags) (beside calls (loaded l) start) (observed board calls (loaded l)).state.state
unfolding board_at_load detecting_at_load
agrees-175 l m e calls t =
    let k = mirroring_at_load l.flags in
    let x = beside calls (loaded l) start in
    let s = (observed board calls (loaded l)).state.state in
    let r = reached Namco175 refl 1 l (omega arith) m e refl refl calls t in
    let g = r.good in
    record {
      both = both Namco175 k refl x s r.known g;
      wired = nametables Namco175 k refl x s r.known g k (g.stands.wired refl);
      ram = λ i h.
          work-ram Namco175 k refl x s r.known g i h
          ∙ ap (λ (w : Bool). ram_entry s.memory true w i) (g.stands.enabled refl);
      gate = λ p. ap (wiki_bit 0) (g.stands.gate p);
    }

pub agrees-340 : (l : Loaded) → l.mapper ≡ 210 → l.submapper ≡ 2 → (calls : List (Call Float Other)) → AllTyped Plain calls
    → Agrees340 (mirroring_at_load l.flags) (beside calls (loaded l) start) (observed board calls (loaded l)).state.state
unfolding board_at_load detecting_at_load
agrees-340 l m e calls t =
    let k = mirroring_at_load l.flags in
    let x = beside calls (loaded l) start in
    let s = (observed board calls (loaded l)).state.state in
    let r = reached Namco340 refl 2 l (omega arith) m e refl refl calls t in
    record {
      both = both Namco340 k refl x s r.known r.good;
      selected = nametables Namco340 k refl x s r.known r.good (selected_by k x) (r.good.stands.selected refl);
      ram = work-ram Namco340 k refl x s r.known r.good;
    }
