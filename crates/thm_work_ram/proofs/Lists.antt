-- M16: from every accepted load, after every list of calls, refused ones among them, the zero page is all zeros, so that every unmapped
-- address reads 0; without PRG-RAM the window at 6000 is unmapped, and a CPU read there answers 0.
use Prim.Native.Nat.{ℕ, ◌+◌, ◌-◌, ◌/◌, ◌%◌, ◌^◌, ◌≤◌, ◌<◌}
use mathlib.Core.Path.{◌≡◌, refl, ap, ◌∙◌}
use mathlib.Core.Bool.{Bool, true, false, cond}
use mathlib.Core.List.{List}
use mathlib.Core.Logic.{inl, inr}
use mathlib.Core.Option.{Option, some, none}
use native.Mathlib.Omega.{arith}
use borrow.Author.Tests.{le-ltb}
use lib.Ieee.{Float}
use lib.ListN.{length, get_or}
use Rattle.cut.specs.Calls.{Call, answered, start}
use Rattle.cut.specs.Demand3.{observed}
use Rattle.cut.specs.Always.{AllTyped, Kept}
use Rattle.cut.proofs.Always.{always}
use Rattle.limits.proofs.Each.{cond-holds, each-replicate}
use Rattle.memory.specs.declared.Memory.{Memory}
use Rattle.memory.specs.declared.layout.Layout.{Layout}
use Rattle.memory.specs.declared.layout.MemoryLayout.{MemoryLayout}
use Rattle.memory.specs.declared.layout.Src.{Src}
use Rattle.memory.specs.declared.layout.Src.TheVariants.{BatteryExt}
use Rattle.memory.specs.declared.page.Page.{Page}
use Rattle.memory.specs.Layout.{layout_of, arena_len}
use Rattle.memory.specs.Memory.{region_in}
use Rattle.memory.specs.Page.{unmapped, writable_of}
use Rattle.memory.specs.Range.{Ranged, MemoryTyped}
use Rattle.memory_bytes.specs.Bytes.{prg_entry, chr_entry, shown_at, stored_at, store, prg_peek, chr_peek, fill_region}
use Rattle.memory_bytes.proofs.Laws.Bytes.{store_other, wrapped-region, overlay-before, region-backed}
use Rattle.board_chip.specs.declared.namco163.Namco163.{Namco163}
use Rattle.board_chip.specs.Load.{chip_at_load}
use Rattle.std.specs.Prelude.{None}
use Rattle.board_chip.specs.Reads.{served}
use Rattle.board_registers.specs.Writes.{write_chip}
use Rattle.board_protection.specs.Protection.{remap_banks, remaps_in}
use Rattle.board_state.specs.declared.State.{State}
use Rattle.board_state.specs.State.{Known}
use Rattle.call_refusals.specs.Refusals.{first_of}
use Rattle.call_refusals.proofs.Laws.{fill-good, battery-good, backed}
use Rattle.call_cpu.specs.Calls.{write_register}
use Rattle.call_load.specs.Cartridge.{LoadFits, chosen, memory_at_load, fresh_state}
use Rattle.call_load.proofs.Laws.{load-good}
use Rattle.thm_machine.specs.Calls.{Held, Other, cpu_read, cpu_peek, cpu_write, chr_read, chr_write, fill, region_peek, region_write, sram, reset}
use Rattle.thm_machine.specs.Calls.{sync_battery, restore_battery, write_image, byte, ArgTyped, CallTyped}
use Rattle.thm_machine.specs.Paper.{checks, answers}
use Rattle.thm_machine.specs.Board.{other_gives, run_gives, board}
use Rattle.thm_machine.specs.Start.{Loaded, loaded, zeroed}
use Rattle.thm_machine.proofs.Keeps.{keeps-other}
use Rattle.thm_machine.proofs.Start.{load-starts}
use Rattle.thm_steps.proofs.Protection.{remap-banks-kept}
use Rattle.thm_range.specs.Fit.{Fit}
use Rattle.thm_range.proofs.Calls.{cpu-accepted, by_answer, other_fits, run_fits, run-memory, zeroed-fits, ranged-load, memory-load, layout-load}
use Rattle.thm_work_ram.specs.ZeroPage.{ZeroPage, Apart, TablesApart, NoWorkRam}
use Rattle.thm_work_ram.proofs.Mapping.{no-ram-either}
use Rattle.thm_work_ram.proofs.Entries.{behind, remap-banks-apart, new_apart}

-- ---- what every call keeps

-- of a memory of layout l
record Windows (l : Layout) (m : Memory) : Type 0 where
  layout : m.layout ≡ l
  apart : TablesApart m
  bare : l.prg_ram ≡ 0 → NoWorkRam m

record Untouched (l : Layout) (h : Held) : Type 0 where
  fit : Fit h
  windows : Windows l h.state.memory
  zeros : ZeroPage h.arena

-- ---- memory

mapped-windows : (l : Layout) (protects : Bool) (n : Namco163) (m : Memory) → Ranged m → MemoryTyped m → m.layout ≡ l → TablesApart m
    → Windows l (remap_banks protects n m)
mapped-windows l protects n m r t e q =
    record {
      layout = (remap-banks-kept protects n m).layout ∙ e;
      apart = remap-banks-apart protects n m r q;
      bare = λ pages. no-ram-either protects n m t (ap (λ (x : Layout). x.prg_ram) e ∙ pages);
    }

register-windows : (l : Layout) (s : State) (addr v : ℕ) → Known s → Windows l s.memory → Windows l (write_register s addr v).memory
unfolding write_register
register-windows l s addr v k w =
    let n = write_chip s.chip addr v in
    let protects = s.f800_protects in
    cond-holds (Windows l) (remaps_in protects s.chip.board n.board addr) _ _
    (mapped-windows l protects n s.memory k.range.memory.ranged k.typed.memory w.layout w.apart) w

-- ---- arena

-- a store through an entry of the tables goes behind the zero page
stored-behind : (p : Page) (addr i : ℕ) → Apart p → stored_at p addr ≡ some i → 1024 ≤ i
unfolding stored_at
stored-behind p addr i (inl e) s = let z : ◌≡◌ {A = ℕ} 0 1 = (let t : Path (Option ℕ) none (some i) = rw e at s in cc) in absurd (omega arith)
stored-behind p addr i (inr h) s = go (writable_of p) s
  where
    go : (w : Bool) → cond w (some (shown_at p addr)) none ≡ some i → 1024 ≤ i
    go true s = let at : shown_at p addr ≡ i = cc in omega arith
    go false s = let z : ◌≡◌ {A = ℕ} 0 1 = cc in absurd (omega arith)

store-zeros : (arena : List ℕ) (at : Option ℕ) (v : ℕ) → ((i : ℕ) → at ≡ some i → 1024 ≤ i) → ZeroPage arena → ZeroPage (store arena at v)
store-zeros arena at v h z i b = store_other arena at v i (λ e. omega (arith, h i e)) ∙ z i b

module _ (l : Layout) (h : Held) (u : Untouched l h) where
  m : Memory
  m = h.state.memory

  fill-zeros : (src : Src) (bytes : List ℕ) → first_of (checks (fill src bytes) h) ≡ 0 → ZeroPage (fill_region h.arena m src bytes)
  unfolding checks fill_region m
  fill-zeros src bytes e i b =
      let g = fill-good h.state (length h.arena) src (length bytes) e in
      let inside = region-backed m h.arena (backed h.state h.arena g.0) src in
      let low = behind m.layout m.battery_ext_len src in
      overlay-before h.arena (region_in m src).start bytes i (omega (arith, inside, g.1)) (omega (arith, low)) ∙ u.zeros i b

  sync-zeros : first_of (checks sync_battery h) ≡ 0 → ZeroPage (answers sync_battery h).state.arena
  unfolding checks answers m
  sync-zeros e i b =
      let g = battery-good h.state (length h.arena) e in
      let y = u.fit.known.typed.chip.audio in
      let low = behind m.layout m.battery_ext_len BatteryExt in
      overlay-before h.arena (region_in m BatteryExt).start h.state.chip.audio.ram i
      (omega (arith, g.inside, y.ram_length)) (omega (arith, low))
      ∙ u.zeros i b

  accepted-zeros : (a : Other) → first_of (checks a h) ≡ 0 → ZeroPage (answers a h).state.arena
  unfolding answers m
  accepted-zeros (cpu_read addr) e = u.zeros
  accepted-zeros (cpu_peek addr) e = u.zeros
  accepted-zeros (cpu_write addr v) e =
      store-zeros h.arena _ v (λ i. stored-behind (prg_entry m addr) addr i (u.windows.apart.prg (addr / 1024))) u.zeros
  accepted-zeros (chr_read addr) e = u.zeros
  accepted-zeros (chr_write addr v) e =
      store-zeros h.arena _ v (λ i. stored-behind (chr_entry m addr) addr i (u.windows.apart.chr (addr / 1024 % 16))) u.zeros
  accepted-zeros (fill src bytes) e = fill-zeros src bytes e
  accepted-zeros (region_peek src offset) e = u.zeros
  accepted-zeros (region_write src offset v) e =
      store-zeros h.arena _ v
      (λ i at. omega (arith, (wrapped-region (region_in m src) offset i at).0, behind m.layout m.battery_ext_len src)) u.zeros
  accepted-zeros sram e = u.zeros
  accepted-zeros (reset kind) e = u.zeros
  accepted-zeros sync_battery e = sync-zeros e
  accepted-zeros restore_battery e = u.zeros
  accepted-zeros (write_image buffer) e = u.zeros

  accepted-windows : (a : Other) → Windows l (answers a h).state.state.memory
  unfolding answers m
  accepted-windows (cpu_read addr) = u.windows
  accepted-windows (cpu_peek addr) = u.windows
  accepted-windows (cpu_write addr v) = register-windows l h.state addr v u.fit.known u.windows
  accepted-windows (chr_read addr) = u.windows
  accepted-windows (chr_write addr v) = u.windows
  accepted-windows (fill src bytes) = u.windows
  accepted-windows (region_peek src offset) = u.windows
  accepted-windows (region_write src offset v) = u.windows
  accepted-windows sram = u.windows
  accepted-windows (reset kind) = u.windows
  accepted-windows sync_battery = u.windows
  accepted-windows restore_battery = u.windows
  accepted-windows (write_image buffer) = u.windows

-- ---- every call of a list

other-untouched : (l : Layout) (a : Other) (h : Held) → ArgTyped a → Untouched l h → Untouched l (other_gives a h).state
other-untouched l a h t u =
    record {
      fit = other_fits a h t u.fit;
      windows = by_answer (λ (k : Held). Windows l k.state.memory) a h u.windows (λ e. accepted-windows l h u a);
      zeros = by_answer (λ (k : Held). ZeroPage k.arena) a h u.zeros (accepted-zeros l h u a);
    }

run-untouched : (l : Layout) (n : ℕ) (lent : List Float) (h : Held) → Untouched l h → Untouched l (run_gives n lent h).state
unfolding run_gives
run-untouched l n lent h u =
    record { fit = run_fits n lent h u.fit; windows = rw (run-memory n lent h) u.windows; zeros = u.zeros }

kept : (l : Layout) → Kept board CallTyped (Untouched l)
kept l = record { run = λ n lent h t u. run-untouched l n lent h u; other = λ a h t u. other-untouched l a h t u }

-- ---- a read

shown-zero : (arena : List ℕ) → ZeroPage arena → (p : Page) (addr : ℕ) → p ≡ unmapped → get_or arena (shown_at p addr) 0 ≡ 0
shown-zero arena z p addr e = rw e (z (0 + addr % 1024) (omega arith))

-- at 6000 and above the board serves nothing
pub none-served : (n : Namco163) (addr : ℕ) → 0x6000 ≤ addr → served n addr ≡ None
unfolding served
none-served n addr lo =
    rw (le-ltb addr 0x4800 (omega arith), le-ltb addr 0x5000 (omega arith), le-ltb addr 0x5800 (omega arith), le-ltb addr 0x6000 lo)

read-zero : (l : Layout) (h : Held) → Untouched l h → NoWorkRam h.state.memory → (addr : ℕ) → 0x6000 ≤ addr → addr < 0x8000
    → (board.other (cpu_read addr) h).reply ≡ answered (byte 0)
unfolding answers checks
read-zero l h u bare addr lo hi =
    let at : 24 + (addr / 1024 - 24) ≡ addr / 1024 = omega arith in
    let entry : prg_entry h.state.memory addr ≡ unmapped = rw at at (bare (addr / 1024 - 24) (omega arith)) in
    let zero : prg_peek h.arena h.state.memory addr ≡ 0 = shown-zero h.arena u.zeros _ addr entry in
    rw (keeps-other (cpu_read addr) h, cpu-accepted h u.fit addr (omega arith), none-served h.state.chip addr lo, zero)

-- ---- from a load

-- R2: no byte is no page
no-pages : (s : MemoryLayout) → s.prg_ram ≡ 0 → (layout_of s).prg_ram ≡ 0
unfolding layout_of
no-pages s e = rw e

load_apart : (mapper : ℕ) (sizes : MemoryLayout) → LoadFits mapper sizes → TablesApart (memory_at_load mapper sizes)
unfolding memory_at_load
load_apart mapper sizes h = let q = new_apart sizes h.within in record { prg = q.prg; chr = q.chr }

load-windows : (l : Loaded) → Windows (layout_of l.sizes) (zeroed l).state.memory
unfolding fresh_state
load-windows l =
    let g = load-good l.mapper l.sizes (length l.arena) l.accepted in
    mapped-windows (layout_of l.sizes) l.options.f800_protects (chosen (chip_at_load l.mapper l.submapper l.flags l.known) l.options) _
    (ranged-load l.mapper l.sizes g.fits) (memory-load l.mapper l.sizes) (layout-load l.mapper l.sizes)
    (load_apart l.mapper l.sizes g.fits)

zeroed-untouched : (l : Loaded) → l.submapper < 2 ^ 8 → Untouched (layout_of l.sizes) (zeroed l)
zeroed-untouched l sub =
    record {
      fit = zeroed-fits l sub;
      windows = load-windows l;
      zeros = λ i b. each-replicate (λ (x : ℕ). x ≡ 0) (arena_len (layout_of l.sizes)) 0 0 refl refl i;
    }

load-untouched : (l : Loaded) → l.submapper < 2 ^ 8 → Untouched (layout_of l.sizes) (loaded l)
load-untouched l sub = rw (load-starts l) (zeroed-untouched l sub)

module _ (l : Loaded) (sub : l.submapper < 2 ^ 8) (calls : List (Call Float Other)) (t : AllTyped CallTyped calls) where
  untouched : Untouched (layout_of l.sizes) (observed board calls (loaded l)).state
  untouched = always board CallTyped (Untouched (layout_of l.sizes)) (kept (layout_of l.sizes)) calls (start (loaded l)) t
      (load-untouched l sub)

  -- the zero page is all zeros
  pub zero-page : ZeroPage (observed board calls (loaded l)).state.arena
  zero-page = untouched.zeros

  -- so a page that an unmapped entry shows reads 0, in either address space
  pub unmapped-reads : (addr : ℕ) → let h = (observed board calls (loaded l)).state in
      (prg_entry h.state.memory addr ≡ unmapped → prg_peek h.arena h.state.memory addr ≡ 0)
      × (chr_entry h.state.memory addr ≡ unmapped → chr_peek h.arena h.state.memory addr ≡ 0)
  unmapped-reads addr =
      let z = untouched.zeros in
      let h = (observed board calls (loaded l)).state in
      (shown-zero h.arena z (prg_entry h.state.memory addr) addr, shown-zero h.arena z (chr_entry h.state.memory addr) addr)

  -- without PRG-RAM the window at 6000 is unmapped
  pub window-unmapped : l.sizes.prg_ram ≡ 0 → NoWorkRam (observed board calls (loaded l)).state.state.memory
  window-unmapped e = untouched.windows.bare (no-pages l.sizes e)

  -- and a CPU read of 6000..7FFF answers 0
  pub work-ram-reads : l.sizes.prg_ram ≡ 0 → (addr : ℕ) → 0x6000 ≤ addr → addr < 0x8000
      → (board.other (cpu_read addr) (observed board calls (loaded l)).state).reply ≡ answered (byte 0)
  work-ram-reads e addr lo hi =
      read-zero (layout_of l.sizes) (observed board calls (loaded l)).state untouched (window-unmapped e) addr lo hi
