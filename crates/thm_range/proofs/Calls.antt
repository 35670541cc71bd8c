-- Every call keeps state and arena fit, refused ones too: one theorem over the calls of a list, and the run beside it. A fresh load is fit.
use Prim.Native.Nat.{ℕ, zero, suc, ◌+◌, ◌/◌, ◌%◌, ◌^◌, ◌≤◌, ◌<◌}
use mathlib.Core.Path.{◌≡◌, refl, ◌∙◌}
use mathlib.Core.Bool.{Bool, true, false, cond}
use mathlib.Core.List.{List, [], ◌∷◌, ◌++◌}
use mathlib.Core.Logic.{◌⊎◌, inl, inr}
use mathlib.Core.Option.{Option, some, none}
use native.Mathlib.Omega.{arith}
use borrow.Author.Rules.{rules}
use borrow.Author.Tests.{not-false, eqb-true, eq-eqb, le-ltb}
use lib.Dec.{eqb}
use lib.Ieee.{Float}
use lib.ListN.{length, length-replicate, length-drop, take, drop}
use lib.Seq.{length-take-le, get_or-drop}
use Rattle.cut.specs.Machine.{Answered, plainly, ticks}
use Rattle.cut.specs.Contract.{run_by}
use Rattle.cut.proofs.Machine.{state-more}
use Rattle.limits.proofs.Each.{cond-holds, below_set, each-replicate}
use Rattle.memory.specs.declared.Memory.{Memory}
use Rattle.memory.specs.declared.layout.MemoryLayout.{MemoryLayout}
use Rattle.memory.specs.declared.layout.Src.{Src}
use Rattle.memory.specs.declared.layout.Src.TheVariants.{BatteryExt}
use Rattle.memory.specs.Changes.{prg_changes, changes}
use Rattle.memory.specs.Layout.{layout_of, arena_len}
use Rattle.memory.specs.Memory.{region_in}
use Rattle.memory.specs.Range.{Ranged, MemoryInRange, UsedIn, MemoryTyped, Bytes}
use Rattle.memory_map.specs.Mirroring.{set_mirroring}
use Rattle.memory_map.specs.New.{unmapped_memory, new_memory}
use Rattle.memory_map.proofs.Laws.Memory.{ranged-new, typed-new}
use Rattle.memory_bytes.specs.Bytes.{store, stored_at, wrapped_at, overlay, fill_region, prg_entry, chr_entry}
use Rattle.memory_bytes.proofs.Laws.Bytes.{store_length, overlay-length, region-backed}
use Rattle.sound.specs.Audio.{with_ram}
use Rattle.sound.proofs.registers.Range.{ram-range, ram-typed}
use Rattle.board_chip.specs.declared.namco163.Namco163.{Namco163}
use Rattle.board_chip.specs.Load.{chip_at_load}
use Rattle.board_chip.specs.Namco163.{with_audio}
use Rattle.board_registers.specs.Writes.{write_chip}
use Rattle.board_protection.specs.Protection.{remap_banks, remaps_in}
use Rattle.board_state.specs.declared.Options.{Options}
use Rattle.board_state.specs.declared.State.{State}
use Rattle.board_state.specs.State.{mapper_ok, Known, with_chip}
use Rattle.board_state.proofs.Range.{mapper-in, known-passes}
use Rattle.call_refusals.specs.Refusals.{first_of, cpu_checks, reset_checks, load_checks}
use Rattle.call_refusals.proofs.Laws.{accepted-none, fill-good, battery-good, backed}
use Rattle.call_cpu.specs.Calls.{WriteAnswer}
use Rattle.call_cpu.specs.Calls.{write_register, cpu_write as cpu_write_gives}
use Rattle.call_reset.specs.Reset.{kind_of}
use Rattle.call_battery.specs.Battery.{battery_bytes}
use Rattle.call_load.specs.Cartridge.{LoadFits, memory_at_load, chosen, fresh_state}
use Rattle.call_load.proofs.Laws.{sized-load, load-good}
use Rattle.call_run.specs.Clock.{state_clock}
use Rattle.call_run.specs.Run.{clocks, run_checks, run_gave}
use Rattle.thm_machine.specs.Calls.{Held, Other, cpu_read, cpu_peek, cpu_write, chr_read, chr_write, fill, region_peek, region_write, sram, reset}
use Rattle.thm_machine.specs.Calls.{sync_battery, restore_battery, write_image, Answer, ArgTyped}
use Rattle.thm_machine.specs.Paper.{checks, answers}
use Rattle.thm_machine.specs.Board.{other_gives, run_gives}
use Rattle.thm_machine.specs.Start.{Loaded, loaded, zeroed}
use Rattle.thm_machine.proofs.Keeps.{keeps-other}
use Rattle.thm_machine.proofs.Start.{load-starts}
use Rattle.thm_steps.proofs.Chip.{Keeps, keeps-audio, after-read-keeps, write_keeps, reset-keeps, load_typed, load-in-range}
use Rattle.thm_steps.proofs.Banking.{Kept, kept_self, mask-multiple}
use Rattle.thm_steps.proofs.Protection.{remap-banks-ranged, remap-banks-kept}
use Rattle.thm_steps.proofs.Clock.{chip-clock-keeps}
use Rattle.thm_range.specs.Fit.{Fit}

-- ---- a state by its chip and its memory

-- mapping anew, or not
record Stays (m k : Memory) : Type 0 where
  ranged : Ranged m → Ranged k
  kept : Kept m k

stays : (m : Memory) → Stays m m
stays m = record { ranged = λ r. r; kept = kept_self m }

mapped : (protects : Bool) (n : Namco163) (m : Memory) → Stays m (remap_banks protects n m)
mapped protects n m = record { ranged = remap-banks-ranged protects n m; kept = remap-banks-kept protects n m }

memory-range : (m k : Memory) → Stays m k → MemoryInRange m → MemoryInRange k
memory-range m k q h = record { ranged = q.ranged h.ranged; used = rw (q.kept.used, q.kept.layout) h.used }

known-after : (s t : State) → Keeps s.chip t.chip → Stays s.memory t.memory → Known s → Known t
known-after s t k q y =
    let chip = y.typed.chip in
    record {
      typed = record { chip = k.typed chip; memory = q.kept.typed y.typed.memory };
      range = record { chip = k.range chip y.range.chip; memory = memory-range s.memory t.memory q y.range.memory };
    }

fit-state : (h : Held) (t : State) → Keeps h.state.chip t.chip → Stays h.state.memory t.memory → Fit h
    → Fit (record { state = t; arena = h.arena })
fit-state h t k q f =
    record { known = known-after h.state t k q f.known; long = rw q.kept.layout f.long; bytes = f.bytes }

-- the same memory
fit-chip : (h : Held) (n : Namco163) → Keeps h.state.chip n → Fit h → Fit (record { state = with_chip h.state n; arena = h.arena })
fit-chip h n k f = fit-state h (with_chip h.state n) k (stays h.state.memory) f

-- ---- an arena as long as before, and of bytes

record Whole (arena after : List ℕ) : Type 0 where
  long : length after ≡ length arena
  bytes : Bytes after

fit-arena : (h : Held) (after : List ℕ) → Whole h.arena after → Fit h → Fit (record { state = h.state; arena = after })
fit-arena h after w f = record { known = f.known; long = w.long ∙ f.long; bytes = w.bytes }

store-whole : (arena : List ℕ) (at : Option ℕ) (v : ℕ) → v < 256 → Bytes arena → Whole arena (store arena at v)
store-whole arena none v h b = record { long = refl; bytes = b }
store-whole arena (some i) v h b = record { long = store_length arena (some i) v; bytes = below_set arena i v 256 b h }

-- bytes in a row
bytes-append : (a b : List ℕ) → Bytes a → Bytes b → Bytes (a ++ b)
bytes-append [] b p q i = q i
bytes-append (x ∷ a) b p q zero = p 0
bytes-append (x ∷ a) b p q (suc i) = bytes-append a b (λ j. p (suc j)) q i

bytes_drop : (n : ℕ) (a : List ℕ) → Bytes a → Bytes (drop n a)
bytes_drop n a p i = rw (get_or-drop n a i 0) (p (n + i))

bytes_take : (n : ℕ) (a : List ℕ) → Bytes a → Bytes (take n a)
bytes_take zero a p i = omega arith
bytes_take (suc n) [] p i = omega arith
bytes_take (suc n) (x ∷ a) p zero = p 0
bytes_take (suc n) (x ∷ a) p (suc i) = bytes_take n a (λ j. p (suc j)) i

overlay-whole : (arena : List ℕ) (at : ℕ) (bytes : List ℕ) → at + length bytes ≤ length arena → Bytes bytes → Bytes arena
    → Whole arena (overlay arena at bytes)
overlay-whole arena at bytes h p q =
    record {
      long = overlay-length arena at bytes h;
      bytes =
          bytes-append (take at arena ++ bytes) (drop (at + length bytes) arena)
          (bytes-append (take at arena) bytes (bytes_take at arena q) p)
          (bytes_drop (at + length bytes) arena q);
    }

-- ---- the accepted calls that alter something

register-stays : (s : State) (addr v : ℕ) → Stays s.memory (write_register s addr v).memory
unfolding write_register
register-stays s addr v =
    let n = write_chip s.chip addr v in
    let protects = s.f800_protects in
    cond-holds (Stays s.memory) (remaps_in protects s.chip.board n.board addr) _ _ (mapped protects n s.memory)
    (stays s.memory)

register-keeps : (s : State) (addr v : ℕ) → v < 256 → Keeps s.chip (write_register s addr v).chip
unfolding write_register
register-keeps s addr v b = write_keeps s.chip addr v b

register-fits : (h : Held) (addr v : ℕ) → v < 256 → Fit h → Fit (record { state = write_register h.state addr v; arena = h.arena })
register-fits h addr v b f = fit-state h _ (register-keeps h.state addr v b) (register-stays h.state addr v) f

fill-fits : (h : Held) (src : Src) (bytes : List ℕ) → Bytes bytes → Fit h → first_of (checks (fill src bytes) h) ≡ 0
    → Fit (record { state = h.state; arena = fill_region h.arena h.state.memory src bytes })
unfolding checks fill_region
fill-fits h src bytes p f e =
    let g = fill-good h.state (length h.arena) src (length bytes) e in
    let inside = region-backed h.state.memory h.arena (backed h.state h.arena g.0) src in
    fit-arena h _ (overlay-whole h.arena (region_in h.state.memory src).start bytes (omega (arith, inside, g.1)) p f.bytes) f

sync-fits : (h : Held) → Fit h → first_of (checks sync_battery h) ≡ 0
    → let at = (region_in h.state.memory BatteryExt).start in
    Fit (record { state = h.state; arena = overlay h.arena at h.state.chip.audio.ram })
unfolding checks
sync-fits h f e =
    let g = battery-good h.state (length h.arena) e in
    let y = f.known.typed.chip.audio in
    let at = (region_in h.state.memory BatteryExt).start in
    fit-arena h _
    (overlay-whole h.arena at h.state.chip.audio.ram (omega (arith, g.inside, y.ram_length)) y.bytes f.bytes) f

restore-fits : (h : Held) → Fit h → first_of (checks restore_battery h) ≡ 0
    → let n = h.state.chip in
    Fit (record { state = with_chip h.state (with_audio n (with_ram n.audio (battery_bytes h.state h.arena))); arena = h.arena })
unfolding checks
restore-fits h f e =
    let g = battery-good h.state (length h.arena) e in
    let at = (region_in h.state.memory BatteryExt).start in
    let ram = battery_bytes h.state h.arena in
    let long : length ram ≡ 128 =
    length-take-le 128 (drop at h.arena) (rw (length-drop at h.arena) (omega (arith, g.inside))) in
    let n = h.state.chip in
    fit-chip h _
    (keeps-audio n (with_ram n.audio ram)
    (ram-typed n.audio ram long (bytes_take 128 (drop at h.arena) (bytes_drop at h.arena f.bytes)))
    (λ t. ram-range n.audio ram))
    f

-- L15: bits 0..23 of the PRG mask are clear, from any state, refused or not
pub cpu-write-mask : (s : State) (arena : List ℕ) (addr v : ℕ) → (cpu_write_gives s arena addr v).changed.prg.mask % 2 ^ 24 ≡ 0
unfolding cpu_write_gives changes prg_changes
cpu-write-mask s arena addr v =
    cond-holds (λ (w : WriteAnswer). w.changed.prg.mask % 2 ^ 24 ≡ 0) (eqb (first_of (cpu_checks s (length arena) addr)) 0) _ _
    (mask-multiple 24 s.memory.prg_pages (write_register s addr v).memory.prg_pages (register-stays s addr v).kept.low) refl

-- from a fit state a CPU call at 4800 or above is accepted, and so is a reset of kind 0 or 1
pub cpu-accepted : (h : Held) → Fit h → (addr : ℕ) → 0x4800 ≤ addr → first_of (cpu_checks h.state (length h.arena) addr) ≡ 0
unfolding first_of
cpu-accepted h f addr lo =
    rw (known-passes h.state f.known, eq-eqb (length h.arena) (arena_len h.state.memory.layout) f.long, le-ltb addr 0x4800 lo)

pub reset-accepted : (h : Held) → Fit h → (kind : ℕ) → kind ≤ 1 → first_of (reset_checks h.state kind) ≡ 0
unfolding first_of
reset-accepted h f kind small = rw (known-passes h.state f.known, le-ltb 1 kind small)

-- ---- every call of a list

accepted-fits : (a : Other) (h : Held) → ArgTyped a → Fit h → first_of (checks a h) ≡ 0 → Fit (answers a h).state
unfolding answers
accepted-fits (cpu_read addr) h t f e = fit-chip h _ (after-read-keeps h.state.chip addr) f
accepted-fits (cpu_peek addr) h t f e = f
accepted-fits (cpu_write addr v) h t f e =
    let m = h.state.memory in
    fit-arena (record { state = write_register h.state addr v; arena = h.arena }) _
    (store-whole h.arena (stored_at (prg_entry m addr) addr) v t f.bytes) (register-fits h addr v t f)
accepted-fits (chr_read addr) h t f e = f
accepted-fits (chr_write addr v) h t f e =
    fit-arena h _ (store-whole h.arena (stored_at (chr_entry h.state.memory addr) addr) v t f.bytes) f
accepted-fits (fill src bytes) h t f e = fill-fits h src bytes t f e
accepted-fits (region_peek src offset) h t f e = f
accepted-fits (region_write src offset v) h t f e =
    fit-arena h _ (store-whole h.arena (wrapped_at (region_in h.state.memory src) offset) v t f.bytes) f
accepted-fits sram h t f e = f
accepted-fits (reset kind) h t f e = fit-chip h _ (reset-keeps h.state.chip (kind_of kind)) f
accepted-fits sync_battery h t f e = sync-fits h f e
accepted-fits restore_battery h t f e = restore-fits h f e
accepted-fits (write_image buffer) h t f e = f

by_number : (P : Held → Type 0) (q : ℕ) (b : Answered Held Answer) (h : Held) → P h → (q ≡ 0 → P b.state) → P (plainly q b h).state
by_number P zero b h f g = g refl
by_number P (suc q) b h f g = f

-- what holds before a call, and after it where it is accepted, holds after it
pub by_answer : (P : Held → Type 0) (a : Other) (h : Held) → P h → (first_of (checks a h) ≡ 0 → P (answers a h).state)
    → P (other_gives a h).state
by_answer P a h f g = rw (keeps-other a h) (by_number P (first_of (checks a h)) (answers a h) h f g)

pub other_fits : (a : Other) (h : Held) → ArgTyped a → Fit h → Fit (other_gives a h).state
other_fits a h t f = by_answer Fit a h f (accepted-fits a h t f)

-- ---- the run

pub clock-known : (s : State) → Known s → Known (state_clock s).state
unfolding state_clock
clock-known s k = known-after s _ (chip-clock-keeps s.chip) (stays s.memory) k

pub clocks-known : (n : ℕ) (s : State) → Known s → Known (clocks n s).state
unfolding ticks
clocks-known zero s k = k
clocks-known (suc n) s k = rw (state-more state_clock n s) (clock-known (clocks n s).state (clocks-known n s k))

pub clocks-memory : (n : ℕ) (s : State) → (clocks n s).state.memory ≡ s.memory
unfolding ticks state_clock
clocks-memory zero s = refl
clocks-memory (suc n) s = rw (state-more state_clock n s) (clocks-memory n s)

pub run_fits : (n : ℕ) (lent : List Float) (h : Held) → Fit h → Fit (run_gives n lent h).state
unfolding run_gives run_gave
run_fits n lent h f = go (first_of (run_checks h.state n (length lent)))
  where
    go : (q : ℕ) → Fit (record { state = (run_by q (clocks n h.state) lent h.state).state; arena = h.arena })
    go zero = record { known = clocks-known n h.state f.known; long = rw (clocks-memory n h.state) f.long; bytes = f.bytes }
    go (suc q) = f

-- C1: a run leaves the memory, accepted or not
pub run-memory : (n : ℕ) (lent : List Float) (h : Held) → (run_gives n lent h).state.state.memory ≡ h.state.memory
unfolding run_gives run_gave
run-memory n lent h = go (first_of (run_checks h.state n (length lent)))
  where
    go : (q : ℕ) → (run_by q (clocks n h.state) lent h.state).state.memory ≡ h.state.memory
    go zero = clocks-memory n h.state
    go (suc q) = refl

-- ---- load

pub ranged-load : (mapper : ℕ) (sizes : MemoryLayout) → LoadFits mapper sizes → Ranged (memory_at_load mapper sizes)
unfolding memory_at_load
ranged-load mapper sizes h =
    let r = ranged-new sizes h.within in record { sized = sized-load mapper sizes h; prg = r.prg; chr = r.chr }

used-load : (mapper : ℕ) (sizes : MemoryLayout) → LoadFits mapper sizes
    → UsedIn (memory_at_load mapper sizes).battery_ext_len (memory_at_load mapper sizes).layout
unfolding memory_at_load new_memory set_mirroring unmapped_memory layout_of
used-load mapper sizes h = go (eqb mapper 19) refl
  where
    go : (t : Bool) → eqb mapper 19 ≡ t
        → (◌≡◌ {A = ℕ} (cond t 128 0) 0) ⊎ ((◌≡◌ {A = ℕ} (cond t 128 0) 128) × (1 ≤ (sizes.battery_ext + 1023) / 1024))
    go true e = let r = h.reserve (eqb-true mapper 19 e) in inr (refl, omega arith)
    go false e = inl refl

pub memory-load : (mapper : ℕ) (sizes : MemoryLayout) → MemoryTyped (memory_at_load mapper sizes)
unfolding memory_at_load
memory-load mapper sizes =
    let z = typed-new sizes in
    record { prg = z.prg; chr = z.chr; prg_words = z.prg_words; chr_words = z.chr_words }

pub layout-load : (mapper : ℕ) (sizes : MemoryLayout) → (memory_at_load mapper sizes).layout ≡ layout_of sizes
unfolding memory_at_load new_memory set_mirroring unmapped_memory
layout-load mapper sizes = refl

-- R8: a CPU write and a load keep the page counts
pub register-layout : (s : State) (addr v : ℕ) → (write_register s addr v).memory.layout ≡ s.memory.layout
register-layout s addr v = (register-stays s addr v).kept.layout

pub fresh-layout : (mapper sub flags : ℕ) (known : Bool) (sizes : MemoryLayout) (options : Options)
    → (fresh_state mapper sub flags known sizes options).memory.layout ≡ layout_of sizes
unfolding fresh_state
fresh-layout mapper sub flags known sizes options =
    (mapped options.f800_protects (chosen (chip_at_load mapper sub flags known) options) (memory_at_load mapper sizes)).kept.layout
    ∙ layout-load mapper sizes

pub zeroed-fits : (l : Loaded) → l.submapper < 2 ^ 8 → Fit (zeroed l)
unfolding fresh_state
zeroed-fits l sub =
    let mapper = l.mapper in let sizes = l.sizes in
    let h = accepted-none (load_checks mapper sizes (length l.arena)) (search rules) l.accepted in
    let g = load-good mapper sizes (length l.arena) l.accepted in
    let m = memory_at_load mapper sizes in
    let signed = l.options.signed_levels in let plain = l.options.plain_sum in
    let q = mapped l.options.f800_protects (chosen (chip_at_load mapper l.submapper l.flags l.known) l.options) m in
    let number = mapper-in mapper (not-false (mapper_ok mapper) h.0) in
    record {
      known =
          record {
            typed =
                record {
                  chip = load_typed mapper l.submapper l.flags l.known signed plain g.small sub;
                  memory = q.kept.typed (memory-load mapper sizes);
                };
            range =
                record {
                  chip = load-in-range mapper l.submapper l.flags l.known signed plain number;
                  memory = memory-range m _ q
                      (record { ranged = ranged-load mapper sizes g.fits; used = used-load mapper sizes g.fits });
                };
          };
      long = rw (q.kept.layout, layout-load mapper sizes) (length-replicate (arena_len (layout_of sizes)) 0);
      bytes = each-replicate (λ (x : ℕ). x < 256) (arena_len (layout_of sizes)) 0 0 (omega arith) (omega arith);
    }

-- a fresh load is fit, with an arena of zeros as long as its layout says; the submapper's type is a byte
pub load_fits : (l : Loaded) → l.submapper < 2 ^ 8 → Fit (loaded l)
load_fits l sub = rw (load-starts l) (zeroed-fits l sub)
