-- What agreement is: the board's answers, entries and sound beside the wiki's machine, with the departures as conditions on what is noted.
use Rattle.std.specs.Prelude.{ℕ, ◌+◌, ◌*◌, ◌/◌, ◌%◌, ◌≤◌, ◌<◌, ◌≡◌, Bool, true, false, cond, List, Float, ℤ, pos, negsuc, ◌+ℤ◌, length, get_or}
use Rattle.std.specs.Float.{nan}
use Rattle.memory.specs.declared.mirroring.Mirroring.{Mirroring}
use Rattle.memory.specs.Memory.{region_in}
use Rattle.memory.specs.declared.layout.Src.TheVariants.{CiRam}
use Rattle.memory.specs.Page.{unmapped}
use Rattle.memory_map.specs.Mirroring.{ciram_banks, nametable_page}
use Rattle.sound.specs.declared.audio.Audio.{Audio}
use Rattle.sound.specs.Levels.{whole_z}
use Rattle.board_prg.specs.Banks.{mirroring_e000}
use Rattle.board_state.specs.declared.State.{State}
use Rattle.call_cpu.specs.Calls.{cpu_byte}
use Rattle.call_refusals.specs.Refusals.{first_of}
use Rattle.call_run.specs.Clock.{state_clock}
use Rattle.call_run.specs.Run.{run_checks, run_gave}
use Rattle.thm_wiki.specs.Registers.{WikiRegs, wiki_bit, wiki_shows, wiki_shows210, wiki_prg_page, wiki_unprotected}
use Rattle.thm_wiki.specs.Registers.{wiki_ram_enabled, wiki_mirroring}
use Rattle.thm_wiki.specs.Counter.{WikiIrq, wiki_rises, wiki_rise_in, wiki_read_low, wiki_read_high}
use Rattle.thm_wiki.specs.Sound.{WikiSound, wiki_base, wiki_phase}
use Rattle.thm_wiki.specs.Port.{wiki_byte}
use Rattle.thm_wiki.specs.Notes.{Noted, Steady, is_phase}
use Rattle.thm_wiki.specs.Shown.{slot_shows, entry_of, prg_entry, ram_entry}

-- ---- the CPU's windows: W1, W11

pub record PrgAgrees (w : WikiRegs) (s : State) : Type 0 where
  -- 8000, A000 and C000, by k from 0, and the last bank at E000
  pub switched : (k : ℕ) → k < 3 → (i : ℕ) → i < 8
      → get_or s.memory.prg_pages (32 + 8 * k + i) unmapped ≡ prg_entry s.memory (pos (wiki_prg_page w k)) i
  pub last : (i : ℕ) → i < 8 → get_or s.memory.prg_pages (56 + i) unmapped ≡ prg_entry s.memory (negsuc 0) i

-- W1, W12, W14: work RAM at 6000, each KiB with or without stores, or none of it
abbrev pub RamBy : State → Bool → (ℕ → Bool) → Type 0
RamBy s shown writable = (i : ℕ) → i < 8 → get_or s.memory.prg_pages (24 + i) unmapped ≡ ram_entry s.memory shown (writable i) i

abbrev pub RamIs : State → Bool → Bool → Type 0
RamIs s shown writable = RamBy s shown (λ i. writable)

-- ---- the PPU's windows of a 163: W2, W8 to W10

pub record ChrAgrees (x : Noted) (s : State) : Type 0 where
  -- a window is the wiki's where its select bit is as it was when the window was last written, or its value is less than E0
  pub windows : (k : ℕ) → k < 12 → Steady x k
      → get_or s.memory.chr_pages k unmapped ≡ entry_of s.memory (wiki_shows x.machine.regs k)
  -- the nametables are there again at 3000
  pub again : (k : ℕ) → k < 4 → Steady x (8 + k)
      → get_or s.memory.chr_pages (12 + k) unmapped ≡ entry_of s.memory (wiki_shows x.machine.regs (8 + k))
  -- and where it is not so the slot selects another page than the wiki's
  pub only : (k : ℕ) → k < 12 → slot_shows s.chip k ≡ wiki_shows x.machine.regs k → Steady x k

-- ---- the counter: W4 to W6

pub record CounterAgrees (w : WikiIrq) (s : State) : Type 0 where
  -- what a CPU read answers
  pub low : (arena : List ℕ) (a : ℕ) → 0x5000 ≤ a → a < 0x5800 → cpu_byte s arena a ≡ wiki_read_low w
  pub high : (arena : List ℕ) (a : ℕ) → 0x5800 ≤ a → a < 0x6000 → cpu_byte s arena a ≡ wiki_read_high w
  -- the line; whether the next clock is a rise; and which clock of an accepted run is
  pub line : s.chip.regs.irq_pending ≡ w.raised
  pub rise : (state_clock s).rise ≡ wiki_rises w
  pub run : (n : ℕ) (lent : List Float) → first_of (run_checks s n (length lent)) ≡ 0 → (run_gave s n lent).rise ≡ wiki_rise_in n 0 w

-- ---- the sound: W15 to W20

-- what a channel put out last: the wiki's level itself where levels are signed (S14); departure from W20: where they wrap, that and what is
-- noted above it
abbrev pub PutOut : Bool → ℤ → ℕ → Float → Type 0
PutOut signed out above x = x ≡ whole_z (cond signed out (out +ℤ pos above))

-- the RAM but for the phases, and the phases; `changed`: one was changed by the port or by a restore
pub record RamAgrees (wiki : List ℕ) (changed : Bool) (ram phases : List ℕ) : Type 0 where
  pub others : (j : ℕ) → is_phase j ≡ false → get_or wiki j 0 ≡ get_or ram j 0
  pub phase : changed ≡ false → (k : ℕ) → k < 8 → wiki_phase wiki (wiki_base k) ≡ get_or phases k 0

pub record SoundAgrees (w : WikiSound) (changed : Bool) (above : List ℕ) (stray : List Bool) (a : Audio) : Type 0 where
  pub ram : RamAgrees w.ram changed a.ram a.phase_ext
  -- the port
  pub port : (a.addr ≡ w.addr) × (a.auto_increment ≡ w.auto)
  -- which channel is updated when: whether the sound is off, the cycles since the last update, whose turn it is
  pub turn : (a.disabled ≡ w.silent) × ((a.update_counter ≡ w.timer) × (a.current_channel ≡ w.turn))
  -- what each channel put out
  pub outs : (k : ℕ) → k < 8 → get_or stray k false ≡ false
      → PutOut a.signed_levels (get_or w.outs k (pos 0)) (get_or above k 0) (get_or a.channel_out k nan)

-- what a CPU read of the data port answers, where the address is that of no phase
abbrev pub PortAnswers : WikiSound → State → Type 0
PortAnswers w s = (arena : List ℕ) (a : ℕ) → 0x4800 ≤ a → a < 0x5000 → is_phase w.addr ≡ false → cpu_byte s arena a ≡ wiki_byte w

-- ---- the boards

pub record Agrees163 (x : Noted) (s : State) : Type 0 where
  pub prg : PrgAgrees x.machine.regs s
  pub chr : ChrAgrees x s
  -- W12: each part of 2 KiB takes stores as F800 says, in the edition where it protects; departure from W12: in the other edition all takes
  -- stores whatever F800 says
  pub ram : RamBy s true (λ i. cond s.f800_protects (wiki_unprotected x.machine.regs (i / 2)) true)
  pub counter : CounterAgrees x.machine.irq s
  pub sound : SoundAgrees x.machine.sound x.notes.phases x.notes.above x.notes.stray s.chip.audio
  pub port : PortAnswers x.machine.sound s

-- W13: the windows of mapper 210
pub record Agrees210 (x : Noted) (s : State) : Type 0 where
  pub prg : PrgAgrees x.machine.regs s
  pub chr : (k : ℕ) → k < 8 → get_or s.memory.chr_pages k unmapped ≡ entry_of s.memory (wiki_shows210 x.machine.regs k)
  -- departure from W13: the counter is there as on a 163, and the data port too, which reads and writes byte 0 of the RAM and no other
  pub counter : CounterAgrees x.machine.irq s
  pub address : (s.chip.audio.addr ≡ 0) × (s.chip.audio.auto_increment ≡ false)
  pub port : (arena : List ℕ) (a : ℕ) → 0x4800 ≤ a → a < 0x5000 → cpu_byte s arena a ≡ get_or s.chip.audio.ram 0 0

-- the nametables by a mirroring
abbrev pub MirroredBy : State → Mirroring → Type 0
MirroredBy s m = (i : ℕ) → i < 8
    → get_or s.memory.chr_pages (8 + i) unmapped ≡ nametable_page (region_in s.memory CiRam) (get_or (ciram_banks m) (i % 4) 0)

pub record Agrees175 (mirroring : Mirroring) (x : Noted) (s : State) : Type 0 where
  pub both : Agrees210 x s
  -- W14: the mirroring is wired: the load's
  pub wired : MirroredBy s mirroring
  -- departure from W14: work RAM is shown always, and what gates its stores is bit 0 of the value last written to C000..DFFF, which is the
  -- wiki's enable where that write was to C000..C7FF
  pub ram : RamIs s true (wiki_bit 0 x.notes.enable)
  pub gate : x.notes.past ≡ false → wiki_bit 0 x.notes.enable ≡ wiki_ram_enabled x.machine.regs

-- W14: a 340's mirroring by bits 6 and 7 of E000, and before any write the load's; which bits are which is the board's reading
abbrev pub selected_by : Mirroring → Noted → Mirroring
selected_by mirroring x = cond x.notes.mirrored (mirroring_e000 (wiki_mirroring x.machine.regs * 64)) mirroring

pub record Agrees340 (mirroring : Mirroring) (x : Noted) (s : State) : Type 0 where
  pub both : Agrees210 x s
  pub selected : MirroredBy s (selected_by mirroring x)
  -- W14: no work RAM
  pub ram : RamIs s false false
