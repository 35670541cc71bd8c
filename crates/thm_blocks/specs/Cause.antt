-- K9: why a block goes, a constructor for each cause; and what a list is about: the block of a start, its bytes, and accepted calls.
use Rattle.std.specs.Prelude.{ℕ, zero, suc, ◌+◌, ◌/◌, ◌<◌, ◌≡◌, Bool, true, cond, List, [], ◌∷◌, eqb, get_or}
use Rattle.std.proofs.Math.Option.{Option, some, none}
use Rattle.memory.specs.declared.layout.Src.{Src}
use Rattle.memory.specs.Memory.{region_in}
use Rattle.memory.specs.Page.{unmapped, offset_of}
use Rattle.memory_bytes.specs.Bytes.{prg_entry, chr_entry, stored_at, wrapped_at}
use Rattle.call_refusals.specs.Refusals.{first_of}
use Rattle.call_cpu.specs.Calls.{cpu_byte, write_register}
use Rattle.directory.specs.Block.{start_of, len_of, under}
use Rattle.directory.specs.Fit.{fit}
use Rattle.directory.specs.Calls.{word_at}
use Rattle.thm_machine.specs.Calls.{Held, Other, cpu_read, cpu_peek, cpu_write, chr_read, chr_write, fill, region_peek, region_write, sram}
use Rattle.thm_machine.specs.Calls.{reset, sync_battery, restore_battery, write_image}
use Rattle.thm_blocks.specs.Calls.{HeldBlocks, BlockCall}
use Rattle.thm_blocks.specs.Paper.{block_checks}

-- K4: the word of the block that a lookup of a start hands out, or 0
abbrev pub word : ℕ → HeldBlocks → ℕ
word a h = cond (fit h.places) (word_at a h.places) 0

-- L8: the bytes that CPU peeks give from an address on
abbrev pub bytes_from : ℕ → ℕ → HeldBlocks → List ℕ
bytes_from zero a h = []
bytes_from (suc n) a h = cpu_byte h.held.state h.held.arena a ∷ bytes_from n (a + 1) h

-- K1: those of a block
abbrev pub bytes : ℕ → HeldBlocks → List ℕ
bytes w h = bytes_from (len_of w) (start_of w) h

-- N0
abbrev pub accepted : BlockCall → HeldBlocks → Bool
accepted a h = eqb (first_of (block_checks a h)) 0

-- K5: the arena byte that a write stores into, where it stores one
abbrev pub stores_at : Other → Held → Option ℕ
stores_at (cpu_read addr) h = none
stores_at (cpu_peek addr) h = none
stores_at (cpu_write addr v) h = stored_at (prg_entry h.state.memory addr) addr
stores_at (chr_read addr) h = none
stores_at (chr_write addr v) h = stored_at (chr_entry h.state.memory addr) addr
stores_at (fill src bytes) h = none
stores_at (region_peek src offset) h = none
stores_at (region_write src offset v) h = wrapped_at (region_in h.state.memory src) offset
stores_at sram h = none
stores_at (reset kind) h = none
stores_at sync_battery h = none
stores_at restore_battery h = none
stores_at (write_image buffer) h = none

-- K9: an accepted call is a cause for the block of a start and a length to go where
-- - it is a CPU write, and the entry of a CPU page under the block becomes another number;
-- - it is a CPU, CHR or region write that stores into an arena page that such an entry shows;
-- - it is a fill, or a battery sync
pub data Cause (a : Other) (h : HeldBlocks) (start len : ℕ) : Type 0 where
  entry : (addr v k : ℕ) → a ≡ cpu_write addr v → k < 64 → under start len k ≡ true
      → ((get_or (write_register h.held.state addr v).memory.prg_pages k unmapped).0
      ≡ (get_or h.held.state.memory.prg_pages k unmapped).0 → ⊥) → Cause a h start len
  stored : (i k : ℕ) → stores_at a h.held ≡ some i → k < 64 → under start len k ≡ true
      → offset_of (get_or h.held.state.memory.prg_pages k unmapped) / 1024 ≡ i / 1024 → Cause a h start len
  filled : (src : Src) (bytes : List ℕ) → a ≡ fill src bytes → Cause a h start len
  synced : a ≡ sync_battery → Cause a h start len
