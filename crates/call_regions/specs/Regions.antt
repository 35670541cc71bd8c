-- CHR read and write, and regions: what each call answers and alters, refused calls too. A refused call's other answer fields are 0 (N21).
use Rattle.std.specs.Prelude.{ℕ, List, Result, length}
use Rattle.memory.specs.declared.layout.Src.{Src}
use Rattle.memory_bytes.specs.Bytes.{chr_peek, chr_write, region_peek, region_write, fill_region, sram_of}
use Rattle.board_state.specs.declared.State.{State}
use Rattle.call_answers.specs.Answers.{Peeked}
use Rattle.memory_bytes.specs.declared.bytes.Span.{Span}
use Rattle.refusals.specs.declared.Refusal.{Refusal}
use Rattle.refusals.specs.Refusal.{answered}
use Rattle.call_refusals.specs.Refusals.{unless_refused, unless_kept, state_checks, arena_checks, fill_checks}

-- ---- CHR read and write: M8, M9

unfoldable pub chr_read : State → List ℕ → ℕ → Peeked
chr_read s arena addr =
    unless_refused (arena_checks s (length arena)) (λ q. record { refusal = q; byte = 0 })
    (record { refusal = 0; byte = chr_peek arena s.memory addr })

-- the arena after a CHR write; its refusal number is the whole answer
unfoldable pub chr_write_arena : State → List ℕ → ℕ → ℕ → List ℕ
chr_write_arena s arena addr v = unless_kept (arena_checks s (length arena)) arena (chr_write arena s.memory addr v)

-- ---- regions: M10 to M13

-- M10: the lent bytes over the region's first ones
unfoldable pub fill_arena : State → List ℕ → Src → List ℕ → List ℕ
fill_arena s arena src bytes =
    unless_kept (fill_checks s (length arena) src (length bytes)) arena (fill_region arena s.memory src bytes)

-- M11: the byte at the offset's remainder by the region's length; in a region of no bytes 0, and no store
unfoldable pub region_read : State → List ℕ → Src → ℕ → Peeked
region_read s arena src offset =
    unless_refused (arena_checks s (length arena)) (λ q. record { refusal = q; byte = 0 })
    (record { refusal = 0; byte = region_peek arena s.memory src offset })

unfoldable pub region_write_arena : State → List ℕ → Src → ℕ → ℕ → List ℕ
region_write_arena s arena src offset v =
    unless_kept (arena_checks s (length arena)) arena (region_write arena s.memory src offset v)

-- N21: the answer of `sram`, and by what the function gives
pub record BatterySpan : Type 0 where
  pub refusal : ℕ
  pub start : ℕ
  pub len : ℕ

abbrev pub spanned : Result Span Refusal → BatterySpan
spanned =
    answered (λ q. record { refusal = q; start = 0; len = 0 }) (λ (p : Span). record { refusal = 0; start = p.start; len = p.len })

-- M13: where PRG-RAM begins, and its length plus the used battery bytes
unfoldable pub sram_answer : State → BatterySpan
sram_answer s =
    unless_refused (state_checks s) (λ q. record { refusal = q; start = 0; len = 0 })
    (record { refusal = 0; start = (sram_of s.memory).start; len = (sram_of s.memory).len })
