-- The outside definition of the interrupt counter: W4 to W6.
use Rattle.std.specs.Prelude.{ℕ, zero, suc, ◌+◌, ◌*◌, ◌/◌, ◌%◌, Bool, true, false, cond, ◌&&◌, ◌||◌, eqb, ltb}
use Rattle.thm_wiki.specs.Registers.{wiki_bit}

pub record WikiIrq : Type 0 where
  pub count : ℕ
  pub enabled : Bool
  pub raised : Bool

abbrev pub no_irq : WikiIrq
no_irq = record { count = 0; enabled = false; raised = false }

-- W5: one CPU cycle
unfoldable pub wiki_cycle : WikiIrq → WikiIrq
wiki_cycle w =
    cond (w.enabled && ltb w.count 0x7FFF)
    (record { count = w.count + 1; enabled = true; raised = eqb (w.count + 1) 0x7FFF || w.raised })
    w

-- W5: whether the next cycle reaches 7FFF; and which of n cycles does, k being those before them, or 0 where none does
abbrev pub wiki_rises : WikiIrq → Bool
wiki_rises w = w.enabled && eqb (w.count + 1) 0x7FFF

unfoldable pub wiki_rise_in : ℕ → ℕ → WikiIrq → ℕ
wiki_rise_in zero k w = 0
wiki_rise_in (suc n) k w = cond (wiki_rises w) (k + 1) (wiki_rise_in n (k + 1) (wiki_cycle w))

-- W4: the two bytes, read
abbrev pub wiki_read_low : WikiIrq → ℕ
wiki_read_low w = w.count % 256

abbrev pub wiki_read_high : WikiIrq → ℕ
wiki_read_high w = cond w.enabled 128 0 + w.count / 256

-- W4, W6: the two bytes, written
unfoldable pub wiki_write_low : WikiIrq → ℕ → WikiIrq
wiki_write_low w v = record { count = w.count / 256 * 256 + v; enabled = w.enabled; raised = false }

unfoldable pub wiki_write_high : WikiIrq → ℕ → WikiIrq
wiki_write_high w v = record { count = v % 128 * 256 + w.count % 256; enabled = wiki_bit 7 v; raised = false }

unfoldable pub irq_write : WikiIrq → ℕ → ℕ → WikiIrq
irq_write w a v = cond (ltb a 0x5000) w (cond (ltb a 0x5800) (wiki_write_low w v) (cond (ltb a 0x6000) (wiki_write_high w v) w))
