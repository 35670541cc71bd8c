-- R6: page entries, the Rust's `Page`.
use Rattle.std.specs.Prelude.{ℕ, ◌+◌, ◌/◌, ◌%◌, ◌^◌, Bool, cond, eqb}
use Rattle.memory.specs.declared.page.Page.{Page}

-- whether bit k of a number is set
abbrev pub has_bit : ℕ → ℕ → Bool
has_bit k n = eqb (n / 2 ^ k % 2) 1

-- R7: the unmapped entry (`Page::UNMAPPED`)
abbrev pub unmapped : Page
unmapped = record { 0 = 0 }

-- R6: the offset in bits 0..29, the flag in bit 31 (`Page::new`)
abbrev pub page_of : ℕ → Bool → Page
page_of o w = record { 0 = cond w (2 ^ 31) 0 + o % 2 ^ 30 }

-- `Page::offset`
abbrev pub offset_of : Page → ℕ
offset_of p = p.0 % 2 ^ 30

-- `Page::is_writable`
abbrev pub writable_of : Page → Bool
writable_of p = has_bit 31 p.0
