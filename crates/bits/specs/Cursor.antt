-- H1: a place in a slice of bytes, in bits, and the bits before it as one number.
use Rattle.std.specs.Prelude.{◌≡◌, List, ℕ, ◌+◌, ◌*◌, ◌^◌, ◌/◌, ◌%◌, ◌≤◌, ◌<◌, length, take, drop}
use Rattle.bits.specs.Fields.{total, after, Fit}
use Rattle.bits.specs.Words.{word_of}
use Rattle.bits.specs.declared.cursor.Cursor.{Cursor}

-- a writer holds fewer than 8 bits, and no more than they say
pub record Held (w : Cursor) : Type 0 where
  pub few : w.n < 8
  pub small : w.acc < 2 ^ w.n

-- the bits written: the bytes stored, then those that are held
unfoldable pub bits_written : List ℕ → Cursor → ℕ
bits_written img w = word_of (take w.at img) * 2 ^ w.n + w.acc

-- Fields of widths ws and values vs were written. This gives each byte: those before the cursor by `bits`, the rest by `rest`.
pub record Wrote (img img' : List ℕ) (w w' : Cursor) (ws vs : List ℕ) : Type 0 where
  pub held : Held w'
  pub pos : w'.at * 8 + w'.n ≡ w.at * 8 + w.n + total ws
  pub bits : bits_written img' w' ≡ after (bits_written img w) ws vs
  pub rest : drop w'.at img' ≡ drop w'.at img
  pub len : length img' ≡ length img

-- the bits read: those of the bytes taken, less those that are held
unfoldable pub bits_read : List ℕ → Cursor → ℕ
bits_read img r = word_of (take r.at img) / 2 ^ r.n

-- the bits that a reader holds are the last of the bytes taken
pub record Behind (img : List ℕ) (r : Cursor) : Type 0 where
  pub few : r.n < 8
  pub inside : r.n ≤ r.at * 8
  pub last : r.acc ≡ word_of (take r.at img) % 2 ^ r.n

-- fields of widths ws and values vs were read
pub record Read (img : List ℕ) (r r' : Cursor) (ws vs : List ℕ) : Type 0 where
  pub behind : Behind img r'
  pub pos : r'.at * 8 + r.n ≡ r.at * 8 + r'.n + total ws
  pub fit : Fit ws vs
  pub bits : bits_read img r' ≡ after (bits_read img r) ws vs

-- the first bit of a slice
abbrev pub start : Cursor
start = record { acc = 0; n = 0; at = 0 }
