-- K3, K4: registering and looking up, refused calls too.
use Rattle.std.specs.Prelude.{ℕ, min, max, Bool, true, false, cond, not, ◌||◌, Option, Some, None, Result, Ok, Err, List, [], ◌∷◌, ◌==◌, nat_lt, slice_set}
use Rattle.refusals.specs.declared.Refusal.{Refusal}
use Rattle.refusals.specs.declared.Refusal.TheVariants.{State, Address}
use Rattle.refusals.specs.Refusal.{answered}
use Rattle.directory.specs.declared.block.Block.{Block}
use Rattle.directory.specs.Block.{len_of, number_of, word_of, fits, free, holds}
use Rattle.directory.specs.Fit.{any, first, fit}

-- N2, N8: what registering and looking up refuse alike
abbrev pub checked : List ℕ → ℕ → Result (Unit {0}) Refusal
checked d start = cond (not (fit d)) (Err State) (cond (nat_lt start 0x4800) (Err Address) (Ok tt))

-- N2, N8, N13, N14: the first of them that holds
unfoldable pub register_refusal : List ℕ → ℕ → ℕ → ℕ
register_refusal d start len =
    cond (not (fit d)) 2
    (cond (nat_lt start 0x4800) 8 (cond (not (fits start len)) 13 (cond (any (holds start) d || any free d) 0 14)))

-- K3: a new block is carried from the lowest place on. Each place keeps the block with the lower start, of its own and the carried one, and
-- the lowest free one takes the last that is carried: starts in order stay in order. Words compare as their starts do
unfoldable pub put : ℕ → List ℕ → List ℕ
put w [] = []
put w (x ∷ d) = cond (free x) (w ∷ d) (min w x ∷ put (max w x) d)

-- K3: a start that is held is replaced in its place
unfoldable pub with_block : List ℕ → ℕ → ℕ → List ℕ
with_block d start w = cond (any (holds start) d) (slice_set d (first (holds start) d) w) (put w d)

unfoldable pub registered : List ℕ → ℕ → ℕ → ℕ → List ℕ
registered d start len number =
    cond (register_refusal d start len == 0) (with_block d start (word_of start len number)) d

-- the block that is held at a start, or 0
unfoldable pub word_at : ℕ → List ℕ → ℕ
word_at start [] = 0
word_at start (w ∷ d) = cond (holds start w) w (word_at start d)

-- a lookup's answer: all 0 for none and for refused
pub record Found : Type 0 where
  pub refusal : ℕ
  pub held : Bool
  pub len : ℕ
  pub number : ℕ

abbrev pub refused_lookup : ℕ → Found
refused_lookup q = record { refusal = q; held = false; len = 0; number = 0 }

abbrev pub found_of : ℕ → Found
found_of w = record { refusal = 0; held = not (free w); len = len_of w; number = number_of w }

-- K4: the block whose start it is; none is an answer too
unfoldable pub lookup : List ℕ → ℕ → Found
lookup d start = cond (not (fit d)) (refused_lookup 2) (cond (nat_lt start 0x4800) (refused_lookup 8) (found_of (word_at start d)))

-- the same of what the code answers
abbrev pub found_block : Option Block → Found
found_block None = record { refusal = 0; held = false; len = 0; number = 0 }
found_block (Some b) = record { refusal = 0; held = true; len = b.len; number = b.number }

abbrev pub lookup_answer : Result (Option Block) Refusal → Found
lookup_answer r = answered refused_lookup found_block r
