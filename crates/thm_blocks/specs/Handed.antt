-- K8 and K9: what is promised of blocks, over every list of calls, refused ones among them. `after` is what a list leaves on the board that
-- the contracts give.
use Rattle.std.specs.Prelude.{ℕ, ◌≡◌, true, List, [], ◌∷◌, ◌++◌, Float}
use Rattle.cut.specs.Calls.{Call, run, other, answered}
use Rattle.cut.specs.Demand3.{observed}
use Rattle.memory.specs.Range.{MemoryTyped}
use Rattle.thm_blocks.specs.Calls.{HeldBlocks, BlockCall, base, register, lookup, found}
use Rattle.thm_blocks.specs.Board.{block_gives, block_board}
use Rattle.thm_blocks.specs.Cause.{bytes_from, accepted, Cause}

abbrev pub after : List (Call Float BlockCall) → HeldBlocks → HeldBlocks
after calls h = (observed block_board calls h).state

-- R8: what the type of the page tables says; every call keeps it
abbrev pub Typed : HeldBlocks → Type 0
Typed h = MemoryTyped h.held.state.memory

-- K4: a lookup of start a answers the length n and the number k
abbrev pub HandsOut : HeldBlocks → ℕ → ℕ → ℕ → Type 0
HandsOut h a n k = (block_gives (lookup a) h).reply ≡ answered (found n k)

-- K8: one of the calls registered the block and was accepted; behind it no accepted call registers the start; and at each moment since, the
-- bytes at the block's addresses are those that they were when it was registered
pub record Since (calls : List (Call Float BlockCall)) (h : HeldBlocks) (a n k : ℕ) : Type 0 where
  pub pre : List (Call Float BlockCall)
  pub post : List (Call Float BlockCall)
  pub split : calls ≡ pre ++ (other (register a n k) ∷ post)
  pub taken : accepted (register a n k) (after pre h) ≡ true
  pub last : (mid rest : List (Call Float BlockCall)) (len number : ℕ) → post ≡ mid ++ (other (register a len number) ∷ rest)
      → accepted (register a len number) (after (pre ++ (other (register a n k) ∷ mid)) h) ≡ true → ⊥
  pub same : (mid rest : List (Call Float BlockCall)) → post ≡ mid ++ rest
      → bytes_from n a (after (pre ++ (other (register a n k) ∷ mid)) h) ≡ bytes_from n a (after pre h)

-- K9: no call of a list is a cause for the block of a start and a length to go, or registers the start, where it is accepted
abbrev pub Spared : List (Call Float BlockCall) → HeldBlocks → ℕ → ℕ → Type 0
Spared [] h a n = Unit {0}
Spared (run clocks lent ∷ calls) h a n = Spared calls (after (run clocks lent ∷ []) h) a n
Spared (other (base b) ∷ calls) h a n =
    (accepted (base b) h ≡ true → Cause b h a n → ⊥) × Spared calls (after (other (base b) ∷ []) h) a n
Spared (other (register s len number) ∷ calls) h a n =
    (accepted (register s len number) h ≡ true → s ≡ a → ⊥) × Spared calls (after (other (register s len number) ∷ []) h) a n
Spared (other (lookup s) ∷ calls) h a n = Spared calls (after (other (lookup s) ∷ []) h) a n
