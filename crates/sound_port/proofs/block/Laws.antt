-- The loop that fills a list with reads: what holds before it, from turn to turn, and after it.
use Prim.Native.Nat.{ℕ, zero, suc, ◌+◌, ◌≤◌, ◌<◌}
use mathlib.Core.Path.{◌≡◌, refl, sym, ap, ◌∙◌}
use mathlib.Core.List.{List, [], ◌∷◌, ◌++◌, append_assoc, append-nil}
use native.Mathlib.Numerals.{add-one}
use native.Mathlib.Omega.{arith}
use lib.ListN.{length, take, set, length-set}
use lib.Seq.{take-suc-set, take_all}
use Rattle.sound_port.specs.declared.lent.Port.{Port}
use Rattle.sound_port.specs.Lent.{byte_of, after_read}
use Rattle.sound_port.specs.Block.{reads, after_reads}

-- i of n reads are made: the bytes before i and the reads that are left make all the reads from the first port
pub record Midway (n : ℕ) (first : Port) (i : ℕ) (out : List ℕ) (p : Port) : Type 0 where
  pub left : ℕ
  pub counted : i + left ≡ n
  pub out_length : length out ≡ n
  pub bytes : take i out ++ reads left p ≡ reads n first
  pub port : after_reads left p ≡ after_reads n first

pub midway-0 : (n : ℕ) (first : Port) (out : List ℕ) → length out ≡ n → Midway n first 0 out first
midway-0 n first out e = record { left = n; counted = omega arith; out_length = e; bytes = refl; port = refl }

one_more : (out rest : List ℕ) (i b : ℕ) → i < length out → take (i + 1) (set out i b) ++ rest ≡ take i out ++ b ∷ rest
one_more out rest i b h =
    ap (λ (l : List ℕ). l ++ rest) (ap (λ (k : ℕ). take k (set out i b)) (add-one i) ∙ take-suc-set out i b h)
    ∙ append_assoc (take i out) (b ∷ []) rest

pub midway-more : (n : ℕ) (first : Port) (i : ℕ) (out : List ℕ) (p : Port) → i < n → Midway n first i out p
    → Midway n first (i + 1) (set out i (byte_of p)) (after_read p)
unfolding reads after_reads
midway-more n first i out p h m = go m.left m.counted m.bytes m.port
  where
    go : (left : ℕ) → i + left ≡ n → take i out ++ reads left p ≡ reads n first → after_reads left p ≡ after_reads n first
        → Midway n first (i + 1) (set out i (byte_of p)) (after_read p)
    go zero c b q = absurd (omega arith)
    go (suc left) c b q =
        record {
          left = left;
          counted = omega arith;
          out_length = length-set out i (byte_of p) ∙ m.out_length;
          bytes = one_more out (reads left (after_read p)) i (byte_of p) (omega (arith, m.out_length)) ∙ b;
          port = q;
        }

pub midway_end : (n : ℕ) (first : Port) (i : ℕ) (out : List ℕ) (p : Port) → n ≤ i → Midway n first i out p
    → (out ≡ reads n first) × (p ≡ after_reads n first)
unfolding reads after_reads
midway_end n first i out p h m = go m.left m.counted m.bytes m.port
  where
    go : (left : ℕ) → i + left ≡ n → take i out ++ reads left p ≡ reads n first → after_reads left p ≡ after_reads n first
        → (out ≡ reads n first) × (p ≡ after_reads n first)
    go zero c b q = (sym (append-nil (take i out) ∙ take_all i out (omega (arith, m.out_length))) ∙ b, q)
    go (suc left) c b q = absurd (omega arith)
