-- Both round trips between fields and bytes, for any widths that fill whole bytes.
use mathlib.Core.Path.{◌≡◌, sym, ap, ◌∙◌, subst}
use mathlib.Core.List.{List}
use Prim.Native.Nat.{ℕ, ◌*◌, ◌^◌, ◌<◌}
use lib.ListN.{length, get_or}
use Rattle.bits.specs.Fields.{total, pack, unpack, Fit}
use Rattle.bits.specs.Words.{word_of, eights}
use Rattle.bits.proofs.Fields.{pack-lt, pack-unpack, unpack-pack}
use Rattle.bits.proofs.words.Laws.{word-of-bytes, fit-bytes, bytes-of-word, total-eights}

module _ (ws : List ℕ) (n : ℕ) (whole : total ws ≡ n * 8) where
  -- the fields of the bytes of fields
  pub fields_back : (vs : List ℕ) → Fit ws vs → unpack ws (word_of (unpack (eights n) (pack ws vs))) ≡ vs
  fields_back vs f =
      ap (unpack ws) (word-of-bytes n (pack ws vs) (subst (λ (k : ℕ). pack ws vs < 2 ^ k) whole (pack-lt ws vs f)))
      ∙ unpack-pack ws vs f

  -- the bytes of the fields of bytes
  pub bytes_back : (img : List ℕ) → length img ≡ n → ((i : ℕ) → get_or img i 0 < 2 ^ 8)
      → unpack (eights n) (pack ws (unpack ws (word_of img))) ≡ img
  bytes_back img l b =
      let small : word_of img < 2 ^ total ws =
      subst (λ (k : ℕ). word_of img < 2 ^ k) (total-eights (length img) ∙ ap (λ (k : ℕ). k * 8) l ∙ sym whole)
      (pack-lt (eights (length img)) img (fit-bytes img b)) in
      ap (unpack (eights n)) (pack-unpack ws (word_of img) small)
      ∙ ap (λ (k : ℕ). unpack (eights k) (word_of img)) (sym l) ∙ bytes-of-word img b
