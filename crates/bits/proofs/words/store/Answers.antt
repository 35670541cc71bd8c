-- `bits::words::store` meets its contract: the k low bytes of a number are the last k of its eight.
use Rattle.std.proofs.Common.{ℕ, ◌-◌, ◌≡◌, List, ap, ◌∙◌, length, take, drop, arith}
use lib.Seq.{take_all, paste}
use Rattle.bits.specs.Fields.{unpack}
use Rattle.bits.specs.Words.{eights}
use Rattle.bits.proofs.words.Laws.{last-bytes, length-bytes}
use Rattle.bits.proofs.words.store.Goals as goal

pub returns : goal.returns
returns c =
    let a = c.args in
    let bytes : List ℕ = take (8 - (8 - a.k)) (drop (8 - a.k) c.to_be_bytes.result) in
    let last = ap (drop (8 - a.k)) c.to_be_bytes.ensures ∙ last-bytes a.k a.x (omega arith) in
    let n : 8 - (8 - a.k) ≡ a.k = omega arith in
    let long = length-bytes a.k a.x in
    let same : bytes ≡ unpack (eights a.k) a.x = rw (last, n) (take_all a.k (unpack (eights a.k) a.x) (omega (arith, long))) in
    let is : c.copy_to.new.img ≡ paste a.img.now a.at bytes (length bytes) = c.copy_to.ensures in
    is
    ∙ ap (λ (ys : List ℕ). paste a.img.now a.at ys (length ys)) same
    ∙ ap (paste a.img.now a.at (unpack (eights a.k) a.x)) long
