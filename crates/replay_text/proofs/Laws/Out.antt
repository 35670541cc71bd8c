-- Bytes that are put one after the other. Assumes nothing.
use Rattle.std.proofs.Common.{ℕ, suc, ◌+◌, ◌-◌, ◌/◌, ◌%◌, ◌≡◌, ◌<◌, Bool, true, false, cond, ltb, refl, ◌∙◌, arith}
use Rattle.std.proofs.Common.{List, [], ◌∷◌, ◌++◌, length, take, get_or, append_assoc, length-append}
use Rattle.std.proofs.lemmas.List.{take_more}
use Rattle.std.proofs.lemmas.Grind.{common_steps, flat_map-append}
use Rattle.std.proofs.lemmas.Bool.{ltb-true, ltb-false}
use Rattle.replay_text.specs.Hex.{hex_of, glyph_of}
use Rattle.replay_text.specs.Out.{Put, put_one, put_all}

-- one byte more, and the bytes that there is room for behind it
one-more : (bytes s : List ℕ) (b room : ℕ) (t : Bool) → ltb (length bytes) room ≡ t
    → cond t (bytes ++ b ∷ []) bytes ++ take (room - length (cond t (bytes ++ b ∷ []) bytes)) s
    ≡ bytes ++ take (room - length bytes) (b ∷ s)
one-more bytes s b room true e =
    let n : room - length bytes ≡ suc (room - length (bytes ++ b ∷ [])) =
    omega (arith, ltb-true (length bytes) room e, length-append bytes (b ∷ [])) in
    rw n (append_assoc bytes (b ∷ []) (take (room - length (bytes ++ b ∷ [])) s))
one-more bytes s b room false e =
    let n : room - length bytes ≡ 0 = omega (arith, ltb-false (length bytes) room e) in
    rw n

-- as many as there is room for
pub put_take : (p : Put) (s : List ℕ)
    → put_all p s ≡ record { bytes = p.bytes ++ take (p.room - length p.bytes) s; room = p.room }
unfolding put_all put_one
put_take p [] =
    let e : p.bytes ≡ p.bytes ++ take (p.room - length p.bytes) [] = grind (arith, common_steps) in
    λ i. record { bytes = e i; room = p.room }
put_take p (b ∷ s) =
    put_take (put_one p b) s
    ∙ λ i. record { bytes = one-more p.bytes s b p.room (ltb (length p.bytes) p.room) refl i; room = p.room }

pub put-append : (p : Put) (s t : List ℕ) → put_all p (s ++ t) ≡ put_all (put_all p s) t
unfolding put_all
put-append p [] t = refl
put-append p (b ∷ s) t = put-append (put_one p b) s t

-- two digits more
pub put-more : (first p : Put) (s : List ℕ) (i : ℕ) → i < length s → p ≡ put_all first (hex_of (take i s))
    → put_one (put_one p (glyph_of (get_or s i 0 / 16))) (glyph_of (get_or s i 0 % 16)) ≡ put_all first (hex_of (take (i + 1) s))
unfolding put_all
put-more first p s i h e =
    rw (take_more s i 0 h, flat_map-append, put-append first (hex_of (take i s)) (hex_of (get_or s i 0 ∷ []))) (rw e)
