-- A channel's registers and samples are the wiki's (W16, W19), and so are the turn (W18) and the sum of the enabled channels (W17, W21).
-- So is the level (W20) where levels are signed. Departure from W20: where they wrap in 8 bits, the level is the signed one if the nibble is
-- 8 or more, else 256 times the volume above it. Assumes nothing.
use Prim.Native.Nat.{ℕ, zero, suc, ◌+◌, ◌-◌, ◌*◌, ◌/◌, ◌%◌, ◌≤◌, ◌<◌}
use mathlib.Core.Path.{◌≡◌, refl, sym, ap, ◌∙◌}
use mathlib.Core.Bool.{Bool, true, false, cond}
use mathlib.Core.List.{List, [], ◌∷◌}
use mathlib.Core.Logic.{⊎_elim}
use native.Mathlib.Nat.{eq-or-lt_of_le, add-mul}
use native.Mathlib.Omega.{arith}
use borrow.Author.Tests.{lt-ltb, le-ltb, le-leb, lt-leb, leb-false, ltb-true, ltb-false}
use lib.Dec.{eqb, leb, ltb}
use lib.IntN.{ℤ, pos, neg_ℤ, ◌+ℤ◌, +ℤ_comm, +ℤ_idl, +ℤ-neg_ℤ_cancel}
use lib.ListN.{length, get_or, set, drop}
use lib.Seq.{drop-set-lt}
use lib.Ieee.{Float}
use Rattle.sound_wave.specs.Channel.{base_addr, frequency_at, wave_length_at, nibble_at, level_of, signed_of, level_at}
use Rattle.sound_wave.specs.Mix.{Wholes, total, sum_of, mix_of, exact_out}
use Rattle.sound_wave.proofs.mix.Laws.{mix-rounds}
use Rattle.sound_wave.proofs.Range.Mix.{wholes-length, wholes-size}
use Rattle.sound_clock.specs.Clock.{next_channel}
use Rattle.thm_wiki.specs.Sound.{
  wiki_base,
  wiki_frequency,
  wiki_length,
  wiki_volume,
  wiki_sample,
  wiki_place,
  wiki_level,
  wiki_output,
  wiki_enabled,
  wiki_sum,
  wiki_next_turn,
}
use Rattle.thm_wiki.proofs.Tests.{same_test, le-or-lt}

-- ---- the registers and the samples: W16, W19

pub base_agrees : (k : ℕ) → base_addr k ≡ wiki_base k
base_agrees k = omega arith

pub frequency-agrees : (ram : List ℕ) (b : ℕ) → frequency_at ram b ≡ wiki_frequency ram b
frequency-agrees ram b = omega arith

pub length-agrees : (ram : List ℕ) (b : ℕ) → wave_length_at ram b ≡ wiki_length ram b
length-agrees ram b = omega arith

pub sample-agrees : (ram : List ℕ) (x : ℕ) → nibble_at ram x ≡ wiki_sample ram x
unfolding nibble_at
sample-agrees ram x =
    ⊎_elim
    (λ (e : x % 2 ≡ 1). rw e)
    (λ (l : x % 2 < 1). let z : x % 2 ≡ 0 = omega arith in rw z)
    (eq-or-lt_of_le {n = x % 2} {m = 1} (omega arith))

-- ---- the level: W20

neg-plus : (x y : ℕ) → neg_ℤ (pos x) +ℤ pos (y + x) ≡ pos y
neg-plus x y = +ℤ_comm (neg_ℤ (pos x)) (pos (y + x)) ∙ +ℤ-neg_ℤ_cancel (pos y) (pos x)

pub level-agrees : (n v : ℕ) → n < 16 → pos (level_of n v) ≡ wiki_level n v +ℤ pos (cond (leb 8 n) 0 (256 * v))
level-agrees n v h =
    ⊎_elim
    (λ (l : 8 ≤ n).
    let e : (n + 248) % 256 ≡ n - 8 = omega arith in
    rw (le-ltb n 8 l, le-leb 8 n l, e) (ap pos (omega arith)))
    (λ (l : n < 8).
    let e : (n + 248) % 256 ≡ n + 248 = omega arith in
    let d : suc (8 - suc n) ≡ 8 - n = omega arith in
    let t : 256 * v ≡ (n + 248) * v + (8 - n) * v = ap (λ (x : ℕ). x * v) (parts n l) ∙ add-mul (n + 248) (8 - n) v in
    rw (lt-ltb n 8 l, lt-leb 8 n l, e, d, t) (sym (neg-plus ((8 - n) * v) ((n + 248) * v))))
    (le-or-lt 8 n)
  where
    parts : (n : ℕ) → n < 8 → 256 ≡ n + 248 + (8 - n)
    parts n l = omega arith

-- S14: a signed level at a phase is the wiki's output there
pub signed-level-agrees : (ram : List ℕ) (b p : ℕ) → level_at ram b p true ≡ wiki_output ram b p
unfolding level_at signed_of
signed-level-agrees ram b p = rw (sample-agrees ram (wiki_place ram b p))

-- the level at a phase in either choice, against it
pub output-agrees : (ram : List ℕ) (b p : ℕ) (signed : Bool) → get_or ram (wiki_place ram b p / 2) 0 < 256
    → level_at ram b p signed ≡ cond signed (wiki_output ram b p)
    (wiki_output ram b p +ℤ pos (cond (leb 8 (wiki_sample ram (wiki_place ram b p))) 0 (256 * wiki_volume ram b)))
unfolding level_at signed_of
output-agrees ram b p true h = signed-level-agrees ram b p
output-agrees ram b p false h =
    rw (sample-agrees ram (wiki_place ram b p))
    (level-agrees (wiki_sample ram (wiki_place ram b p)) (wiki_volume ram b) (nibble (eqb (wiki_place ram b p % 2) 0)))
  where
    nibble : (e : Bool) → cond e (get_or ram (wiki_place ram b p / 2) 0 % 16) (get_or ram (wiki_place ram b p / 2) 0 / 16) < 16
    nibble true = omega arith
    nibble false = omega arith

-- ---- the turn: W18

pub turn-agrees : (k c : ℕ) → c < 8 → next_channel k c ≡ wiki_next_turn c k
unfolding next_channel
turn-agrees k c h =
    rw (same_test (ltb (k + c) 8) (leb k (7 - c))
    (λ p. le-leb k (7 - c) (omega (arith, ltb-true (k + c) 8 p)))
    (λ p. lt-leb k (7 - c) (omega (arith, ltb-false (k + c) 8 p))))

-- ---- the sum: W17, W21

-- channels that are not enabled do not count in `out`
pub not-enabled : (outs : List Float) (c k : ℕ) (x : Float) (plain : Bool) → wiki_enabled c k ≡ false
    → mix_of (set outs k x) c plain ≡ mix_of outs c plain
unfolding mix_of sum_of
not-enabled outs c k x plain e = rw (drop-set-lt (7 - c) outs k x (omega (arith, leb-false 7 (k + c) e)))

all-enabled : (c k : ℕ) (zs : List ℤ) → 7 ≤ k + c → wiki_sum c k zs ≡ total zs
unfolding wiki_sum total
all-enabled c k [] h = refl
all-enabled c k (z ∷ zs) h = rw (le-leb 7 (k + c) h) (ap (λ (t : ℤ). z +ℤ t) (all-enabled c (k + 1) zs (omega arith)))

sum-enabled : (c k m : ℕ) (zs : List ℤ) → k + c + m ≡ 7 → wiki_sum c k zs ≡ total (drop m zs)
unfolding wiki_sum total
sum-enabled c k zero zs h = all-enabled c k zs (omega arith)
sum-enabled c k (suc m) [] h = refl
sum-enabled c k (suc m) (z ∷ zs) h = rw (lt-leb 7 (k + c) (omega arith)) (+ℤ_idl _ ∙ sum-enabled c (k + 1) m zs (omega arith))

-- and `out` is the sum of those that are, or that divided by their number and rounded once
pub mix-agrees : (signed : Bool) (outs : List Float) (w : Wholes signed outs) (c : ℕ) (plain : Bool) → length outs ≡ 8 → c < 8
    → mix_of outs c plain ≡ exact_out (wiki_sum c 0 w.numbers) c plain
mix-agrees signed outs w c plain n l =
    let z = wholes-size signed w.numbers c (wholes-length signed outs w n) l w.within in
    rw (w.are, sum-enabled c 0 (7 - c) w.numbers (omega arith)) (mix-rounds w.numbers c plain (omega arith) l)
