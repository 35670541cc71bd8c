-- Some places passed at once, with nothing decided between them: what they say, and that the places behind them decide the rest. Assumes
-- nothing.
use Rattle.std.proofs.Common.{◌≡◌, ℕ, ◌+◌, ◌-◌, ◌%◌, ◌<◌, ◌≤◌, Bool, true, false, ◌&&◌, ◌||◌, eqb, ltb, List, [], ◌∷◌, ◌++◌, length, sym, refl, ap, ◌∙◌, append_assoc, arith, ltb-true, eqb-true}
use Rattle.std.proofs.Math.Bool.{and_assoc, and-true}
use Rattle.std.proofs.lemmas.List.Recursion.{or_push}
use lib.Bits.{bit_or, or_mod}
use Rattle.std.specs.Bool.{then_some}
use Rattle.std.specs.Option.{IfSome}
use Rattle.std.specs.List.{fold, list_all}
use Rattle.std.proofs.lemmas.Bool.{eqb-false, and_parts, or_parts}
use Rattle.directory.specs.Block.{start_of, free}
use Rattle.directory.specs.Fit.{any, sound}
use Rattle.directory.specs.Calls.{word_at}
use Rattle.directory.specs.Drop.{gone}
use Rattle.directory.specs.Ordered.{all_free, ordered}
use Rattle.directory.specs.Eights.{seen_from, Decides, Climbs}
use Rattle.directory.proofs.Laws.Bits.{or_left, or_right, or-free}
use Rattle.directory.proofs.Laws.Pages.{gone-not}
use Rattle.directory.proofs.Laws.Sound.{holds-other, sound-cons}
use Rattle.directory.proofs.Laws.Ordered.{Reaches, reaches_more, rises-of, ordered_step}

-- ---- a start

-- one place more
pub any_more : (p : ℕ → Bool) (d : List ℕ) (w : ℕ) → any p (d ++ w ∷ []) ≡ (any p d || p w)
unfolding any
any_more p = or_push (any p) p refl (λ w d. refl)

pub word_past : (start : ℕ) (d after : List ℕ) → any (λ w. eqb (start_of w) start) d ≡ false → word_at start (d ++ after) ≡ word_at start after
unfolding any word_at
word_past start [] after e = refl
word_past start (w ∷ d) after e =
    let p = or_parts (eqb (start_of w) start) (any (λ w. eqb (start_of w) start) d) e in
    rw (holds-other start w (eqb-false _ _ p.0)) (word_past start d after p.1)

-- ---- a block that goes

zeros_or : (a b : ℕ) → eqb (bit_or a b % 32) 0 ≡ (eqb (a % 32) 0 && eqb (b % 32) 0)
zeros_or a b = ap (λ (n : ℕ). eqb n 0) (or_mod a b 5) ∙ or-free (a % 32) (b % 32)

pub quiet_fold : (t a : ℕ) (d : List ℕ)
    → eqb (fold (λ seen w. bit_or seen (seen_from t w)) a d % 32) 0 ≡ (eqb (a % 32) 0 && list_all (λ w. eqb (seen_from t w % 32) 0) d)
quiet_fold t a [] = sym (and-true (eqb (a % 32) 0))
quiet_fold t a (w ∷ d) =
    quiet_fold t (bit_or a (seen_from t w)) d ∙ rw (zeros_or a (seen_from t w)) (and_assoc (eqb (a % 32) 0) (eqb (seen_from t w % 32) 0) _)

pub record Past (t : ℕ) (d after : List ℕ) : Type 0 where
  pub goes : any (gone t) after ≡ any (gone t) (d ++ after)
  pub stays : sound after ≡ true

pub quiet_past : (t : ℕ) (d after : List ℕ) → list_all (λ w. eqb (seen_from t w % 32) 0) d ≡ true → sound (d ++ after) ≡ true → Past t d after
unfolding any
quiet_past t [] after q s = record { goes = refl; stays = s }
quiet_past t (w ∷ d) after q s =
    let e = and_parts (eqb (seen_from t w % 32) 0) _ q in
    let c = sound-cons w (d ++ after) s in
    let p = quiet_past t d after e.1 c.tail in
    record { goes = rw (gone-not t w c.first (eqb-true _ _ e.0)) p.goes; stays = p.stays }

-- what a quick test answers
pub some_if : {X : Type 0} (P : X → Type 0) (b : Bool) (x : X) → (b ≡ true → P x) → IfSome (then_some b x) P
some_if P true x h = h refl
some_if P false x h = tt

pub quiet_decides : (t : ℕ) (e d after : List ℕ) → d ≡ e ++ after → length after < length d → list_all (λ w. eqb (seen_from t w % 32) 0) e ≡ true
    → Decides t d after
quiet_decides t e d after q l h =
    record {
      shorter = l;
      goes = λ s. rw (q) ((quiet_past t e after h (rw q at s)).goes);
      stays = λ s. (quiet_past t e after h (rw q at s)).stays;
    }

-- ---- the order of the starts

-- places that were passed, the last with start b: whether all starts ascend, and no less than each length less one
pub record Rising (s : ℕ) (d : List ℕ) (up : Bool) (b far : ℕ) : Type 0 where
  pub high : up ≡ true → s ≤ b
  pub rest : (F L : ℕ) → up ≡ true → far ≤ F → F < 4096 → b ≤ L → L + F < 0x10000 → (after : List ℕ) → ordered s (d ++ after) ≡ ordered b after

pub rising-next : {s : ℕ} {d : List ℕ} {up : Bool} {b far : ℕ} → Rising s d up b far → 0x5FFF ≤ s → (w r : ℕ) → (r < 4096 → Reaches r w)
    → Rising s (d ++ w ∷ []) (up && ltb b (start_of w)) (start_of w) (bit_or far r)
rising-next {s} {d} {up} {b} {far} p z w r h =
    record {
      high = λ u. let q = and_parts up (ltb b (start_of w)) u in omega (arith, p.high q.0, ltb-true b (start_of w) q.1);
      rest = λ F L u f g l m after.
          let q = and_parts up (ltb b (start_of w)) u in
          let t : b < start_of w = ltb-true b (start_of w) q.1 in
          let k = p.high q.0 in
          let i = or_left far r in let j = or_right far r in
          rw (append_assoc d (w ∷ []) after)
          (p.rest F L q.0 (omega arith) g (omega arith) m (w ∷ after)
          ∙ ordered_step b w after (rises-of b w F L (omega arith) t g (reaches_more (omega arith) (h (omega arith))) l m));
    }

pub rising-all : {s : ℕ} {d : List ℕ} {up : Bool} {b far : ℕ} → Rising s d up b far
    → ((up && ltb far 4096) && ltb far (0x10000 - b)) ≡ true → Climbs s d b
rising-all {s} {d} {up} {b} {far} p y =
    let r = and_parts (up && ltb far 4096) _ y in
    let q = and_parts up _ r.0 in
    let u = ltb-true _ _ q.1 in let v = ltb-true _ _ r.1 in
    record { high = p.high q.0; rest = p.rest far b q.0 (omega arith) u (omega arith) (omega arith) }

pub free_fold : (a : ℕ) (d : List ℕ) → free (fold bit_or a d) ≡ (free a && all_free d)
unfolding all_free
free_fold a [] = sym (and-true (free a))
free_fold a (w ∷ d) = free_fold (bit_or a w) d ∙ rw (or-free a w) (and_assoc (free a) (free w) (all_free d))
