-- Pairs of digits from an index on, and what `decode` answers and leaves by them. Assumes nothing.
use Rattle.std.proofs.Common.{ℕ, ◌+◌, ◌*◌, ◌/◌, ◌%◌, ◌≡◌, ◌≤◌, ◌<◌, cond, Option, Some, None}
use Rattle.std.proofs.Common.{List, [], ◌∷◌, ◌++◌, length, get_or, take, drop, set}
use Rattle.std.proofs.Common.{eqb, sym, ◌∙◌, arith, append_assoc, drop_of_length-le}
use Rattle.std.proofs.lemmas.List.{drop_more, take_more_set, drop-set-lt, take-append-drop}
use Rattle.std.proofs.lemmas.Bool.{eq-eqb, ne_eqb, lt-ltb, le-ltb}
use Rattle.replay_text.specs.Hex.{pair_of, before, pairs, decoded_of, decoded_to}

pub pairs-next : (s : List ℕ) (i : ℕ) → i + 1 < length s
    → pairs (drop i s) ≡ before (pair_of (get_or s i 0) (get_or s (i + 1) 0)) (pairs (drop (i + 1 + 1) s))
unfolding pairs
pairs-next s i h = rw (drop_more s i 0 (omega arith), drop_more s (i + 1) 0 h)

pub pairs-end : (s : List ℕ) (i : ℕ) → length s ≤ i → pairs (drop i s) ≡ []
unfolding pairs
pairs-end s i h = rw (drop_of_length-le s h)

-- the bytes of i pairs are put: with those that are left they are all
abbrev pub Passed : List ℕ → List ℕ → ℕ → List ℕ → Type 0
Passed digits buffer i bytes =
    (i + length (pairs (drop (2 * i) digits)) ≡ length (pairs digits)) ×
    (take i bytes ++ (pairs (drop (2 * i) digits) ++ drop (length (pairs digits)) bytes)
    ≡ pairs digits ++ drop (length (pairs digits)) buffer)

-- what `decode` answers and leaves
abbrev pub Decodes : List ℕ → List ℕ → Option ℕ → List ℕ → Type 0
Decodes digits buffer r bytes = (r ≡ decoded_of digits buffer) × (bytes ≡ decoded_to digits buffer)

module _ (digits buffer : List ℕ) where
  pub decodes-odd : length digits % 2 ≡ 1 → Decodes digits buffer None buffer
  unfolding decoded_of decoded_to
  decodes-odd h = (rw (eq-eqb _ _ h), rw (eq-eqb _ _ h))

  module _ (even : length digits % 2 ≡ 1 → ⊥) where
    pub decodes-short : length buffer < length digits / 2 → Decodes digits buffer None buffer
    unfolding decoded_of decoded_to
    decodes-short h = (rw (ne_eqb _ _ even, lt-ltb _ _ h), rw (ne_eqb _ _ even, lt-ltb _ _ h))

    module _ (room : length digits / 2 ≤ length buffer) (i : ℕ) (bytes : List ℕ) (p : Passed digits buffer i bytes) where
      -- where no pair is left that names a byte
      stopped : pairs (drop (2 * i) digits) ≡ []
          → Decodes digits buffer (cond (eqb i (length digits / 2)) (Some (length digits / 2)) None) bytes
      unfolding decoded_of decoded_to
      stopped e =
          let n : i ≡ length (pairs digits) = omega (arith, rw e at p.0) in
          let whole : take i bytes ++ drop (length (pairs digits)) bytes ≡ bytes = rw (← n) (take-append-drop i bytes) in
          (rw (ne_eqb _ _ even, le-ltb _ _ room, n), rw (ne_eqb _ _ even, le-ltb _ _ room) (sym whole ∙ rw e at p.1))

      pub decodes-part : i < length digits / 2 → pair_of (get_or digits (2 * i) 0) (get_or digits (2 * i + 1) 0) ≡ None
          → Decodes digits buffer None bytes
      decodes-part h e =
          rw (ne_eqb i (length digits / 2) (λ q. omega arith)) at
          (stopped (pairs-next digits (2 * i) (omega arith) ∙ rw e))

      pub decodes-all : i ≡ length digits / 2 → Decodes digits buffer (Some (length digits / 2)) bytes
      decodes-all h = rw (eq-eqb i (length digits / 2) h) at (stopped (pairs-end digits (2 * i) (omega arith)))

      pub passed-next : (b : ℕ) → i < length digits / 2 → i < length bytes
          → pair_of (get_or digits (2 * i) 0) (get_or digits (2 * i + 1) 0) ≡ Some b
          → Passed digits buffer (i + 1) (set bytes i b)
      passed-next b h r e =
          let n : 2 * (i + 1) ≡ 2 * i + 1 + 1 = omega arith in
          let next : pairs (drop (2 * i) digits) ≡ b ∷ pairs (drop (2 * (i + 1)) digits) =
          rw (e, ← n) at (pairs-next digits (2 * i) (omega arith)) in
          let count : (i + 1) + length (pairs (drop (2 * (i + 1)) digits)) ≡ length (pairs digits) = omega (arith, rw next at p.0) in
          let beyond : i < length (pairs digits) = omega arith in (
            count,
            rw (
              take_more_set bytes i b r,
              drop-set-lt (length (pairs digits)) bytes i b beyond,
              append_assoc (take i bytes) (b ∷ []),
            ) (rw next at p.1),
          )
