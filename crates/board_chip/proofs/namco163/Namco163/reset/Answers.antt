-- The fills of slots 8..11 are the four stores of the definition.
use Rattle.std.proofs.Common.{rules, arith, ◌≡◌, ◌-◌, List, [], ◌∷◌, ◌++◌, length, take, drop, set, replicate, true, sym, refl, ap, ◌∙◌, take-append-drop, drop_of_length-le}
use Rattle.std.proofs.lemmas.List.{set-append_right, length-take-le}
use lib.ListN.{length-drop}
use Rattle.board_chip.specs.Reset.{set_nametables, reset_chip}
use Rattle.board_chip.proofs.namco163.Namco163.reset.Goals as goal

four : {A : Type 0} (q : List A) (v : A) → length q ≡ 4 → replicate 4 v ≡ set (set (set (set q 0 v) 1 v) 2 v) 3 v
four [] v e = absurd (omega arith)
four (a ∷ []) v e = absurd (omega arith)
four (a ∷ b ∷ []) v e = absurd (omega arith)
four (a ∷ b ∷ c ∷ []) v e = absurd (omega arith)
four (a ∷ b ∷ c ∷ d ∷ []) v e = refl
four (a ∷ b ∷ c ∷ d ∷ x ∷ q) v e = absurd (omega arith)

placed : {A : Type 0} (p q : List A) (v : A) → length p ≡ 8 → length q ≡ 4 → set_nametables v (p ++ q) ≡ p ++ replicate 4 v
placed p q v e f =
    rw (
      set-append_right p q 8 8 v e (omega arith),
      set-append_right p (set q 0 v) 8 9 v e (omega arith),
      set-append_right p (set (set q 0 v) 1 v) 8 10 v e (omega arith),
      set-append_right p (set (set (set q 0 v) 1 v) 2 v) 8 11 v e (omega arith),
      ← four q v f,
    )

filled : {A : Type 0} (l m : List A) (v : A) → length l ≡ 12 → m ≡ replicate (length (take (length l - 8) (drop 8 l))) v
    → take 8 l ++ (m ++ drop (length l - 8) (drop 8 l)) ≡ set_nametables v l
filled l m v n g =
    let q = drop 8 l in
    let four_left : length q ≡ 4 = omega (arith, length-drop 8 l) in
    let all : length (take (length l - 8) q) ≡ 4 = omega (arith, length-take-le (length l - 8) q (omega arith)) in
    let none : drop (length l - 8) q ≡ [] = drop_of_length-le q (omega arith) in
    rw (g, all, none) (sym (placed (take 8 l) q v (length-take-le 8 l (omega arith)) four_left) ∙ ap (set_nametables v) (take-append-drop 8 l))

pub returns : goal.returns
unfolding reset_chip
returns c =
    let n : length c.args.self.nt_bank_enable ≡ 12 = search rules in
    let m : length c.args.self.chr_banks ≡ 12 = search rules in
    rw (
      filled c.args.self.nt_bank_enable c.fill.new.self true n (c.fill.ensures.after (λ y e. e)),
      filled c.args.self.chr_banks c.fill-2.new.self 0 m (c.fill-2.ensures.after (λ y e. e)),
      c.reset-self.ensures,
      c.new.ensures,
    )
