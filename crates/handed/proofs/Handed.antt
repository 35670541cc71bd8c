-- K8 and K9 over any lawful machine.
use Prim.Native.Nat.{ℕ}
use mathlib.Core.Path.{◌≡◌, refl, sym, ap, ◌∙◌}
use mathlib.Core.Bool.{Bool, true, false}
use mathlib.Core.List.{List, [], ◌∷◌, ◌++◌}
use native.Mathlib.Omega.{arith}
use native.Mathlib.Decide.{ℕ_discrete}
use borrow.Author.Tests.{eq-eqb, ne_eqb}
use Rattle.handed.specs.Handed.{Kind, registers, other, Machine, Lawful, AllTyped, run, Always, NoneOf, NoCause, Since}

module _ {H Call : Type 0} (m : Machine H Call) (Good : H → Type 0) (Typed : Call → Type 0) (laws : Lawful m Good Typed) where
  always-map : (P Q : H → Type 0) → ((g : H) → P g → Q g) → (cs : List Call) (h : H) → Always m P cs h → Always m Q cs h
  always-map P Q f [] h p = f h p
  always-map P Q f (c ∷ cs) h p = (f h p.0, always-map P Q f cs (m.after c h) p.1)

  -- a moment of a list, by how the list splits there
  pub always-at : (P : H → Type 0) (cs : List Call) (h : H) → Always m P cs h → (mid rest : List Call) → cs ≡ mid ++ rest → P (run m mid h)
  always-at P [] h p [] rest e = p
  always-at P [] h p (c ∷ mid) rest e = let z : ◌≡◌ {A = ℕ} 0 1 = cc in absurd (omega arith)
  always-at P (c ∷ cs) h p [] rest e = p.0
  always-at P (c ∷ cs) h p (d ∷ mid) rest e =
      let q : c ≡ d = cc in let r : cs ≡ mid ++ rest = cc in
      rw (← q) (always-at P cs (m.after c h) p.1 mid rest r)

  -- held from the start on
  record Kept (a w : ℕ) (cs : List Call) (h : H) : Type 0 where
    pub held : m.word a h ≡ w
    pub none : NoneOf m a cs h
    pub same : Always m (λ g. m.bytes w g ≡ m.bytes w h) cs h

  data Held (a w : ℕ) (cs : List Call) (h : H) : Type 0 where
    before : Kept a w cs h → Held a w cs h
    since : Since m a w cs h → Held a w cs h

  -- one call in front
  module _ (a w : ℕ) (n : w ≡ 0 → ⊥) (c : Call) (cs : List Call) (h : H) (t : Typed c) (g : Good h) where
    later : Since m a w cs (m.after c h) → Since m a w (c ∷ cs) h
    later s =
        record {
          pre = c ∷ s.pre;
          call = s.call;
          post = s.post;
          split = ap (c ∷◌) s.split;
          by = s.by;
          last = s.last;
          same = s.same;
        }

    -- bytes counted from the state before the call
    from-before : m.bytes w (m.after c h) ≡ m.bytes w h → Kept a w cs (m.after c h)
        → Always m (λ g. m.bytes w g ≡ m.bytes w h) cs (m.after c h)
    from-before e k =
        always-map (λ g. m.bytes w g ≡ m.bytes w (m.after c h)) (λ g. m.bytes w g ≡ m.bytes w h) (λ g p. p ∙ e) cs (m.after c h)
        k.same

    at-registering : (s v : ℕ) → m.kind c h ≡ registers s v → Kept a w cs (m.after c h) → Dec (a ≡ s) → Held a w (c ∷ cs) h
    at-registering s v e k (yes q) =
        let l = laws.registered c h s v t e in
        let f : v ≡ w = sym (l.0 a ∙ rw (eq-eqb a s q)) ∙ k.held in
        since (record {
          pre = [];
          call = c;
          post = cs;
          split = refl;
          by = rw (q, ← f) e;
          last = k.none;
          same = from-before (l.1 w) k;
        })
    at-registering s v e k (no q) =
        let l = laws.registered c h s v t e in
        before (record {
          held = sym (l.0 a ∙ rw (ne_eqb a s q)) ∙ k.held;
          none = (λ u r. q (let z : registers s v ≡ registers a u = sym e ∙ r in cc), k.none);
          same = (refl, from-before (l.1 w) k);
        })

    at_other : m.kind c h ≡ other → Kept a w cs (m.after c h) → (b : Bool) → m.cause c h (m.word a h) ≡ b → Held a w (c ∷ cs) h
    at_other e k true q = absurd (n (sym k.held ∙ laws.goes c h a e q))
    at_other e k false q =
        let l = laws.stays c h a g e q in
        let f : m.word a h ≡ w = sym l.0 ∙ k.held in
        before (record {
          held = f;
          none = (λ u r. let y : other ≡ registers a u = sym e ∙ r in let z : ◌≡◌ {A = ℕ} 0 1 = cc in omega arith, k.none);
          same = (refl, from-before (rw f at l.1) k);
        })

    one_more : Held a w cs (m.after c h) → Held a w (c ∷ cs) h
    one_more (since s) = since (later s)
    one_more (before k) = by (m.kind c h) refl
      where
        by : (x : Kind) → m.kind c h ≡ x → Held a w (c ∷ cs) h
        by (registers s v) e = at-registering s v e k (ℕ_discrete a s)
        by other e = at_other e k (m.cause c h (m.word a h)) refl

  held_by : (a w : ℕ) → (w ≡ 0 → ⊥) → (cs : List Call) (h : H) → AllTyped Typed cs → Good h → m.word a (run m cs h) ≡ w → Held a w cs h
  held_by a w n [] h t g e = before (record { held = e; none = tt; same = refl })
  held_by a w n (c ∷ cs) h t g e =
      one_more a w n c cs h t.0 g (held_by a w n cs (m.after c h) t.1 (laws.keeps c h t.0 g) e)

  -- K8, from a directory that does not hold the start
  pub handed_out : (a w : ℕ) → (w ≡ 0 → ⊥) → (cs : List Call) (h : H) → AllTyped Typed cs → Good h → m.word a h ≡ 0
      → m.word a (run m cs h) ≡ w → Since m a w cs h
  handed_out a w n cs h t g z e = by (held_by a w n cs h t g e)
    where
      by : Held a w cs h → Since m a w cs h
      by (before k) = absurd (n (sym k.held ∙ z))
      by (since s) = s

  -- K9
  pub none-goes : (a w : ℕ) (cs : List Call) (h : H) → AllTyped Typed cs → Good h → m.word a h ≡ w → NoneOf m a cs h → NoCause m a cs h
      → m.word a (run m cs h) ≡ w
  none-goes a w [] h t g e r q = e
  none-goes a w (c ∷ cs) h t g e r q =
      none-goes a w cs (m.after c h) t.1 (laws.keeps c h t.0 g) (by (m.kind c h) refl) r.1 q.1
    where
      by : (x : Kind) → m.kind c h ≡ x → m.word a (m.after c h) ≡ w
      by (registers s v) k = go (ℕ_discrete a s)
        where
          go : Dec (a ≡ s) → m.word a (m.after c h) ≡ w
          go (yes z) = absurd (r.0 v (rw z k))
          go (no z) = (laws.registered c h s v t.0 k).0 a ∙ rw (ne_eqb a s z) e
      by other k = (laws.stays c h a g k (q.0 k)).0 ∙ e
