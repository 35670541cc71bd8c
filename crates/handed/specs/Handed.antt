-- K8 and K9 over any machine with a directory: H is state, arena and directory together.
use Rattle.std.specs.Prelude.{ℕ, ◌≡◌, Bool, true, false, cond, List, [], ◌∷◌, ◌++◌, eqb}

-- a call that is an accepted registering, with its start and block, or another
pub data Kind : Type 0 where
  registers : ℕ → ℕ → Kind
  other : Kind

pub record Machine (H Call : Type 0) : Type 0 where
  pub after : Call → H → H
  pub kind : Call → H → Kind
  -- the block that is held at a start, or 0
  pub word : ℕ → H → ℕ
  -- the bytes that a block covers
  pub bytes : ℕ → H → List ℕ
  -- a call other than a registering is a cause for a block to go
  pub cause : Call → H → ℕ → Bool

-- what has to be shown of each call that is typed, from what is good, and that it stays good
pub record Lawful {H Call : Type 0} (m : Machine H Call) (Good : H → Type 0) (Typed : Call → Type 0) : Type 0 where
  pub keeps : (c : Call) (h : H) → Typed c → Good h → Good (m.after c h)
  pub registered : (c : Call) (h : H) (s w : ℕ) → Typed c → m.kind c h ≡ registers s w
      → ((a : ℕ) → m.word a (m.after c h) ≡ cond (eqb a s) w (m.word a h)) × ((v : ℕ) → m.bytes v (m.after c h) ≡ m.bytes v h)
  pub goes : (c : Call) (h : H) (a : ℕ) → m.kind c h ≡ other → m.cause c h (m.word a h) ≡ true → m.word a (m.after c h) ≡ 0
  pub stays : (c : Call) (h : H) (a : ℕ) → Good h → m.kind c h ≡ other → m.cause c h (m.word a h) ≡ false
      → (m.word a (m.after c h) ≡ m.word a h) × (m.bytes (m.word a h) (m.after c h) ≡ m.bytes (m.word a h) h)

abbrev pub AllTyped : {Call : Type 0} → (Call → Type 0) → List Call → Type 0
AllTyped Typed [] = Unit {0}
AllTyped Typed (c ∷ cs) = Typed c × AllTyped Typed cs

module _ {H Call : Type 0} (m : Machine H Call) where
  -- what a list leaves
  abbrev pub run : List Call → H → H
  run [] h = h
  run (c ∷ cs) h = run cs (m.after c h)

  -- at each moment of a list, the first and the last among them
  abbrev pub Always : (H → Type 0) → List Call → H → Type 0
  Always P [] h = P h
  Always P (c ∷ cs) h = P h × Always P cs (m.after c h)

  -- no accepted registering of a start
  abbrev pub NoneOf : ℕ → List Call → H → Type 0
  NoneOf a [] h = Unit {0}
  NoneOf a (c ∷ cs) h = ((w : ℕ) → m.kind c h ≡ registers a w → ⊥) × NoneOf a cs (m.after c h)

  -- no cause for the block of a start
  abbrev pub NoCause : ℕ → List Call → H → Type 0
  NoCause a [] h = Unit {0}
  NoCause a (c ∷ cs) h = (m.kind c h ≡ other → m.cause c h (m.word a h) ≡ false) × NoCause a cs (m.after c h)

  -- a block that is held after `calls` was registered by one of them, no later one registered its start, and from that registering on its
  -- bytes are at each moment those that it was registered with
  pub record Since (a w : ℕ) (calls : List Call) (h : H) : Type 0 where
    pub pre : List Call
    pub call : Call
    pub post : List Call
    pub split : calls ≡ pre ++ call ∷ post
    pub by : m.kind call (run pre h) ≡ registers a w
    pub last : NoneOf a post (m.after call (run pre h))
    pub same : Always (λ g. m.bytes w g ≡ m.bytes w (run pre h)) post (m.after call (run pre h))
