-- A refusal by its number: none has 0, which says accepted, and each has its own.
use borrow.Author.Tests.{ne_eqb}
use Rattle.std.specs.Prelude.{ℕ, ◌≡◌, false, eqb, [], ◌∷◌, ◌++◌, get_or, Result, Ok, Err, IsErrAnd}
use mathlib.Core.Path.{refl, sym, ap, ◌∙◌}
use Prim.Native.Nat.{◌<◌}
use native.Mathlib.Omega.{arith}
use Rattle.refusals.specs.declared.Refusal.{Refusal}
use Rattle.refusals.specs.declared.word.Word.{Word}
use Rattle.refusals.specs.declared.Refusal.TheVariants.{Image, State, Kind, Mapper, Size, Reserve, Arena, Address, Fill, Clocks, Room}
use Rattle.refusals.specs.declared.Refusal.TheVariants.{Battery, Block, Full}
use Rattle.refusals.specs.Refusal.{number_of, refusal_of, word_of}

between : (r : Refusal) → (0 < number_of r) × (number_of r < 15)
between Image = (omega arith, omega arith)
between State = (omega arith, omega arith)
between Kind = (omega arith, omega arith)
between Mapper = (omega arith, omega arith)
between Size = (omega arith, omega arith)
between Reserve = (omega arith, omega arith)
between Arena = (omega arith, omega arith)
between Address = (omega arith, omega arith)
between Fill = (omega arith, omega arith)
between Clocks = (omega arith, omega arith)
between Room = (omega arith, omega arith)
between Battery = (omega arith, omega arith)
between Block = (omega arith, omega arith)
between Full = (omega arith, omega arith)

pub numbered : (r : Refusal) → number_of r ≡ 0 → ⊥
numbered r e = omega (arith, e, (between r).0)

-- what `?` hands on is what it met
pub errs : {A : Type 0} (r : Result A Refusal) (e : Refusal) → IsErrAnd r (λ f. f ≡ e) → r ≡ Err e
errs (Ok a) e h = absurd h
errs (Err f) e h = rw h

pub passed : {A : Type 0} (r : Result A Refusal) (e : Refusal) → IsErrAnd r (λ f. f ≡ e) → refusal_of r ≡ number_of e
passed r e h = rw (errs r e h)

pub passed-word : (r : Result Word Refusal) (e : Refusal) → IsErrAnd r (λ f. f ≡ e) → word_of r ≡ number_of e
passed-word r e h = rw (errs r e h)

-- so the test for 0 fails
pub refuses : (e : Refusal) → eqb (number_of e) 0 ≡ false
refuses e = ne_eqb (number_of e) 0 (numbered e)

-- N0: each has its own number

named : ℕ → Refusal
named n =
    let first = Image ∷ State ∷ Kind ∷ Mapper ∷ Size ∷ Reserve ∷ Arena ∷ [] in
    get_or (Image ∷ first ++ (Address ∷ Fill ∷ Clocks ∷ Room ∷ Battery ∷ Block ∷ Full ∷ [])) n Image

named-number : (r : Refusal) → named (number_of r) ≡ r
unfolding named
named-number Image = refl
named-number State = refl
named-number Kind = refl
named-number Mapper = refl
named-number Size = refl
named-number Reserve = refl
named-number Arena = refl
named-number Address = refl
named-number Fill = refl
named-number Clocks = refl
named-number Room = refl
named-number Battery = refl
named-number Block = refl
named-number Full = refl

pub number-tells : (r q : Refusal) → number_of r ≡ number_of q → r ≡ q
number-tells r q e = sym (named-number r) ∙ ap named e ∙ named-number q

-- H6: and an accepted call's word is no refusal's number: the word tells whether a call was refused, and by which
not-word : (given : Word) (r : Refusal) → given.bits ≡ number_of r → ⊥
not-word given r e = omega (arith, given.above, e, between r)

pub word-tells : (a b : Result Word Refusal) → word_of a ≡ word_of b → refusal_of a ≡ refusal_of b
word-tells (Ok g) (Ok h) e = refl
word-tells (Ok g) (Err r) e = absurd (not-word g r e)
word-tells (Err r) (Ok g) e = absurd (not-word g r (sym e))
word-tells (Err r) (Err q) e = e
