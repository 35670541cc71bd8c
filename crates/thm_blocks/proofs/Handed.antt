-- K8 and K9 over lists of calls on the board that the contracts give: from any state, arena and directory, and from every load.
use Prim.Native.Nat.{ℕ, zero, suc, ◌^◌, ◌<◌}
use mathlib.Core.Path.{◌≡◌, refl, sym, subst, ap, ◌∙◌}
use mathlib.Core.Bool.{Bool, true, false, ◌&&◌}
use mathlib.Core.List.{List, [], ◌∷◌, ◌++◌}
use native.Mathlib.Omega.{arith}
use native.Mathlib.Decide.{ℕ_discrete}
use borrow.Author.Tests.{eq-eqb, ne_eqb, eqb-true, le-ltb}
use lib.Dec.{ltb}
use lib.Ieee.{Float}
use Rattle.cut.specs.Calls.{Call, run, other, answered, RunGave, Point, start, noted, after_run}
use Rattle.memory.specs.Range.{MemoryTyped}
use Rattle.call_refusals.specs.Refusals.{first_of}
use Rattle.directory.specs.Block.{start_of, len_of, number_of, word_of}
use Rattle.directory.specs.Fit.{sound, fit}
use Rattle.directory.specs.Calls.{register_refusal, registered, word_at, lookup as lookup_gives}
use Rattle.directory.proofs.Laws.Pages.{fits-says}
use Rattle.directory.proofs.Laws.Registered.{accepted as register-accepted, word_back, registered-fit}
use Rattle.directory.proofs.Laws.Dropped.{word-start, dropped-fit}
use Rattle.call_blocks.specs.Blocks.{emptied}
use Rattle.call_blocks.proofs.Laws.{register-number as number_of_lem}
use Rattle.handed.specs.Handed.{Kind, registers, other as another, AllTyped, Always, NoneOf, NoCause}
use Rattle.handed.specs.Handed as Any
use Rattle.handed.proofs.Handed as Any-proofs
use Rattle.thm_machine.specs.Calls.{Held, Other, cpu_read, cpu_peek, cpu_write, chr_read, chr_write, fill, region_peek, region_write, sram}
use Rattle.thm_machine.specs.Calls.{reset, sync_battery, restore_battery, write_image}
use Rattle.board_chip.specs.Load.{chip_at_load}
use Rattle.call_load.specs.Cartridge.{chosen, memory_at_load, fresh_state}
use Rattle.thm_machine.specs.Start.{Loaded, loaded}
use Rattle.thm_machine.proofs.Start.{load-starts}
use Rattle.thm_range.proofs.Calls.{memory-load}
use Rattle.thm_steps.proofs.Protection.{remap-banks-kept}
use Rattle.thm_blocks.specs.Calls.{HeldBlocks, BlockCall, base, register, lookup, NumberTyped, BlockAnswer, found, none}
use Rattle.thm_blocks.specs.Board.{block_gives, block_run, block_board}
use Rattle.thm_blocks.specs.Paper.{block_checks, places_after}
use Rattle.thm_blocks.specs.Cause.{word, bytes, accepted, Cause}
use Rattle.thm_blocks.specs.Handed.{after, Typed, HandsOut, Since, Spared}
use Rattle.thm_blocks.proofs.Lawful.{one, kind_of, cause_by, blocks, base-accepted}
use Rattle.thm_blocks.proofs.Lawful.{base-refused, ran-places, unregistered, emptied-word, lawful}
use Rattle.thm_blocks.proofs.Cause.{test-says, says-test}

-- ---- a list of calls, as the machine of crates/handed makes it

run-leaves : (q n : ℕ) (g : RunGave HeldBlocks Float) (p : Point HeldBlocks Float) → (after_run q n g p).state ≡ g.state
run-leaves zero n g p = refl
run-leaves (suc q) n g p = refl

all : (calls : List (Call Float BlockCall)) (p : Point HeldBlocks Float) → (noted block_board calls p).state ≡ Any.run blocks calls p.state
unfolding noted
all [] p = refl
all (run n lent ∷ calls) p =
    let g = block_run n lent p.state in
    all calls (after_run g.refusal n g p) ∙ ap (Any.run blocks calls) (run-leaves g.refusal n g p)
all (other a ∷ calls) p = all calls _

pub as-run : (calls : List (Call Float BlockCall)) (h : HeldBlocks) → after calls h ≡ Any.run blocks calls h
as-run calls h = all calls (start h)

run-append : (xs ys : List (Call Float BlockCall)) (h : HeldBlocks) → Any.run blocks (xs ++ ys) h ≡ Any.run blocks ys (Any.run blocks xs h)
run-append [] ys h = refl
run-append (c ∷ xs) ys h = run-append xs ys (one c h)

-- ---- what a lookup hands out

-- K4: it answers a block where a fit directory holds one, whose word has that length and number
pub record Holds (h : HeldBlocks) (a n k : ℕ) : Type 0 where
  pub held : word a h ≡ 0 → ⊥
  pub length : len_of (word a h) ≡ n
  pub number : number_of (word a h) ≡ k
  pub address : ltb a 0x4800 ≡ false

pub out-says : (h : HeldBlocks) (a n k : ℕ) → HandsOut h a n k → Holds h a n k
unfolding block_gives lookup_gives
out-says h a n k e = go (fit h.places) refl (ltb a 0x4800) refl (ℕ_discrete (word_at a h.places) 0)
  where
    never : {X : Type 0} → (b : Rattle.cut.specs.Calls.Reply BlockAnswer) → (block_gives (lookup a) h).reply ≡ b
        → (b ≡ answered (found n k) → ⊥) → X
    never b q d = absurd (d (sym q ∙ e))

    go : (f : Bool) → fit h.places ≡ f → (l : Bool) → ltb a 0x4800 ≡ l → Dec (word_at a h.places ≡ 0) → Holds h a n k
    go false f l p d = never (Rattle.cut.specs.Calls.refused 2) (rw f) (λ q. let z : ◌≡◌ {A = ℕ} 0 1 = cc in omega arith)
    go true f true p d = never (Rattle.cut.specs.Calls.refused 8) (rw (f, p)) (λ q. let z : ◌≡◌ {A = ℕ} 0 1 = cc in omega arith)
    go true f false p (yes z) =
        never (answered none) (rw (f, p, eq-eqb (word_at a h.places) 0 z)) (λ q. let z : ◌≡◌ {A = ℕ} 0 1 = cc in omega arith)
    go true f false p (no z) =
        let r : answered (found (len_of (word_at a h.places)) (number_of (word_at a h.places))) ≡ answered (found n k) =
        rw (f, p, ne_eqb (word_at a h.places) 0 z) at e in
        record { held = rw f z; length = rw f cc; number = rw f cc; address = p }

pub says-out : (h : HeldBlocks) (a n k : ℕ) → Holds h a n k → HandsOut h a n k
unfolding block_gives lookup_gives
says-out h a n k s = go (fit h.places) refl
  where
    go : (f : Bool) → fit h.places ≡ f → HandsOut h a n k
    go false f = absurd (s.held (rw f))
    go true f =
        let z : word_at a h.places ≡ 0 → ⊥ = rw f at s.held in
        let l : len_of (word_at a h.places) ≡ n = rw f at s.length in
        let m : number_of (word_at a h.places) ≡ k = rw f at s.number in
        rw (f, s.address, ne_eqb (word_at a h.places) 0 z, l, m)

-- ---- a call that registers

-- the call that the machine's kind speaks of
record Registering (c : Call Float BlockCall) (h : HeldBlocks) (a w : ℕ) : Type 0 where
  len : ℕ
  number : ℕ
  is : c ≡ other (register a len number)
  taken : register_refusal h.places a len ≡ 0
  makes : word_of a len number ≡ w

kind-says : (c : Call Float BlockCall) (h : HeldBlocks) (a w : ℕ) → kind_of c h ≡ registers a w → Registering c h a w
kind-says (run n lent) h a w e = let z : ◌≡◌ {A = ℕ} 0 1 = cc in absurd (omega arith)
kind-says (other (base b)) h a w e = let z : ◌≡◌ {A = ℕ} 0 1 = cc in absurd (omega arith)
kind-says (other (register s l n)) h a w e = by (ℕ_discrete (register_refusal h.places s l) 0)
  where
    by : Dec (register_refusal h.places s l ≡ 0) → Registering (other (register s l n)) h a w
    by (yes r) =
        let k : registers s (word_of s l n) ≡ registers a w = rw (eq-eqb (register_refusal h.places s l) 0 r) at e in
        let es : s ≡ a = cc in
        record {
          len = l;
          number = n;
          is = ap (λ (x : ℕ). other (register x l n)) es;
          taken = rw (← es) r;
          makes = rw (← es) cc;
        }
    by (no r) =
        let k : another ≡ registers a w = rw (ne_eqb (register_refusal h.places s l) 0 r) at e in
        let z : ◌≡◌ {A = ℕ} 0 1 = cc in absurd (omega arith)
kind-says (other (lookup s)) h a w e = let z : ◌≡◌ {A = ℕ} 0 1 = cc in absurd (omega arith)

-- accepted is what the scope's checks say
register-number : (s l n : ℕ) (h : HeldBlocks) → first_of (block_checks (register s l n) h) ≡ register_refusal h.places s l
unfolding block_checks
register-number s l n h = number_of_lem h.places s l

taken-accepted : (s l n : ℕ) (h : HeldBlocks) → register_refusal h.places s l ≡ 0 → accepted (register s l n) h ≡ true
taken-accepted s l n h e = eq-eqb (first_of (block_checks (register s l n) h)) 0 (register-number s l n h ∙ e)

accepted-kind : (s l n : ℕ) (h : HeldBlocks) → accepted (register s l n) h ≡ true
    → kind_of (other (register s l n)) h ≡ registers s (word_of s l n)
accepted-kind s l n h e =
    rw (eq-eqb (register_refusal h.places s l) 0 (sym (register-number s l n h)
    ∙ eqb-true (first_of (block_checks (register s l n) h)) 0 e))

typed_at : (pre post : List (Call Float BlockCall)) (c : Call Float BlockCall) → AllTyped NumberTyped (pre ++ (c ∷ post)) → NumberTyped c
typed_at [] post c t = t.0
typed_at (d ∷ pre) post c t = typed_at pre post c t.1

none-at : (a : ℕ) (cs : List (Call Float BlockCall)) (h : HeldBlocks) → NoneOf blocks a cs h → (mid rest : List (Call Float BlockCall))
    (c : Call Float BlockCall) → cs ≡ mid ++ (c ∷ rest) → (w : ℕ) → kind_of c (Any.run blocks mid h) ≡ registers a w → ⊥
none-at a [] h n [] rest c e w k = let z : ◌≡◌ {A = ℕ} 0 1 = cc in omega arith
none-at a [] h n (d ∷ mid) rest c e w k = let z : ◌≡◌ {A = ℕ} 0 1 = cc in omega arith
none-at a (x ∷ cs) h n [] rest c e w k = let q : x ≡ c = cc in n.0 w (rw q k)
none-at a (x ∷ cs) h n (d ∷ mid) rest c e w k =
    let q : x ≡ d = cc in let r : cs ≡ mid ++ (c ∷ rest) = cc in
    none-at a cs (one x h) n.1 mid rest c r w (rw q k)

-- ---- K8: handed out

module _ (calls : List (Call Float BlockCall)) (h : HeldBlocks) (t : AllTyped NumberTyped calls) (g : Typed h) (a n k : ℕ) where
  pub handed_out : word a h ≡ 0 → HandsOut (after calls h) a n k → Since calls h a n k
  handed_out z e =
      let o = out-says (after calls h) a n k e in
      let w = word a (after calls h) in
      let s = Any-proofs.handed_out blocks Typed NumberTyped lawful a w o.held calls h t g z (ap (word a) (sym (as-run calls h))) in
      let r = kind-says s.call (Any.run blocks s.pre h) a w s.by in
      let y : NumberTyped s.call = typed_at s.pre s.post s.call (rw s.split at t) in
      made s r y o
    where
      made : (s : Any.Since blocks a (word a (after calls h)) calls h)
          → (r : Registering s.call (Any.run blocks s.pre h) a (word a (after calls h)))
          → NumberTyped s.call → Holds (after calls h) a n k → Since calls h a n k
      made s r y o =
          let was = register-accepted (Any.run blocks s.pre h).places a r.len r.taken in
          let f = fits-says a r.len was.block in
          let small : r.number < 2 ^ 32 = rw r.is at y in
          let b = word_back a r.len r.number (omega (arith, f.to, f.some)) was.block small in
          let el : r.len ≡ n = sym b.len-back ∙ ap len_of r.makes ∙ o.length in
          let ek : r.number ≡ k = sym b.number-back ∙ ap number_of r.makes ∙ o.number in
          let ec : s.call ≡ other (register a n k) = r.is ∙ rw (el, ek) in
          let ew : word a (after calls h) ≡ word_of a n k = sym r.makes ∙ rw (el, ek) in
          let es : start_of (word a (after calls h)) ≡ a = sym (ap start_of r.makes) ∙ b.start_back in
          let at : (mid : List (Call Float BlockCall)) → after (s.pre ++ (other (register a n k) ∷ mid)) h
          ≡ Any.run blocks mid (one s.call (Any.run blocks s.pre h)) = λ mid.
          as-run (s.pre ++ (other (register a n k) ∷ mid)) h ∙ run-append s.pre (other (register a n k) ∷ mid) h ∙ rw ec in
          record {
            pre = s.pre;
            post = s.post;
            split = s.split ∙ rw ec;
            taken = rw (as-run s.pre h) (taken-accepted a n k (Any.run blocks s.pre h) (rw (← el) r.taken));
            last = λ mid rest len number e q.
                none-at a s.post (one s.call (Any.run blocks s.pre h)) s.last mid rest (other (register a len number)) e
                (word_of a len number) (accepted-kind a len number (Any.run blocks mid (one s.call (Any.run blocks s.pre h)))
                (rw (at mid) at q));
            same = λ mid rest e.
                let x = Any-proofs.always-at blocks Typed NumberTyped lawful
                (λ (x : HeldBlocks). bytes (word a (after calls h)) x ≡ bytes (word a (after calls h)) (Any.run blocks s.pre h))
                s.post (one s.call (Any.run blocks s.pre h)) s.same mid rest e in
                rw (at mid, as-run s.pre h) (rw (es, o.length) at x);
          }

-- ---- K9: none goes for another cause

-- a held block's word begins with its start
held_start : (h : HeldBlocks) (a n k : ℕ) → Holds h a n k → start_of (word a h) ≡ a
held_start h a n k o = go (fit h.places) refl
  where
    go : (f : Bool) → fit h.places ≡ f → start_of (word a h) ≡ a
    go false f = absurd (o.held (rw f))
    go true f = rw f (word-start a h.places (rw f at o.held))

-- each cause drops the block
pub cause-drops : (b : Other) (h : HeldBlocks) → Typed h → (a n k : ℕ) → HandsOut h a n k → accepted (base b) h ≡ true → Cause b h a n
    → word a (after (other (base b) ∷ []) h) ≡ 0
cause-drops b h g a n k e y c =
    let o = out-says h a n k e in
    let w = word a h in
    let x : cause_by b h.held w ≡ true = says-test h g w b (rw (held_start h a n k o, o.length) c) in
    rw (as-run (other (base b) ∷ []) h) (lawful.goes (other (base b)) h a refl (rw (y, x)))

-- a block that a call left where it was is held as before
carried : (c : Call Float BlockCall) (h : HeldBlocks) (a n k : ℕ) → word a (one c h) ≡ word a h → Holds h a n k → Holds (one c h) a n k
carried c h a n k e o = record { held = rw e o.held; length = rw e o.length; number = rw e o.number; address = o.address }

-- where there is none, the machine sees none
spared-none : (calls : List (Call Float BlockCall)) (h : HeldBlocks) → Typed h → AllTyped NumberTyped calls → (a n k : ℕ) → Holds h a n k
    → Spared calls h a n → word a (Any.run blocks calls h) ≡ word a h
unfolding block_gives
spared-none [] h g t a n k o s = refl
spared-none (run m lent ∷ calls) h g t a n k o s =
    let c : Call Float BlockCall = run m lent in let e = (lawful.stays c h a g refl refl).0 in
    spared-none calls (one c h) (lawful.keeps c h t.0 g) t.1 a n k (carried c h a n k e o) (rw (as-run (c ∷ []) h) at s) ∙ e
spared-none (other (base b) ∷ calls) h g t a n k o s =
    let c : Call Float BlockCall = other (base b) in
    let e = (lawful.stays c h a g refl (none_here (accepted (base b) h) refl (cause_by b h.held (word a h)) refl)).0 in
    spared-none calls (one c h) (lawful.keeps c h t.0 g) t.1 a n k (carried c h a n k e o) (rw (as-run (c ∷ []) h) at s.1) ∙ e
  where
    none_here : (x : Bool) → accepted (base b) h ≡ x → (y : Bool) → cause_by b h.held (word a h) ≡ y → (x && y) ≡ false
    none_here false p y q = refl
    none_here true p false q = refl
    none_here true p true q = absurd (s.0 p (rw (held_start h a n k o, o.length) at (test-says h g (word a h) b q)))
spared-none (other (register r l m) ∷ calls) h g t a n k o s =
    let c : Call Float BlockCall = other (register r l m) in let e = quiet (kind_of (other (register r l m)) h) refl in
    spared-none calls (one c h) (lawful.keeps c h t.0 g) t.1 a n k (carried c h a n k e o) (rw (as-run (c ∷ []) h) at s.1) ∙ e
  where
    quiet : (x : Kind) → kind_of (other (register r l m)) h ≡ x → word a (one (other (register r l m)) h) ≡ word a h
    quiet another p = (lawful.stays (other (register r l m)) h a g p refl).0
    quiet (registers v w) p =
        let q = kind-says (other (register r l m)) h v w p in
        let ev : other (register r l m) ≡ other (register v q.len q.number) = q.is in
        let er : r ≡ v = cc in let el : l ≡ q.len = cc in
        let y = taken-accepted r l m h (rw (er, el) q.taken) in
        (lawful.registered (other (register r l m)) h v w t.0 p).0 a
        ∙ rw (ne_eqb a v (λ z. s.0 y (er ∙ sym z)))
spared-none (other (lookup r) ∷ calls) h g t a n k o s =
    let c : Call Float BlockCall = other (lookup r) in
    spared-none calls (one c h) (lawful.keeps c h t.0 g) t.1 a n k o (rw (as-run (c ∷ []) h) at s)

-- a block that is held, and that no call of a list befalls, is held behind it
pub spared : (calls : List (Call Float BlockCall)) (h : HeldBlocks) → AllTyped NumberTyped calls → Typed h → (a n k : ℕ) → HandsOut h a n k
    → Spared calls h a n → HandsOut (after calls h) a n k
spared calls h t g a n k e s =
    let o = out-says h a n k e in
    let w : word a (after calls h) ≡ word a h = ap (word a) (as-run calls h) ∙ spared-none calls h g t a n k o s in
    says-out (after calls h) a n k
    (record { held = rw w o.held; length = rw w o.length; number = rw w o.number; address = o.address })

-- and an accepted registering hands out what it registered
pub registered-out : (h : HeldBlocks) (a n k : ℕ) → k < 2 ^ 32 → accepted (register a n k) h ≡ true
    → HandsOut (after (other (register a n k) ∷ []) h) a n k
registered-out h a n k small y =
    let c : Call Float BlockCall = other (register a n k) in
    let zero' : register_refusal h.places a n ≡ 0 =
    sym (register-number a n k h) ∙ eqb-true (first_of (block_checks (register a n k) h)) 0 y in
    let was = register-accepted h.places a n zero' in
    let f = fits-says a n was.block in
    let b = word_back a n k (omega (arith, f.to, f.some)) was.block small in
    let w : word a (one c h) ≡ word_of a n k =
    (lawful.registered c h a (word_of a n k) small (accepted-kind a n k h y)).0 a ∙ rw (eq-eqb a a refl) in
    rw (as-run (c ∷ []) h) (says-out (one c h) a n k
    (record {
      held = rw w b.held;
      length = rw w b.len-back;
      number = rw w b.number-back;
      address = le-ltb a 0x4800
          was.address;
    }))

-- ---- from every load

-- K7: what a load leaves: no block
abbrev pub fresh : Loaded → HeldBlocks
fresh l = record { held = loaded l; places = emptied }

fresh-typed : (l : Loaded) → Typed (fresh l)
unfolding fresh_state
fresh-typed l =
    subst (λ (h : Held). MemoryTyped h.state.memory) (sym (load-starts l))
    ((remap-banks-kept l.options.f800_protects (chosen (chip_at_load l.mapper l.submapper l.flags l.known) l.options)
    (memory_at_load l.mapper l.sizes)).typed (memory-load l.mapper l.sizes))

pub handed-out-from-load : (l : Loaded) (calls : List (Call Float BlockCall)) → AllTyped NumberTyped calls → (a n k : ℕ)
    → HandsOut (after calls (fresh l)) a n k → Since calls (fresh l) a n k
handed-out-from-load l calls t a n k = handed_out calls (fresh l) t (fresh-typed l) a n k (emptied-word a (fresh l) refl)

-- ---- every call keeps a fit directory fit

fit-placed : (b : Other) (h : Held) (d : List ℕ) → fit d ≡ true → fit (places_after b h d) ≡ true
unfolding fit sound
fit-placed (cpu_read addr) h d f = f
fit-placed (cpu_peek addr) h d f = f
fit-placed (cpu_write addr v) h d f = dropped-fit _ d f
fit-placed (chr_read addr) h d f = f
fit-placed (chr_write addr v) h d f = dropped-fit _ d f
fit-placed (fill src bytes) h d f = refl
fit-placed (region_peek src offset) h d f = f
fit-placed (region_write src offset v) h d f = dropped-fit _ d f
fit-placed sram h d f = f
fit-placed (reset kind) h d f = f
fit-placed sync_battery h d f = refl
fit-placed restore_battery h d f = f
fit-placed (write_image buffer) h d f = f

fit-one : (c : Call Float BlockCall) (h : HeldBlocks) → NumberTyped c → fit h.places ≡ true → fit (one c h).places ≡ true
unfolding block_gives
fit-one (run n lent) h t f = rw (ran-places n lent h) f
fit-one (other (base b)) h t f = by (accepted (base b) h) refl
  where
    by : (x : Bool) → accepted (base b) h ≡ x → fit (one (other (base b)) h).places ≡ true
    by true e = rw (base-accepted b h e) (fit-placed b h.held h.places f)
    by false e = rw (base-refused b h e) f
fit-one (other (register s l n)) h t f = by (ℕ_discrete (register_refusal h.places s l) 0)
  where
    by : Dec (register_refusal h.places s l ≡ 0) → fit (registered h.places s l n) ≡ true
    by (yes r) =
        let b = fits-says s l (register-accepted h.places s l r).block in
        registered-fit h.places s l n (omega (arith, b.to, b.some)) t f
    by (no r) = rw (unregistered s l n h (rw (ne_eqb (register_refusal h.places s l) 0 r))) f
fit-one (other (lookup s)) h t f = f

fit_all : (calls : List (Call Float BlockCall)) (h : HeldBlocks) → AllTyped NumberTyped calls → fit h.places ≡ true
    → fit (Any.run blocks calls h).places ≡ true
fit_all [] h t f = f
fit_all (c ∷ calls) h t f = fit_all calls (one c h) t.1 (fit-one c h t.0 f)

-- K2: so after every list from a load the directory is fit
pub fit_stays : (calls : List (Call Float BlockCall)) (h : HeldBlocks) → AllTyped NumberTyped calls → fit h.places ≡ true
    → fit (after calls h).places ≡ true
fit_stays calls h t f = rw (as-run calls h) (fit_all calls h t f)
