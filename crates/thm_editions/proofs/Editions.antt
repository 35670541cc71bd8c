-- L23: after the same calls the two editions have the same registers, sound, counter and detection. Arenas may differ, but not in the
-- battery reserve, which is all of them that a register is ever made of: no entry shows a byte of it, so no store of CPU or PPU reaches it.
use Prim.Native.Nat.{ℕ, zero, suc, ◌+◌, ◌-◌, ◌/◌, ◌%◌, ◌^◌, ◌≤◌, ◌<◌}
use mathlib.Core.Path.{◌≡◌, refl, sym, ap, subst, ◌∙◌}
use mathlib.Core.Bool.{Bool, true, cond}
use mathlib.Core.List.{List, [], ◌∷◌}
use mathlib.Core.Logic.{inl, inr}
use mathlib.Core.Option.{Option, some, none}
use native.Mathlib.Omega.{arith}
use native.Mathlib.Decide.{dec_le, ℕ_discrete}
use borrow.Author.Rules.{rules}
use borrow.Author.Tests.{eq-eqb, eqb-false}
use lib.Dec.{eqb}
use lib.Ieee.{Float}
use lib.ListN.{length, take, drop, get_or, set, length-set, length-drop, get_or-eq_default}
use lib.Seq.{length-take-le, get_or-take, get_or-drop, get_or-set_same, get_or-set_other, ext_get_or}
use Rattle.cut.specs.Calls.{Call, run, other, Point, from, start, after_run, noted}
use Rattle.cut.specs.Contract.{run_by}
use Rattle.cut.specs.Machine.{plainly, ticks}
use Rattle.cut.specs.Always.{AllTyped}
use Rattle.cut.proofs.Always.{handed-on}
use Rattle.cut.proofs.Machine.{state-more}
use Rattle.limits.proofs.Each.{cond-holds}
use Rattle.memory.specs.declared.Memory.{Memory}
use Rattle.memory.specs.declared.layout.Layout.{Layout}
use Rattle.memory.specs.declared.layout.Region.{Region}
use Rattle.memory.specs.declared.layout.Src.{Src}
use Rattle.memory.specs.declared.layout.Src.TheVariants.{BatteryExt}
use Rattle.memory.specs.declared.page.Page.{Page}
use Rattle.memory.specs.Layout.{arena_len, region_of}
use Rattle.memory.specs.Memory.{region_in}
use Rattle.memory.specs.Page.{unmapped, offset_of}
use Rattle.memory.specs.Range.{EntryIn, UsedIn}
use Rattle.memory_bytes.specs.Bytes.{prg_entry, chr_entry, stored_at, wrapped_at, store, overlay, fill_region}
use Rattle.memory_bytes.proofs.Laws.Bytes.{store_other, stored-page, region-backed, overlay-before, overlay-behind, overlay-between}
use Rattle.board_chip.specs.declared.namco163.Namco163.{Namco163}
use Rattle.board_chip.specs.Load.{chip_at_load}
use Rattle.board_chip.specs.Reads.{after_read}
use Rattle.board_chip.specs.Reset.{reset_chip}
use Rattle.sound.specs.Audio.{with_ram}
use Rattle.board_chip.specs.Namco163.{is163, with_audio}
use Rattle.board_registers.specs.Writes.{write_chip}
use Rattle.board_protection.specs.Protection.{remap_banks, remaps_in}
use Rattle.board_state.specs.declared.State.{State}
use Rattle.board_state.specs.State.{in_range, with_chip}
use Rattle.board_state.proofs.Range.{known-passes}
use Rattle.call_battery.specs.Battery.{battery_bytes}
use Rattle.call_cpu.specs.Calls.{write_register}
use Rattle.call_load.specs.Cartridge.{chosen, memory_at_load, fresh_state}
use Rattle.call_load.proofs.Laws.{load-good}
use Rattle.call_refusals.specs.Refusals.{first_of, battery_checks}
use Rattle.call_refusals.proofs.Laws.{accepted-none, fill-good, battery-good, backed}
use Rattle.call_reset.specs.Reset.{kind_of}
use Rattle.call_run.specs.Clock.{chip_clock, state_clock}
use Rattle.call_run.specs.Run.{clocks, made, run_checks, run_gave}
use Rattle.call_run.proofs.run.Laws.{made-floor}
use Rattle.thm_machine.specs.Calls.{Held, Other, cpu_read, cpu_peek, cpu_write, chr_read, chr_write, fill, region_peek, region_write, sram, reset}
use Rattle.thm_machine.specs.Calls.{sync_battery, restore_battery, write_image, ArgTyped, CallTyped}
use Rattle.thm_machine.specs.Paper.{checks, answers}
use Rattle.thm_machine.specs.Board.{other_gives, run_gives, board}
use Rattle.thm_machine.specs.Start.{Loaded, loaded}
use Rattle.thm_machine.proofs.Keeps.{keeps-other}
use Rattle.thm_machine.proofs.Start.{load-starts}
use Rattle.thm_steps.proofs.Banking.{Kept, kept_self}
use Rattle.thm_steps.proofs.Protection.{remap-banks-kept}
use Rattle.thm_range.specs.Fit.{Fit}
use Rattle.thm_range.proofs.Calls.{by_answer, other_fits, run_fits, run-memory, load_fits, ranged-load}
use Rattle.thm_editions.specs.Editions.{in_edition, ChipsAlike}
use Rattle.thm_editions.proofs.Outside.{reserve_at, reserve_end, Outside, TablesOutside, remap-banks-outside, new-outside}

-- ---- one edition: fit, and no entry shows the reserve

record Solo (h : Held) : Type 0 where
  fit : Fit h
  outside : TablesOutside h.state.memory

write-outside : (h : Held) (addr v : ℕ) → Solo h → TablesOutside (write_register h.state addr v).memory
unfolding write_register
write-outside h addr v s =
    let m = h.state.memory in
    let n = write_chip h.state.chip addr v in
    let e = h.state.f800_protects in
    cond-holds TablesOutside (remaps_in e h.state.chip.board n.board addr) _ _
    (remap-banks-outside e n m s.fit.known.range.memory.ranged s.outside) s.outside

answers-outside : (a : Other) (h : Held) → Solo h → TablesOutside (answers a h).state.state.memory
unfolding answers
answers-outside (cpu_read addr) h s = s.outside
answers-outside (cpu_peek addr) h s = s.outside
answers-outside (cpu_write addr v) h s = write-outside h addr v s
answers-outside (chr_read addr) h s = s.outside
answers-outside (chr_write addr v) h s = s.outside
answers-outside (fill src bytes) h s = s.outside
answers-outside (region_peek src offset) h s = s.outside
answers-outside (region_write src offset v) h s = s.outside
answers-outside sram h s = s.outside
answers-outside (reset kind) h s = s.outside
answers-outside sync_battery h s = s.outside
answers-outside restore_battery h s = s.outside
answers-outside (write_image buffer) h s = s.outside

solo-other : (a : Other) (h : Held) → ArgTyped a → Solo h → Solo (other_gives a h).state
solo-other a h t s =
    record {
      fit = other_fits a h t s.fit;
      outside = by_answer (λ (x : Held). TablesOutside x.state.memory) a h s.outside (λ e. answers-outside a h s);
    }

solo_run : (n : ℕ) (lent : List Float) (h : Held) → Solo h → Solo (run_gives n lent h).state
solo_run n lent h s = record { fit = run_fits n lent h s.fit; outside = rw (run-memory n lent h) s.outside }

-- ---- two editions beside each other

record Same (h k : Held) : Type 0 where
  chip : k.state.chip ≡ h.state.chip
  layout : k.state.memory.layout ≡ h.state.memory.layout
  used : k.state.memory.battery_ext_len ≡ h.state.memory.battery_ext_len
  reserve : (i : ℕ) → reserve_at h.state.memory.layout ≤ i → i < reserve_end h.state.memory.layout
      → get_or k.arena i 0 ≡ get_or h.arena i 0

-- a store through an entry leaves the reserve
clear-store : (l : Layout) (p : Page) (addr i n : ℕ) → EntryIn n p → Outside l p → reserve_at l ≤ i → i < reserve_end l
    → stored_at p addr ≡ some i → ⊥
clear-store l p addr i n e c low high s = by c (stored-page n p addr i e s).0
  where
    by : Outside l p → i / 1024 ≡ offset_of p / 1024 → ⊥
    by (inl o) q = omega (arith, e.page_start)
    by (inr o) q = omega (arith, e.page_start)

module _ (h : Held) (s : Solo h) (i : ℕ) (low : reserve_at h.state.memory.layout ≤ i) (high : i < reserve_end h.state.memory.layout)
  where
    abbrev m : Memory
    m = h.state.memory

    prg-store : (addr v : ℕ) → get_or (store h.arena (stored_at (prg_entry m addr) addr) v) i 0 ≡ get_or h.arena i 0
    unfolding stored_at
    prg-store addr v = store_other h.arena (stored_at (prg_entry m addr) addr) v i (λ e. by (dec_le 64 (addr / 1024)) e)
      where
        by : Dec (64 ≤ addr / 1024) → stored_at (prg_entry m addr) addr ≡ some i → ⊥
        by (yes g) e =
            let z : prg_entry m addr ≡ unmapped =
            get_or-eq_default m.prg_pages unmapped {n = addr / 1024} (omega (arith, s.fit.known.typed.memory.prg)) in
            let t : Path (Option ℕ) none (some i) = rw z at e in
            let y : ◌≡◌ {A = ℕ} 0 1 = cc in omega arith
        by (no g) e =
            clear-store m.layout (prg_entry m addr) addr i _
            (s.fit.known.range.memory.ranged.prg (addr / 1024) (omega (arith, g))) (s.outside.prg (addr / 1024)) low high e

    chr-store : (addr v : ℕ) → get_or (store h.arena (stored_at (chr_entry m addr) addr) v) i 0 ≡ get_or h.arena i 0
    chr-store addr v =
        store_other h.arena (stored_at (chr_entry m addr) addr) v i
        (clear-store m.layout (chr_entry m addr) addr i _ (s.fit.known.range.memory.ranged.chr (addr / 1024 % 16) (omega arith))
        (s.outside.chr (addr / 1024 % 16)) low high)

-- clocks go by the chip alone, and leave the memory
clocks-chip : (n : ℕ) (s t : State) → t.chip ≡ s.chip → (clocks n t).state.chip ≡ (clocks n s).state.chip
unfolding ticks state_clock
clocks-chip zero s t e = e
clocks-chip (suc n) s t e =
    rw (state-more state_clock n t, state-more state_clock n s)
    (ap (λ (c : Namco163). (chip_clock c).state) (clocks-chip n s t e))

clocks-kept : (n : ℕ) (s : State) → (clocks n s).state.memory ≡ s.memory
unfolding ticks state_clock
clocks-kept zero s = refl
clocks-kept (suc n) s = rw (state-more state_clock n s) (clocks-kept n s)

-- the same bytes laid over both, or one stored into the same place
overlay-same : (a b : List ℕ) (at : ℕ) (bytes : List ℕ) (i : ℕ) → at + length bytes ≤ length a → at + length bytes ≤ length b
    → get_or b i 0 ≡ get_or a i 0 → get_or (overlay b at bytes) i 0 ≡ get_or (overlay a at bytes) i 0
overlay-same a b at bytes i x y e = by (dec_le at i) (dec_le (at + length bytes) i)
  where
    by : Dec (at ≤ i) → Dec (at + length bytes ≤ i) → get_or (overlay b at bytes) i 0 ≡ get_or (overlay a at bytes) i 0
    by (no p) q =
        let l : i < at = omega (arith, p) in overlay-before b at bytes i y l ∙ e ∙ sym (overlay-before a at bytes i x l)
    by (yes p) (yes q) = overlay-behind b at bytes i y q ∙ e ∙ sym (overlay-behind a at bytes i x q)
    by (yes p) (no q) =
        let j = i - at in
        let z : at + j ≡ i = omega arith in
        let l : j < length bytes = omega (arith, q) in
        rw z at (overlay-between b at bytes j y l ∙ sym (overlay-between a at bytes j x l))

store_same_at : (a b : List ℕ) (at : Option ℕ) (v i : ℕ) → length b ≡ length a → get_or b i 0 ≡ get_or a i 0
    → get_or (store b at v) i 0 ≡ get_or (store a at v) i 0
store_same_at a b none v i l e = e
store_same_at a b (some j) v i l e = by (ℕ_discrete i j) (dec_le (length a) j)
  where
    by : Dec (i ≡ j) → Dec (length a ≤ j) → get_or (set b j v) i 0 ≡ get_or (set a j v) i 0
    by (no n) d = get_or-set_other b j i v 0 n ∙ e ∙ sym (get_or-set_other a j i v 0 n)
    by (yes q) (no n) = rw q (get_or-set_same b j v 0 (omega (arith, l, n)) ∙ sym (get_or-set_same a j v 0 (omega (arith, n))))
    by (yes q) (yes n) =
        get_or-eq_default (set b j v) 0 {n = i} (rw length-set (omega (arith, l, q)))
        ∙ sym (get_or-eq_default (set a j v) 0 {n = i} (rw length-set (omega (arith, q))))

-- a call that is no image writing
abbrev image_num : Other → ℕ
image_num (cpu_read addr) = 0
image_num (cpu_peek addr) = 0
image_num (cpu_write addr v) = 0
image_num (chr_read addr) = 0
image_num (chr_write addr v) = 0
image_num (fill src bytes) = 0
image_num (region_peek src offset) = 0
image_num (region_write src offset v) = 0
image_num sram = 0
image_num (reset kind) = 0
image_num sync_battery = 0
image_num restore_battery = 0
image_num (write_image buffer) = 1

module _ (h k : Held) (sh : Solo h) (sk : Solo k) (q : Same h k) where
  abbrev hm : Memory
  hm = h.state.memory

  abbrev km : Memory
  km = k.state.memory

  long : length k.arena ≡ length h.arena
  long = sk.fit.long ∙ ap arena_len q.layout ∙ sym sh.fit.long

  region-same : (src : Src) → region_in km src ≡ region_in hm src
  region-same src = rw (q.layout, q.used)

  -- what a call other than image writing is refused by: both states are known and both arenas as long as they have to be
  number_same : (a : Other) → image_num a ≡ 0 → first_of (checks a k) ≡ first_of (checks a h)
  unfolding first_of checks
  number_same a n = by a n
    where
      pk : in_range k.state ≡ true
      pk = known-passes k.state sk.fit.known

      ph : in_range h.state ≡ true
      ph = known-passes h.state sh.fit.known

      lk : eqb (length k.arena) (arena_len km.layout) ≡ true
      lk = eq-eqb (length k.arena) (arena_len km.layout) sk.fit.long

      lh : eqb (length h.arena) (arena_len hm.layout) ≡ true
      lh = eq-eqb (length h.arena) (arena_len hm.layout) sh.fit.long

      by : (a : Other) → image_num a ≡ 0 → first_of (checks a k) ≡ first_of (checks a h)
      by (cpu_read addr) n = rw (pk, ph, lk, lh)
      by (cpu_peek addr) n = rw (pk, ph, lk, lh)
      by (cpu_write addr v) n = rw (pk, ph, lk, lh)
      by (chr_read addr) n = rw (pk, ph, lk, lh)
      by (chr_write addr v) n = rw (pk, ph, lk, lh)
      by (fill src bytes) n = rw (pk, ph, lk, lh, region-same src)
      by (region_peek src offset) n = rw (pk, ph, lk, lh)
      by (region_write src offset v) n = rw (pk, ph, lk, lh)
      by sram n = rw (pk, ph)
      by (reset kind) n = rw (pk, ph)
      by sync_battery n = rw (pk, ph, lk, lh, q.used)
      by restore_battery n = rw (pk, ph, lk, lh, q.used)
      by (write_image buffer) n = absurd (omega arith)

  -- the same states with other chips, alike; or other arenas
  with-chips : (x y : Namco163) → y ≡ x → Same (record { state = with_chip h.state x; arena = h.arena })
      (record { state = with_chip k.state y; arena = k.arena })
  with-chips x y e = record { chip = e; layout = q.layout; used = q.used; reserve = q.reserve }

  with-arenas : (a b : List ℕ)
      → ((i : ℕ) → reserve_at hm.layout ≤ i → i < reserve_end hm.layout → get_or b i 0 ≡ get_or a i 0)
      → Same (record { state = h.state; arena = a }) (record { state = k.state; arena = b })
  with-arenas a b e = record { chip = q.chip; layout = q.layout; used = q.used; reserve = e }

  -- the reserve of the one is that of the other
  in-k : (i : ℕ) → reserve_at hm.layout ≤ i → reserve_at km.layout ≤ i
  in-k i l = rw q.layout l

  in-k-end : (i : ℕ) → i < reserve_end hm.layout → i < reserve_end km.layout
  in-k-end i l = rw q.layout l

  -- the bytes that a restore takes
  battery-same : first_of (checks restore_battery h) ≡ 0 → first_of (checks restore_battery k) ≡ 0
      → battery_bytes k.state k.arena ≡ battery_bytes h.state h.arena
  unfolding checks region_of
  battery-same eh ek =
      let gh = battery-good h.state (length h.arena) eh in
      let gk = battery-good k.state (length k.arena) ek in
      let at = (region_in hm BatteryExt).start in
      let start : (region_in km BatteryExt).start ≡ at = ap (λ (r : Region). r.start) (region-same BatteryExt) in
      rw start
      (ext_get_or 0 (take 128 (drop at k.arena)) (take 128 (drop at h.arena))
      (length-take-le 128 (drop at k.arena) (rw (length-drop at k.arena) (omega (arith, gh.inside, long)))
      ∙ sym (length-take-le 128 (drop at h.arena) (rw (length-drop at h.arena) (omega (arith, gh.inside)))))
      (λ i l.
      let small : i < 128 =
      rw (length-take-le 128 (drop at k.arena) (rw (length-drop at k.arena) (omega (arith, gh.inside, long)))) at l in
      get_or-take 128 (drop at k.arena) i 0 small ∙ get_or-drop at k.arena i 0
      ∙ q.reserve (at + i) (omega arith) (omega (arith, small, pages))
      ∙ sym (get_or-take 128 (drop at h.arena) i 0 small ∙ get_or-drop at h.arena i 0)))
    where
      some-used : UsedIn hm.battery_ext_len hm.layout → 1 ≤ hm.layout.battery_ext
      some-used (inl z) =
          let c = accepted-none (battery_checks h.state (length h.arena)) (search rules) eh in
          absurd (eqb-false hm.battery_ext_len 0 c.1.1.0 z)
      some-used (inr x) = x.1

      pages : 1 ≤ hm.layout.battery_ext
      pages = some-used sh.fit.known.range.memory.used

  -- ---- an accepted call

  write_kept : (x : Held) (addr v : ℕ) → Kept x.state.memory (write_register x.state addr v).memory
  unfolding write_register
  write_kept x addr v =
      let n = write_chip x.state.chip addr v in
      let e = x.state.f800_protects in
      cond-holds (Kept x.state.memory) (remaps_in e x.state.chip.board n.board addr) _ _
      (remap-banks-kept e n x.state.memory) (kept_self x.state.memory)

  write_same : (addr v : ℕ) → Same (answers (cpu_write addr v) h).state (answers (cpu_write addr v) k).state
  unfolding answers
  write_same addr v =
      let wh = write_kept h addr v in
      let wk = write_kept k addr v in
      let chips : (write_register k.state addr v).chip ≡ (write_register h.state addr v).chip =
      unfold write_register in ap (λ (n : Namco163). write_chip n addr v) q.chip in
      record {
        chip = chips;
        layout = wk.layout ∙ q.layout ∙ sym wh.layout;
        used = wk.used ∙ q.used ∙ sym wh.used;
        reserve = λ i l r.
            let low : reserve_at hm.layout ≤ i = rw wh.layout at l in
            let high : i < reserve_end hm.layout = rw wh.layout at r in
            prg-store k sk i (in-k i low) (in-k-end i high) addr v ∙ q.reserve i low high ∙ sym (prg-store h sh i low high addr v);
      }

  accepted-same : (a : Other) → first_of (checks a h) ≡ 0 → first_of (checks a k) ≡ 0 → Same (answers a h).state (answers a k).state
  unfolding answers checks fill_region
  accepted-same (cpu_read addr) eh ek = with-chips _ _ (ap (λ (n : Namco163). after_read n addr) q.chip)
  accepted-same (cpu_peek addr) eh ek = q
  accepted-same (cpu_write addr v) eh ek = write_same addr v
  accepted-same (chr_read addr) eh ek = q
  accepted-same (chr_write addr v) eh ek =
      with-arenas _ _ (λ i l r.
      chr-store k sk i (in-k i l) (in-k-end i r) addr v ∙ q.reserve i l r ∙ sym (chr-store h sh i l r addr v))
  accepted-same (fill src bytes) eh ek =
      let gh = fill-good h.state (length h.arena) src (length bytes) eh in
      let ih = region-backed hm h.arena (backed h.state h.arena gh.0) src in
      let at = (region_in hm src).start in
      let start : (region_in km src).start ≡ at = ap (λ (r : Region). r.start) (region-same src) in
      with-arenas _ _ (λ i l r.
      ap (λ (x : ℕ). get_or (overlay k.arena x bytes) i 0) start
      ∙ overlay-same h.arena k.arena at bytes i (omega (arith, ih, gh.1)) (omega (arith, ih, gh.1, long)) (q.reserve i l r))
  accepted-same (region_peek src offset) eh ek = q
  accepted-same (region_write src offset v) eh ek =
      with-arenas _ _ (λ i l r.
      ap (λ (x : Region). get_or (store k.arena (wrapped_at x offset) v) i 0) (region-same src)
      ∙ store_same_at h.arena k.arena (wrapped_at (region_in hm src) offset) v i long (q.reserve i l r))
  accepted-same sram eh ek = q
  accepted-same (reset kind) eh ek = with-chips _ _ (ap (λ (n : Namco163). reset_chip n (kind_of kind)) q.chip)
  accepted-same sync_battery eh ek =
      let gh = battery-good h.state (length h.arena) eh in
      let at = (region_in hm BatteryExt).start in
      let ram = h.state.chip.audio.ram in
      let short = sh.fit.known.typed.chip.audio.ram_length in
      let start : (region_in km BatteryExt).start ≡ at = ap (λ (r : Region). r.start) (region-same BatteryExt) in
      with-arenas _ _ (λ i l r.
      ap (λ (x : ℕ). get_or (overlay k.arena x k.state.chip.audio.ram) i 0) start
      ∙ ap (λ (n : Namco163). get_or (overlay k.arena at n.audio.ram) i 0) q.chip
      ∙ overlay-same h.arena k.arena at ram i (omega (arith, gh.inside, short)) (omega (arith, gh.inside, short, long))
      (q.reserve i l r))
  accepted-same restore_battery eh ek =
      with-chips _ _
      (ap (λ (n : Namco163). with_audio n (with_ram n.audio (battery_bytes k.state k.arena))) q.chip
      ∙ ap (λ (b : List ℕ). with_audio h.state.chip (with_ram h.state.chip.audio b)) (battery-same eh ek))
  accepted-same (write_image buffer) eh ek = q

  -- ---- every call, refused or not

  both-same : (a : Other) → image_num a ≡ 0 → Same (other_gives a h).state (other_gives a k).state
  both-same a n =
      rw (keeps-other a h, keeps-other a k)
      (subst (λ (x : ℕ). Same (plainly (first_of (checks a h)) (answers a h) h).state (plainly x (answers a k) k).state)
      (sym (number_same a n)) (go (first_of (checks a h)) refl))
    where
      go : (x : ℕ) → first_of (checks a h) ≡ x → Same (plainly x (answers a h) h).state (plainly x (answers a k) k).state
      go zero e = accepted-same a e (number_same a n ∙ e)
      go (suc x) e = q

  -- image writing may be refused in one edition alone, and leaves both
  image-keeps : (buffer : List ℕ) (x : Held) → (other_gives (write_image buffer) x).state ≡ x
  image-keeps buffer x = by_answer (λ (y : Held). y ≡ x) (write_image buffer) x refl (λ e. unfold answers in refl)

  other-same : (a : Other) → Same (other_gives a h).state (other_gives a k).state
  other-same (cpu_read addr) = both-same (cpu_read addr) refl
  other-same (cpu_peek addr) = both-same (cpu_peek addr) refl
  other-same (cpu_write addr v) = both-same (cpu_write addr v) refl
  other-same (chr_read addr) = both-same (chr_read addr) refl
  other-same (chr_write addr v) = both-same (chr_write addr v) refl
  other-same (fill src bytes) = both-same (fill src bytes) refl
  other-same (region_peek src offset) = both-same (region_peek src offset) refl
  other-same (region_write src offset v) = both-same (region_write src offset v) refl
  other-same sram = both-same sram refl
  other-same (reset kind) = both-same (reset kind) refl
  other-same sync_battery = both-same sync_battery refl
  other-same restore_battery = both-same restore_battery refl
  other-same (write_image buffer) = rw (image-keeps buffer h, image-keeps buffer k) q

  -- ---- a run

  -- how many samples it makes is a matter of the chip
  made-same : (n : ℕ) → made n k.state ≡ made n h.state
  made-same n =
      made-floor n k.state sk.fit.known.range.chip.audio.counter
      ∙ ap (λ (c : Namco163). cond (is163 c.board) (cond c.audio.disabled 0 ((c.audio.update_counter + n) / 15)) 0) q.chip
      ∙ sym (made-floor n h.state sh.fit.known.range.chip.audio.counter)

  run-number : (n room : ℕ) → first_of (run_checks k.state n room) ≡ first_of (run_checks h.state n room)
  unfolding first_of
  run-number n room =
      rw (known-passes k.state sk.fit.known, known-passes h.state sh.fit.known, made-same n)

  run-same : (n : ℕ) (lent : List Float) → Same (run_gives n lent h).state (run_gives n lent k).state
  unfolding run_gives run_gave
  run-same n lent =
      subst (λ (x : ℕ). Same (ran (first_of (run_checks h.state n (length lent))) h) (ran x k)) (sym (run-number n (length lent)))
      (go (first_of (run_checks h.state n (length lent))))
    where
      ran : ℕ → Held → Held
      ran x y = record { state = (run_by x (clocks n y.state) lent y.state).state; arena = y.arena }

      go : (x : ℕ) → Same (ran x h) (ran x k)
      go zero =
          let lk = clocks-kept n k.state in
          let lh = clocks-kept n h.state in
          record {
            chip = clocks-chip n h.state k.state q.chip;
            layout = ap (λ (m : Memory). m.layout) lk ∙ q.layout ∙ sym (ap (λ (m : Memory). m.layout) lh);
            used = ap (λ (m : Memory). m.battery_ext_len) lk ∙ q.used ∙ sym (ap (λ (m : Memory). m.battery_ext_len) lh);
            reserve = λ i l r. q.reserve i (rw lh at l) (rw lh at r);
          }
      go (suc x) = q

-- ---- every list of calls

along : (calls : List (Call Float Other)) (x y : Point Held Float) → AllTyped CallTyped calls → Solo x.state → Solo y.state
    → Same x.state y.state → Same (noted board calls x).state (noted board calls y).state
unfolding noted
along [] x y t sx sy q = q
along (run n lent ∷ calls) x y t sx sy q =
    let gx = run_gives n lent x.state in
    let gy = run_gives n lent y.state in
    let ex = handed-on gx.refusal n gx x in
    let ey = handed-on gy.refusal n gy y in
    along calls (after_run gx.refusal n gx x) (after_run gy.refusal n gy y) t.1
    (rw ex (solo_run n lent x.state sx)) (rw ey (solo_run n lent y.state sy))
    (rw (ex, ey) (run-same x.state y.state sx sy q n lent))
along (other a ∷ calls) x y t sx sy q =
    along calls (from (other_gives a x.state).state x.count) (from (other_gives a y.state).state y.count) t.1
    (solo-other a x.state t.0 sx) (solo-other a y.state t.0 sy) (other-same x.state y.state sx sy q a)

-- ---- from a load

load-outside : (l : Loaded) → TablesOutside (loaded l).state.memory
unfolding fresh_state memory_at_load
load-outside l =
    let g = load-good l.mapper l.sizes (length l.arena) l.accepted in
    let z = new-outside l.sizes g.fits.within in
    subst (λ (h : Held). TablesOutside h.state.memory) (sym (load-starts l))
    (remap-banks-outside l.options.f800_protects (chosen (chip_at_load l.mapper l.submapper l.flags l.known) l.options)
    (memory_at_load l.mapper l.sizes) (ranged-load l.mapper l.sizes g.fits) (record { prg = z.prg; chr = z.chr }))

load-solo : (l : Loaded) → l.submapper < 2 ^ 8 → Solo (loaded l)
load-solo l sub = record { fit = load_fits l sub; outside = load-outside l }

load_same : (l : Loaded) (protects : Bool) → Same (loaded l) (loaded (in_edition l protects))
unfolding fresh_state
load_same l protects =
    let n = chosen (chip_at_load l.mapper l.submapper l.flags l.known) l.options in
    let m = memory_at_load l.mapper l.sizes in
    let a = remap-banks-kept l.options.f800_protects n m in
    let b = remap-banks-kept protects n m in
    rw (load-starts l, load-starts (in_edition l protects))
    (record {
      chip = refl;
      layout = b.layout ∙ sym a.layout;
      used = b.used ∙ sym a.used;
      reserve = λ i low high. refl;
    })

pub chips-alike : ChipsAlike
chips-alike l protects sub calls t =
    let other = in_edition l protects in
    (along calls (start (loaded l)) (start (loaded other)) t (load-solo l sub) (load-solo other sub) (load_same l protects)).chip
