-- What is promised, as theorems, for a reader who opens one file: each statement is over definitions of specs/, and its proof cites where
-- it is shown. The public calls are contracted by the same definitions (crates/call_*/src, crates/image_*/src, crates/host/src) and have no
-- `requires`; only functions beside them have one, as the variants `.._known` for a state that is known to be in range.
use Prim.Native.Nat.{ℕ, ◌+◌, ◌-◌, ◌^◌, ◌≤◌, ◌<◌}
use mathlib.Core.Path.{◌≡◌, refl}
use mathlib.Core.Bool.{Bool, true, false, not, ◌&&◌}
use mathlib.Core.List.{List, [], ◌∷◌, ◌++◌}
use mathlib.Core.Logic.{◌⊎◌, ◌↔◌}
use lib.Ieee.{Float}
use lib.ListN.{length}
use Rattle.cut.specs.Always.{AllTyped, NeverRefused}
use Rattle.cut.specs.Calls.{Call, other, refused, answered, start, outline, all_clocks}
use Rattle.cut.specs.Demand3.{observed, FirstRise}
use Rattle.cut.specs.Machine.{machine}
use Rattle.memory.specs.declared.Memory.{Memory}
use Rattle.memory.specs.declared.layout.MemoryLayout.{MemoryLayout}
use Rattle.memory.specs.Layout.{pages_for}
use Rattle.memory.specs.Range.{MemoryTyped, Bytes}
use Rattle.sound_wave.specs.Channel.{level_at}
use Rattle.sound_clock.specs.Exact.{UpdateExact}
use Rattle.board_chip.specs.declared.namco163.Board.{Board}
use Rattle.board_chip.specs.declared.namco163.Namco163.{Namco163}
use Rattle.board_chip.specs.Load.{mirroring_at_load}
use Rattle.board_chip.specs.Namco163.{is163}
use Rattle.board_registers.specs.Writes.{remaps}
use Rattle.board_banking.specs.Banking.{update_banks}
use Rattle.board_protection.specs.Protection.{remap_banks, remaps_in, FlagsAlone}
use Rattle.board_protection.proofs.Laws.{flags-alone, old-tables, old-writes, other-tables, other-writes}
use Rattle.board_state.specs.declared.Options.{Options}
use Rattle.board_state.specs.declared.State.{State}
use Rattle.board_state.specs.State.{options_in, Known}
use Rattle.call_refusals.specs.Refusals.{first_of, kind_check}
use Rattle.call_idle.specs.Idle.{idle, counted}
use Rattle.call_run.specs.Clock.{state_clock}
use Rattle.call_run.specs.Run.{run_checks, run_gave}
use Rattle.call_run.proofs.run.Laws.{refused-run}
use Rattle.image_write.specs.Image.{image_bytes}
use Rattle.image_write.specs.Options.{image_at, option_set, room_for}
use Rattle.image_read.specs.Reading.{state_in, read_image}
use Rattle.image_read.specs.Older.{older_most, read_older}
use Rattle.image_read.proofs.RoundTrip.{read-written, written_read, lengthened}
use Rattle.image_read.proofs.Older.{older-images as same-as-before, older-image-of-state as read-before}
use Rattle.host_state.specs.HostState.{unaltered, run_own}
use Rattle.host.specs.Host.{on_image, cpu_own, host_load_checks, host_load, host_reset, host_read, host_write, host_run}
use Rattle.host.specs.Blocks.{host_lookup, load_blocks_checks, host_load_blocks, host_load_places, blocks_own, host_write_blocks, host_write_places}
use Rattle.host.specs.Blocks.{host_stored, host_stored_places}
use Rattle.host.proofs.Refused as Host
use Rattle.call_preview.specs.Preview.{preview}
use Rattle.thm_machine.specs.Calls.{Held, Other, cpu_read, cpu_write, byte, changed, CallTyped}
use Rattle.thm_machine.specs.Paper.{checks, paper}
use Rattle.thm_machine.specs.Board.{reply_of, other_gives, board}
use Rattle.thm_machine.specs.Start.{Loaded, loaded, zeroed}
use Rattle.thm_machine.specs.Counter.{counter_of, line_of, NoneTouches}
use Rattle.thm_machine.proofs.Demand3 as Machine
use Rattle.thm_range.specs.Fit.{Fit}
use Rattle.thm_range.proofs.Lists.{always-fit, never-2-or-7}
use Rattle.thm_range.specs.Zero.{NeverMinusZero}
use Rattle.thm_range.proofs.Options.{always-options}
use Rattle.thm_range.proofs.Zero.{never-minus-zero, next-update-exact}
use Rattle.thm_range.proofs.Refused.{other-refused}
use Rattle.thm_steps.proofs.Banking.{update-banks-kept}
use Rattle.idle_runs.specs.Idle.{Still, Least}
use Rattle.thm_idle.proofs.Idle.{idle-is-still, counted-is-least}
use Rattle.directory.specs.Fit.{fit}
use Rattle.directory.specs.Calls.{register_refusal, registered}
use Rattle.call_blocks.specs.Blocks.{directory_check, register_checks, lookup_checks, emptied}
use Rattle.handed.specs.Handed as Blocks
use Rattle.thm_blocks.specs.Calls.{HeldBlocks, BlockCall, base, NumberTyped, Inner}
use Rattle.thm_blocks.specs.Board.{block_board}
use Rattle.thm_blocks.specs.Paper.{block_paper}
use Rattle.thm_blocks.specs.Cause.{word, accepted, Cause}
use Rattle.thm_blocks.specs.Handed.{after as after_all, Typed, HandsOut, Since, Spared}
use Rattle.thm_blocks.proofs.Demand3.{block-as-machine, block-cut-blind}
use Rattle.thm_blocks.proofs.Always.{block-always-fit, block-always-options, block-never-minus-zero}
use Rattle.thm_blocks.proofs.Handed.{fresh as with_directory, handed-out-from-load, spared, cause-drops}
use Rattle.thm_settled.specs.Settled.{StaysSettled, StaysDetecting, StaysFixed, SettledFromLoad, TypeOfLoad}
use Rattle.thm_settled.proofs.Settled.{stays-settled, stays-detecting, stays-fixed, settled-from-load, type-of-load}
use Rattle.thm_work_ram.specs.Rust.{rust_update_banks}
use Rattle.thm_work_ram.specs.ZeroPage.{ZeroPage, NoWorkRam}
use Rattle.thm_work_ram.proofs.Mapping.{ram-as-rust, no-ram-either}
use Rattle.thm_work_ram.proofs.Lists.{zero-page, work-ram-reads}
use Rattle.thm_editions.specs.Editions.{ChipsAlike}
use Rattle.thm_editions.proofs.Editions.{chips-alike}
use Rattle.thm_wiki.specs.Notes.{start as fresh}
use Rattle.thm_wiki.specs.Lists.{beside, Plain}
use Rattle.thm_wiki.specs.Agrees.{Agrees163, Agrees175, Agrees340}
use Rattle.thm_wiki.specs.Sound.{wiki_output}
use Rattle.thm_wiki.specs.Protection.{at_load, protect_in, MeetsPage}
use Rattle.thm_wiki.proofs.Channel.{signed-level-agrees}
use Rattle.thm_wiki.proofs.Agrees163.{agrees-163}
use Rattle.thm_wiki.proofs.Agrees210.{agrees-175, agrees-340}
use Rattle.thm_wiki.proofs.Protection.{protected-163}

-- ---- D1: an unfit call gets the number of its first check that holds, and leaves state, arena and samples as they were

pub demand-1 : (a : Other) (h : Held) → (first_of (checks a h) ≡ 0 → ⊥)
    → other_gives a h ≡ record { reply = refused (first_of (checks a h)); state = h }
demand-1 = other-refused

pub demand-1-run : (s : State) (n : ℕ) (lent : List Float) → (first_of (run_checks s n (length lent)) ≡ 0 → ⊥)
    → run_gave s n lent ≡ record { refusal = first_of (run_checks s n (length lent)); made = 0; rise = 0; samples = lent; state = s }
demand-1-run s n lent = refused-run s n lent (first_of (run_checks s n (length lent))) refl

-- D1, H6 of the C calls: the number is the whole word, and image, arena and sample bytes stay
pub demand-1-load : (img arena : List ℕ) (mapper sub flags known : ℕ) (sizes : MemoryLayout) (options : Options)
    → let cs = host_load_checks img arena mapper sizes options in
    (first_of cs ≡ 0 → ⊥) → host_load img arena mapper sub flags known sizes options ≡ unaltered img arena (first_of cs)
demand-1-load = Host.load-refused

-- N22: a load's image needs the byte of options where PRG-RAM has so many bytes
pub load-of-128-pages : (bytes : ℕ) → (pages_for bytes ≡ 128) ↔ ((130049 ≤ bytes) × (bytes ≤ 131072))
load-of-128-pages = Host.full-ram

pub demand-1-on-image : (img lent : List ℕ) (addr v kind n : ℕ) → let s = state_in img in
    ((first_of (on_image img (kind_check kind ∷ [])) ≡ 0 → ⊥)
    → host_reset img kind ≡ unaltered img [] (first_of (on_image img (kind_check kind ∷ []))))
    × ((first_of (on_image img (cpu_own s lent addr)) ≡ 0 → ⊥)
    → host_read img lent addr ≡ unaltered img lent (first_of (on_image img (cpu_own s lent addr))))
    × ((first_of (on_image img (cpu_own s lent addr)) ≡ 0 → ⊥)
    → host_write img lent addr v ≡ unaltered img lent (first_of (on_image img (cpu_own s lent addr))))
    × ((first_of (on_image img (run_own s lent n)) ≡ 0 → ⊥)
    → host_run img lent n ≡ unaltered img lent (first_of (on_image img (run_own s lent n))))
demand-1-on-image img lent addr v kind n =
    (Host.reset-refused img kind, Host.read-refused img lent addr, Host.write-refused img lent addr v, Host.run-refused img lent n)

-- the same of those with a directory, whose places stay too; N2 of image and of directory are one number (`both_first`)
pub demand-1-directory : (d : List ℕ) (start len number : ℕ) → let rs = register_checks d start len in let ls = lookup_checks d start in
    ((first_of rs ≡ 0 → ⊥) → (register_refusal d start len ≡ first_of rs) × (registered d start len number ≡ d))
    × ((first_of ls ≡ 0 → ⊥) → host_lookup d start ≡ first_of ls)
demand-1-directory d start len number = (Host.register-refused d start len number, Host.lookup-refused d start)

pub demand-1-load-blocks : (img arena d : List ℕ) (mapper sub flags known : ℕ) (sizes : MemoryLayout) (options : Options)
    → let cs = load_blocks_checks img arena d mapper sizes options in
    (first_of cs ≡ 0 → ⊥)
    → (host_load_blocks img arena d mapper sub flags known sizes options ≡ unaltered img arena (first_of cs))
    × (host_load_places img arena d mapper sizes options ≡ d)
demand-1-load-blocks = Host.load-blocks-refused

pub demand-1-blocks : (img arena d : List ℕ) (addr v offset : ℕ)
    → let ws = on_image img (blocks_own d (state_in img) arena addr) in let ss = on_image img (directory_check d ∷ []) in
    ((first_of ws ≡ 0 → ⊥)
    → (host_write_blocks img arena d addr v ≡ unaltered img arena (first_of ws)) × (host_write_places img arena d addr v ≡ d))
    × ((first_of ss ≡ 0 → ⊥) → (host_stored img d ≡ first_of ss) × (host_stored_places img d offset ≡ d))
demand-1-blocks img arena d addr v offset = (Host.write-blocks-refused img arena d addr v, Host.stored_refused img d offset)

-- ---- D2.1, what of it is a theorem: from every load, after every list, the state is known and the arena fits it, so N2 and N7 never come

pub demand-2 : (l : Loaded) → l.submapper < 2 ^ 8 → (calls : List (Call Float Other)) → AllTyped CallTyped calls
    → Fit (observed board calls (loaded l)).state
demand-2 = always-fit

pub demand-2-refusals : (k : ℕ) → (k ≡ 2) ⊎ (k ≡ 7) → (l : Loaded) → l.submapper < 2 ^ 8 → (calls : List (Call Float Other))
    → AllTyped CallTyped calls → NeverRefused k (observed board calls (loaded l))
demand-2-refusals = never-2-or-7

-- ---- D2.1, M15, M16: with PRG-RAM the mapping is the Rust's; without it 6000..7FFF is unmapped and reads 0, and the zero page stays zeros

pub work-ram-as-rust : (n : Namco163) (m : Memory) → MemoryTyped m → 1 ≤ m.layout.prg_ram → update_banks n m ≡ rust_update_banks n m
work-ram-as-rust = ram-as-rust

pub work-ram-unmapped : (protects : Bool) (n : Namco163) (m : Memory) → MemoryTyped m → m.layout.prg_ram ≡ 0
    → NoWorkRam (remap_banks protects n m)
work-ram-unmapped = no-ram-either

pub zero-page-stays : (l : Loaded) → l.submapper < 2 ^ 8 → (calls : List (Call Float Other)) → AllTyped CallTyped calls
    → ZeroPage (observed board calls (loaded l)).state.arena
zero-page-stays = zero-page

pub no-work-ram-reads : (l : Loaded) → l.submapper < 2 ^ 8 → (calls : List (Call Float Other)) → AllTyped CallTyped calls
    → l.sizes.prg_ram ≡ 0 → (addr : ℕ) → 0x6000 ≤ addr → addr < 0x8000
    → (board.other (cpu_read addr) (observed board calls (loaded l)).state).reply ≡ answered (byte 0)
no-work-ram-reads = work-ram-reads

-- ---- D2.2: after every list of calls without a reset the board agrees with the wiki's machine, but for departures that the claims name

pub demand-2-wiki-163 : (l : Loaded) → l.mapper ≡ 19 → l.submapper < 2 ^ 8 → (calls : List (Call Float Other)) → AllTyped Plain calls
    → let x = beside calls (loaded l) fresh in not l.known && x.notes.turned ≡ false
    → Agrees163 x (observed board calls (loaded l)).state.state
demand-2-wiki-163 = agrees-163

pub demand-2-wiki-175 : (l : Loaded) → l.mapper ≡ 210 → l.submapper ≡ 1 → (calls : List (Call Float Other)) → AllTyped Plain calls
    → Agrees175 (mirroring_at_load l.flags) (beside calls (loaded l) fresh) (observed board calls (loaded l)).state.state
demand-2-wiki-175 = agrees-175

pub demand-2-wiki-340 : (l : Loaded) → l.mapper ≡ 210 → l.submapper ≡ 2 → (calls : List (Call Float Other)) → AllTyped Plain calls
    → Agrees340 (mirroring_at_load l.flags) (beside calls (loaded l) fresh) (observed board calls (loaded l)).state.state
demand-2-wiki-340 = agrees-340

-- ---- L16, L17: a settled 340 stays one until a reset is accepted; whether a board detects stays, and where it does not, its type does

pub type-settled : StaysSettled
type-settled = stays-settled

pub type-settled-from-load : SettledFromLoad
type-settled-from-load = settled-from-load

pub type-detected : StaysDetecting
type-detected = stays-detecting

pub type-fixed : StaysFixed
type-fixed = stays-fixed

pub type-at-load : TypeOfLoad
type-at-load = type-of-load

-- ---- L19, S17: the options are the load's after every list of calls, resets of both kinds and battery restores among them

pub options-kept : (l : Loaded) (calls : List (Call Float Other)) → options_in (observed board calls (loaded l)).state.state ≡ l.options
options-kept = always-options

-- ---- S7, S14 to S16: at the end of every list, the outputs that the next update makes are whole numbers, no sum of them rounds, and `out`
-- is that of their exact sum

pub exact-out : (l : Loaded) → l.submapper < 2 ^ 8 → (calls : List (Call Float Other)) → AllTyped CallTyped calls
    → UpdateExact (observed board calls (loaded l)).state.state.chip.audio
exact-out = next-update-exact

-- S16: no output, `out` or sample is negative zero
pub no-negative-zero : (l : Loaded) → l.submapper < 2 ^ 8 → (calls : List (Call Float Other)) → AllTyped CallTyped calls
    → let o = observed board calls (loaded l) in NeverMinusZero o.state.state.chip.audio o.trace
no-negative-zero = never-minus-zero

-- S14: where levels are signed, a channel's level is the wiki's, of every RAM, channel and phase (W20)
pub signed-level-of-the-page : (ram : List ℕ) (base phase : ℕ) → level_at ram base phase true ≡ wiki_output ram base phase
signed-level-of-the-page = signed-level-agrees

-- ---- L19 to L21: where F800 does not protect, page tables are made by the Rust's
-- rules and when the Rust makes them, and so on a board that is no 163; on a 163 they differ in flags of work RAM alone (W12: D2.2)

pub old-edition : (n : Namco163) (m : Memory) (old new : Board) (a : ℕ)
    → (remap_banks false n m ≡ update_banks n m) × (remaps_in false old new a ≡ remaps old new a)
old-edition n m old new a = (old-tables n m, old-writes old new a)

pub other-boards : (protects : Bool) (n : Namco163) (m : Memory) (old : Board) (a : ℕ) → is163 n.board ≡ false
    → (remap_banks protects n m ≡ update_banks n m) × (remaps_in protects old n.board a ≡ remaps old n.board a)
other-boards protects n m old a e = (other-tables protects n m e, other-writes protects old n.board a e)

pub flags-of-work-ram-alone : (n : Namco163) (m : Memory) → MemoryTyped m → is163 n.board ≡ true
    → FlagsAlone (update_banks n m) (remap_banks true n m)
flags-of-work-ram-alone n m t e = flags-alone n m e ((update-banks-kept n m).typed t).prg

-- L23: registers, sound, counter and detection are alike in both editions after the same calls
pub editions-alike : ChipsAlike
editions-alike = chips-alike

-- L24: and a 163 that does not detect has the wiki's flags (W12), but for the time from a hard reset to the next write to 8000..FFFF
pub f800-meets-the-page : (l : Loaded) → l.mapper ≡ 19 → l.known ≡ true → l.options.f800_protects ≡ true
    → (calls : List (Call Float Other))
    → MeetsPage (protect_in calls (loaded l) at_load) (observed board calls (loaded l)).state.state
f800-meets-the-page = protected-163

-- ---- D3.1, C19: a list is what the plain machine does with it, so how clocks are cut into runs does not show

pub demand-3 : (l : Loaded) (calls : List (Call Float Other)) → observed board calls (loaded l) ≡ machine paper calls (start (zeroed l))
demand-3 = Machine.as-machine

pub demand-3-cutting : (l : Loaded) (calls others : List (Call Float Other))
    → outline (observed board calls (loaded l)).trace ≡ outline (observed board others (loaded l)).trace
    → ((observed board calls (loaded l)).trace ≡ (observed board others (loaded l)).trace)
    × ((observed board calls (loaded l)).state ≡ (observed board others (loaded l)).state)
demand-3-cutting = Machine.cut-blind

-- C23: nor does it in the answer of a question, which is any function of state and arena
pub demand-3-question : {A : Type 0} (ask : Held → A) (l : Loaded) (calls others : List (Call Float Other))
    → outline (observed board calls (loaded l)).trace ≡ outline (observed board others (loaded l)).trace
    → ask (observed board calls (loaded l)).state ≡ ask (observed board others (loaded l)).state
demand-3-question = Machine.question-blind

-- L18: `preview` is one; it answers what the write would reply
pub preview-is-the-reply : (h : Held) (addr v : ℕ) → let p = preview h.state h.arena addr v in
    (other_gives (cpu_write addr v) h).reply ≡ reply_of p.refusal (changed p.changed)
unfolding preview other_gives
preview-is-the-reply h addr v = refl

-- ---- D3.2: a counter of 8000 + n with the line clear, left alone, first raises the line on clock 7FFF − n

pub counter-rises : (first rest : List (Call Float Other)) (h : Held) (n more : ℕ) → counter_of (observed board first h).state ≡ 0x8000 + n
    → n < 0x7FFF → line_of (observed board first h).state ≡ false → NoneTouches rest
    → all_clocks (observed board (first ++ rest) h).trace ≡ all_clocks (observed board first h).trace + more
    → FirstRise board counter_of line_of first rest h n more
counter-rises = Machine.first-rise

-- ---- C24, C25: a state is idle just where its next clock alters nothing; a run makes the fewest clocks that are enough

pub idle-exactly : (s : State) → (idle s ≡ true) ↔ Still state_clock s
idle-exactly = idle-is-still

pub run-makes-the-fewest : (n : ℕ) (s : State) → s.chip.regs.irq_counter < 2 ^ 16 → Least state_clock n (counted n s) s
run-makes-the-fewest = counted-is-least

-- ---- K8, K9: a block that is handed out covers the bytes that it was registered with, and none goes but for a cause that is named

pub blocks-handed-out : (l : Loaded) (calls : List (Call Float BlockCall)) → Blocks.AllTyped NumberTyped calls → (a n k : ℕ)
    → HandsOut (after_all calls (with_directory l)) a n k → Since calls (with_directory l) a n k
blocks-handed-out = handed-out-from-load

pub blocks-spared : (calls : List (Call Float BlockCall)) (h : HeldBlocks) → Blocks.AllTyped NumberTyped calls → Typed h → (a n k : ℕ)
    → HandsOut h a n k → Spared calls h a n → HandsOut (after_all calls h) a n k
blocks-spared = spared

pub blocks-dropped : (b : Other) (h : HeldBlocks) → Typed h → (a n k : ℕ) → HandsOut h a n k → accepted (base b) h ≡ true → Cause b h a n
    → word a (after_all (other (base b) ∷ []) h) ≡ 0
blocks-dropped = cause-drops

-- K7: word, image and arena of the C calls are those without a directory, where it is fit; of a load, where it has 256 places

pub blocks-load-as-without : (img arena d : List ℕ) (mapper sub flags known : ℕ) (sizes : MemoryLayout) (options : Options)
    → length d ≡ 256
    → host_load_blocks img arena d mapper sub flags known sizes options ≡ host_load img arena mapper sub flags known sizes options
blocks-load-as-without = Host.load-blocks-as-load

pub blocks-write-as-without : (img arena d : List ℕ) (addr v : ℕ) → fit d ≡ true
    → host_write_blocks img arena d addr v ≡ host_write img arena addr v
blocks-write-as-without = Host.write-blocks-as-write

-- K7: demand 3 of lists with a directory, its places compared too

pub demand-3-blocks : (l : Loaded) (calls : List (Call Float BlockCall))
    → observed block_board calls (with_directory l) ≡ machine block_paper calls (start (record { held = zeroed l; places = emptied }))
demand-3-blocks = block-as-machine

pub demand-3-blocks-cutting : (calls others : List (Call Float BlockCall)) (h : HeldBlocks)
    → outline (observed block_board calls h).trace ≡ outline (observed block_board others h).trace
    → ((observed block_board calls h).trace ≡ (observed block_board others h).trace)
    × ((observed block_board calls h).state ≡ (observed block_board others h).state)
demand-3-blocks-cutting = block-cut-blind

-- R9, N2, N7, S16, S17: range, zeros and options of lists with a directory

pub blocks-in-range : (l : Loaded) → l.submapper < 2 ^ 8 → (calls : List (Call Float BlockCall)) → AllTyped (Inner CallTyped) calls
    → Fit (observed block_board calls (with_directory l)).state.held
blocks-in-range = block-always-fit

pub blocks-no-negative-zero : (l : Loaded) → l.submapper < 2 ^ 8 → (calls : List (Call Float BlockCall)) → AllTyped (Inner CallTyped) calls
    → let o = observed block_board calls (with_directory l) in NeverMinusZero o.state.held.state.chip.audio o.trace
blocks-no-negative-zero = block-never-minus-zero

pub blocks-options-kept : (l : Loaded) (calls : List (Call Float BlockCall))
    → options_in (observed block_board calls (with_directory l)).state.held.state ≡ l.options
blocks-options-kept = block-always-options

-- ---- H3: what is written is read back, and what is read is written back

pub image-of-state : (s : State) → Known s → (n : ℕ) → room_for (option_set s) n ≡ true
    → read_image (image_at n s) ≡ record { refusal = 0; state = s }
image-of-state = read-written

pub state-of-image : (img : List ℕ) → Bytes img → (read_image img).refusal ≡ 0 → let s = (read_image img).state in
    (room_for (option_set s) (length img) ≡ true) × (image_at (length img) s ≡ img)
state-of-image img b e = let z = written_read img b e in (z.roomy, z.same)

-- H10: an image without options is read as the longer one with 0 behind it
pub image-lengthened : (img : List ℕ) → length img ≡ image_bytes → read_image (img ++ (0 ∷ [])) ≡ read_image img
image-lengthened = lengthened

-- H12: an image that was accepted when seven bits were the whole count of PRG-RAM pages, and 64 the most, reads to the same state
pub older-images : (img : List ℕ) → (read_older img).refusal ≡ 0 → read_image img ≡ read_older img
older-images = same-as-before

-- and the image of each state of so few pages was accepted
pub older-image-of-state : (s : State) → Known s → s.memory.layout.prg_ram ≤ older_most → (n : ℕ) → room_for (option_set s) n ≡ true
    → read_older (image_at n s) ≡ record { refusal = 0; state = s }
older-image-of-state = read-before
