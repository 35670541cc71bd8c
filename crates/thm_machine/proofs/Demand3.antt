-- D3.1 to D3.3 of this board, by C10 to C20.
--
-- The board is what the contracts of its public calls give (specs/Board.antt); `paper` is the scope's single clock, refusals and answers
-- (specs/Paper.antt). The machine that is fed a list and `paper`, and the claims, are those of crates/cut: specs/Machine.antt and
-- specs/Demand3.antt.
use Prim.Native.Nat.{ℕ, ◌+◌, ◌<◌}
use mathlib.Core.Path.{◌≡◌, ap}
use mathlib.Core.Bool.{false}
use mathlib.Core.List.{List, ◌++◌}
use lib.Ieee.{Float}
use Rattle.cut.specs.Calls.{Call, outline, all_clocks, start}
use Rattle.cut.specs.Machine.{machine}
use Rattle.cut.specs.Demand3.{observed, Demand3, FirstRise}
use Rattle.cut.proofs.Demand3.{demand-3 as demand-3-of}
use Rattle.thm_machine.specs.Calls.{Held, Other}
use Rattle.thm_machine.specs.Paper.{paper}
use Rattle.thm_machine.specs.Board.{board}
use Rattle.thm_machine.specs.Start.{Loaded, loaded, zeroed}
use Rattle.thm_machine.specs.Counter.{counter_of, line_of, NoneTouches}
use Rattle.thm_machine.proofs.Keeps.{keeps}
use Rattle.thm_machine.proofs.Counter.{counter}
use Rattle.thm_machine.proofs.Start.{load-starts}
use Rattle.thm_machine.proofs.Touches.{untouched}

-- D3.3: the one theorem, about lists from every state and arena
pub demand-3 : Demand3 board paper counter_of line_of
unfolding counter
demand-3 = demand-3-of board paper counter keeps

-- C11, C19: what a host observes of any list from an accepted load is what the plain machine does from a fresh state and zeros
pub as-machine : (l : Loaded) (calls : List (Call Float Other))
    → observed board calls (loaded l) ≡ machine paper calls (start (zeroed l))
as-machine l calls = rw (load-starts l) (demand-3.as-machine calls (zeroed l))

-- D3.1: two lists with the same other calls and as many clocks in each stretch
pub cut-blind : (l : Loaded) (calls others : List (Call Float Other))
    → outline (observed board calls (loaded l)).trace ≡ outline (observed board others (loaded l)).trace
    → ((observed board calls (loaded l)).trace ≡ (observed board others (loaded l)).trace)
    × ((observed board calls (loaded l)).state ≡ (observed board others (loaded l)).state)
cut-blind l calls others e = demand-3.cut-blind calls others (loaded l) e

-- C23: so a question, which is any function of state and arena, has the same answer after both
pub question-blind : {A : Type 0} (ask : Held → A) (l : Loaded) (calls others : List (Call Float Other))
    → outline (observed board calls (loaded l)).trace ≡ outline (observed board others (loaded l)).trace
    → ask (observed board calls (loaded l)).state ≡ ask (observed board others (loaded l)).state
question-blind ask l calls others e = ap ask (cut-blind l calls others e).1

-- D3.2: the calls `first` lead from any state to a counter of 0x8000 + n with the line clear, and those of `rest`, none of which writes or
-- resets it, make `more` clocks
pub first-rise : (first rest : List (Call Float Other)) (h : Held) (n more : ℕ)
    → counter_of (observed board first h).state ≡ 0x8000 + n
    → n < 0x7FFF
    → line_of (observed board first h).state ≡ false
    → NoneTouches rest
    → all_clocks (observed board (first ++ rest) h).trace ≡ all_clocks (observed board first h).trace + more
    → FirstRise board counter_of line_of first rest h n more
first-rise first rest h n more e l f t m = demand-3.rises-in-time first rest h n more e l f (untouched rest t) m
