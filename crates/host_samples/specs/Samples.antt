-- H7: a sample as bytes, and a run by way of a buffer.
use Rattle.std.specs.Prelude.{ℕ, ◌≤◌, List, Float}
use Rattle.std.specs.Float.{binary32}
use Rattle.std.specs.Float.Ieee.{to_bits}
use Rattle.bits.specs.Words.{bytes_of}
use Rattle.cut.specs.Calls.{RunGave}
use Rattle.cut.specs.Contract.{run_by}
use Rattle.board_state.specs.declared.State.{State}
use Rattle.call_refusals.specs.Refusals.{first_of}
use Rattle.call_run.specs.Run.{clocks, made, run_limit, run_checks}

-- H7: the four bytes of a sample, the most significant one first
abbrev pub sample_bytes : Float → List ℕ
sample_bytes x = bytes_of 4 (to_bits binary32 x)

-- N11: a run with room for so many samples, into a longer buffer
abbrev pub run_in : State → ℕ → ℕ → List Float → RunGave State Float
run_in s n room buffer = run_by (first_of (run_checks s n room)) (clocks n s) buffer s

-- C4: a buffer of so many places holds whatever a run makes
abbrev pub HoldsRun : State → ℕ → ℕ → Type 0
HoldsRun s n places = n ≤ run_limit → made n s ≤ places
