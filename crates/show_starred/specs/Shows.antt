-- Scope 9: the starred shows as a table of rows, and the test that the definitions give a row. Rows
-- that the PIFO switch can answer are tested for it too, and slot calls for the output-queued switch.
use Rattle.std.specs.Prelude.{ℕ, Bool, ◌&&◌, List, [], ◌∷◌, ◌++◌, map, eqb, replicate}
use Prim.Native.String.{String}
use Rattle.std.proofs.Math.Option.{Option, none, some}
use Rattle.laws.specs.Lists.{up_to}
use Rattle.cell.specs.declared.Cell.{Cell}
use Rattle.cell.specs.Refusal.{number}
use Rattle.model.specs.Calls.{Call, call, sends, refuses, occupies, all_run, arrival, cell}
use Rattle.model.specs.Checks.{Outcome, done, refused}
use Rattle.model.specs.Fair.{Fair, start_fair}
use Rattle.model.specs.State.{Switch}
use Rattle.player_text.specs.Player.{play_crossbar, play_pifo}
use Rattle.layout.specs.Number.{same_bytes}
use Rattle.trace.specs.Ascii.{ascii}

pub data Show : Type 0 where
  -- a trace and what the player makes of it
  plays : String → String → Show
  -- start with N gives this number, 0 where it starts
  starts : ℕ → ℕ → Show
  -- a fresh switch with N and a first slot, slot calls, and the clock after them
  answers : ℕ → ℕ → List Call → ℕ → Show

unfoldable pub start_answers : ℕ → Outcome (Fair Switch) → Bool
start_answers n (done s) = eqb n 0
start_answers n (refused r place) = eqb (number r) n && eqb place 0

unfoldable pub given : Show → Bool
given (plays t u) = same_bytes (play_crossbar (ascii t)) (ascii u) && same_bytes (play_pifo (ascii t)) (ascii u)
given (starts n r) = start_answers r (start_fair n 0 0)
given (answers n first calls clock) = all_run n first calls clock

-- sixteen numbers, and sixteen departures, of which output 5 alone has one
unfoldable pub only : ℕ → List ℕ
only n = replicate 5 0 ++ (n ∷ replicate 10 0)

unfoldable pub at_five : Cell → List (Option Cell)
at_five c = replicate 5 none ++ (some c ∷ replicate 10 none)

-- The rows, in the order of scope 9; how crowded the outputs are stands with the third.
unfoldable pub starred : List Show
starred =
    plays
    "ports=2\nfirst=0\nslot=0\nin=0\nout=1\nflow=0\nrank=5\ntag=10\nin=1\nout=1\nflow=0\nrank=3\ntag=11\nslot=1\nend=2\n"
    "ports=2\nfirst=0\nslot=0\nout=1\nin=1\nflow=0\nrank=3\ntag=11\nslot=1\nout=1\nin=0\nflow=0\nrank=5\ntag=10\nend=2\n"
    -- an empty slot on a fresh switch: no departure, clock up by one
    ∷ answers 2 0 (call [] (sends (none ∷ none ∷ []) 0 0) ∷ []) 1
    -- ranks leave as 1, 0, 2, 9; slot 1 makes 1 proposal, then 0. In slot 0 all three crosspoints of output 0 are filled,
    -- and 2 are left; in slot 1 a straight cell comes while rank 9 stands at its crosspoint, which the second phase takes
    ∷ answers 3 0
    (call (arrival 0 0 0 9 1 ∷ arrival 1 0 0 1 2 ∷ arrival 2 0 0 2 3 ∷ [])
    (occupies (3 ∷ 0 ∷ 0 ∷ []) (2 ∷ 0 ∷ 0 ∷ []) (sends (some (cell 1 0 0 1 2 0) ∷ none ∷ none ∷ []) 0 0))
    ∷ call (arrival 0 0 1 0 4 ∷ [])
    (occupies (1 ∷ 0 ∷ 0 ∷ []) (1 ∷ 0 ∷ 0 ∷ []) (sends (some (cell 0 0 1 0 4 1) ∷ none ∷ none ∷ []) 1 0))
    ∷ call []
    (occupies (0 ∷ 0 ∷ 0 ∷ []) (0 ∷ 0 ∷ 0 ∷ []) (sends (some (cell 2 0 0 2 3 0) ∷ none ∷ none ∷ []) 0 0))
    ∷ call [] (sends (some (cell 0 0 0 9 1 0) ∷ none ∷ none ∷ []) 0 0)
    ∷ [])
    4
    -- all sixteen inputs send to output 5: its crosspoints are all filled, and 15 are left
    ∷ answers 16 0
    (call (map (λ i. arrival i 5 0 1 i) (up_to 16))
    (occupies (only 16) (only 15) (sends (at_five (cell 0 5 0 1 0 0)) 0 0))
    ∷ [])
    1
    -- a tie: input 1 leaves in slot 1, input 0 in slot 2
    ∷ answers 2 1
    (call (arrival 0 0 0 4 1 ∷ arrival 1 0 0 4 2 ∷ []) (sends (some (cell 1 0 0 4 2 1) ∷ none ∷ []) 0 0)
    ∷ call [] (sends (some (cell 0 0 0 4 1 1) ∷ none ∷ []) 0 0)
    ∷ [])
    3
    -- N = 16 starts; 0 and 17 give 1
    ∷ starts 16 0
    ∷ starts 0 1
    ∷ starts 17 1
    -- flow 7 passes, 8 gives 5; input 2 with flow 8 at N = 2 gives 4
    ∷ answers 2 0 (call (arrival 0 0 7 1 1 ∷ []) (sends (some (cell 0 0 7 1 1 0) ∷ none ∷ []) 0 0) ∷ []) 1
    ∷ answers 2 0 (call (arrival 0 0 8 1 1 ∷ []) (refuses 5 1) ∷ []) 0
    ∷ answers 2 0 (call (arrival 2 0 8 1 1 ∷ []) (refuses 4 1) ∷ []) 0
    -- two records of input 1 give 6
    ∷ answers 2 0 (call (arrival 1 0 0 1 1 ∷ arrival 1 1 0 1 2 ∷ []) (refuses 6 2) ∷ []) 0
    -- a flow has rank 9 in the switch: 8 gives 7, 9 passes
    ∷ answers 2 0
    (call (arrival 0 0 0 9 1 ∷ arrival 1 0 0 1 2 ∷ []) (sends (some (cell 1 0 0 1 2 0) ∷ none ∷ []) 0 0)
    ∷ call (arrival 0 0 0 8 3 ∷ []) (refuses 7 1)
    ∷ call (arrival 0 0 0 9 4 ∷ []) (sends (some (cell 0 0 0 9 1 0) ∷ none ∷ []) 0 0)
    ∷ [])
    2
    -- slot 4,294,967,294 runs, the next gives 3
    ∷ answers 1 4294967294
    (call (arrival 0 0 0 1 1 ∷ []) (sends (some (cell 0 0 0 1 1 4294967294) ∷ []) 0 0) ∷ call [] (refuses 3 0) ∷ [])
    4294967295
    ∷ []
