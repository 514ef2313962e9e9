-- Histories with fair outputs, worked out by hand from the text of fair ranks, and the test that the definitions give
-- them. At a fair output a record has a weight for its rank, and the cell has the rank made. A stride is 1,048,576 by the
-- weight, rounded down: 1,048,576 of weight 1, 524,288 of 2, 349,525 of 3, 2,048 of 512 and 1,024 of 1,024. In each sum
-- below the larger of two numbers comes first, the last rank given to the flow and the rank that last left the output.
use Rattle.std.specs.Prelude.{ℕ, zero, suc, ◌+◌, ◌*◌, Bool, ◌&&◌, eqb, set}
use mathlib.Core.List.{List, [], ◌∷◌, map, flatten}
use Rattle.std.proofs.Math.Option.{none, some}
use Rattle.laws.specs.Lists.{up_to, same_list}
use Rattle.cell.specs.declared.Cell.{Cell}
use Rattle.model.specs.State.{Switch, fresh}
use Rattle.model.specs.Calls.{Expected, sends, refuses, Call, call}
use Rattle.model.specs.Calls.{crossbar_runs, pifo_runs, oq_runs, all_run_marked, switch_with, arrival, cell, tables}
use Rattle.model.specs.Fair.{Memory, no_memory, sound_memory, Fair, marked, fair_slot, fair_after, fair_slot_pifo}
use Rattle.model.specs.Fair.{fair_after_pifo, fair_slot_oq, fair_after_oq}
use Rattle.model.specs.Oq.{sound_oq}
use Rattle.model.specs.Pifo.{Pifo, fresh_pifo}
use Rattle.model.specs.Rehearsals.{plays, set as set_cue, back, rehearsed_marked, free_places, a as name_a}

-- the departures of two outputs, of which the first or the second alone has one
unfoldable pub first : Cell → Expected
first c = sends (some c ∷ none ∷ []) 0 0

unfoldable pub second : Cell → Expected
second c = sends (none ∷ some c ∷ []) 0 0

-- N = 2, and output 0 is fair. Slot 0: a is 0 + 1,024 and b is 0 + 1,048,576; a leaves. Slot 1: c, of a's flow, is 1,024,
-- given to a, which also left, + 1,024 = 2,048, and leaves before b. Slot 2: d, of a new flow, is 2,048, which left,
-- + 349,525 = 351,573, and leaves before b. Slot 3: b leaves. Slot 4: e, of d's flow, is 1,048,576, which left and is
-- above the 351,573 given to d, + 1,024 = 1,049,600.
unfoldable pub two_inputs : Bool
two_inputs =
    all_run_marked 2 0 1
    (call (arrival 0 0 0 1024 1 ∷ arrival 1 0 0 1 2 ∷ []) (first (cell 0 0 0 1024 1 0))
    ∷ call (arrival 0 0 0 1024 3 ∷ []) (first (cell 0 0 0 2048 3 1))
    ∷ call (arrival 0 0 1 3 4 ∷ []) (first (cell 0 0 1 351573 4 2))
    ∷ call [] (first (cell 1 0 0 1048576 2 0))
    ∷ call (arrival 0 0 1 1024 5 ∷ []) (first (cell 0 0 1 1049600 5 4))
    ∷ [])
    5

-- N = 2, and output 0 is fair. A weight of 0 or of 1,025 is refused with 14, at its record; a port, a flow and an input
-- out of turn come first, at that record, and 14 at a record before them. Ranks for output 1 are any: the 0 leaves, then
-- the 5,000,000.
unfoldable pub weights : Bool
weights =
    all_run_marked 2 0 1
    (call (arrival 0 0 0 0 1 ∷ []) (refuses 14 1)
    ∷ call (arrival 0 0 0 1025 1 ∷ []) (refuses 14 1)
    ∷ call (arrival 0 0 0 1 1 ∷ arrival 1 0 0 1025 2 ∷ []) (refuses 14 2)
    ∷ call (arrival 0 1 0 0 1 ∷ arrival 1 0 0 0 2 ∷ []) (refuses 14 2)
    ∷ call (arrival 2 0 0 0 1 ∷ []) (refuses 4 1)
    ∷ call (arrival 0 0 8 0 1 ∷ []) (refuses 5 1)
    ∷ call (arrival 1 0 0 1 1 ∷ arrival 1 0 0 0 2 ∷ []) (refuses 6 2)
    ∷ call (arrival 1 0 0 0 1 ∷ arrival 2 0 0 1 2 ∷ []) (refuses 14 1)
    ∷ call (arrival 0 1 0 0 1 ∷ arrival 1 1 0 5000000 2 ∷ []) (second (cell 0 1 0 0 1 0))
    ∷ call [] (second (cell 1 1 0 5000000 2 0))
    ∷ [])
    2

-- A refused slot remembers nothing: a's slot is refused for its second record, and a alone, then, is 0 + 1,024. Once more
-- it is 1,024 + 1,024.
unfoldable pub refused_forgets : Bool
refused_forgets =
    all_run_marked 2 0 1
    (call (arrival 0 0 0 1024 1 ∷ arrival 1 0 0 0 2 ∷ []) (refuses 14 2)
    ∷ call (arrival 0 0 0 1024 1 ∷ []) (first (cell 0 0 0 1024 1 0))
    ∷ call (arrival 0 0 0 1024 1 ∷ arrival 1 2 0 1 2 ∷ []) (refuses 4 2)
    ∷ call (arrival 0 0 0 1024 1 ∷ []) (first (cell 0 0 0 2048 1 1))
    ∷ [])
    2

-- Two flows of input 0. Slot 0: a, of flow 0, is 0 + 1,048,576, and b, of input 1, 0 + 2,048; b leaves. Slot 1: c, of
-- flow 0, is 1,048,576, given to a and above the 2,048 that left, + 1,024 = 1,049,600; a leaves. Slot 2: d, of flow 1,
-- is 1,048,576, which left and is above the 0 of a new flow, + 2,048 = 1,050,624. c leaves, and then d.
unfoldable pub two_flows : Bool
two_flows =
    all_run_marked 2 0 1
    (call (arrival 0 0 0 1 1 ∷ arrival 1 0 0 512 2 ∷ []) (first (cell 1 0 0 2048 2 0))
    ∷ call (arrival 0 0 0 1024 3 ∷ []) (first (cell 0 0 0 1048576 1 0))
    ∷ call (arrival 0 0 1 512 4 ∷ []) (first (cell 0 0 0 1049600 3 1))
    ∷ call [] (first (cell 0 0 1 1050624 4 2))
    ∷ [])
    4

-- Both outputs are fair. A flow is of one output: the first cell of input 0 and flow 0 for output 1 is 0 + 1,024, though
-- that for output 0 was 1,048,576; and the next for output 0 is 1,048,576 + 524,288 = 1,572,864.
unfoldable pub flow_of_output : Bool
flow_of_output =
    all_run_marked 2 0 3
    (call (arrival 0 0 0 1 1 ∷ []) (first (cell 0 0 0 1048576 1 0))
    ∷ call (arrival 0 1 0 1024 2 ∷ []) (second (cell 0 1 0 1024 2 1))
    ∷ call (arrival 0 0 0 2 3 ∷ []) (first (cell 0 0 0 1572864 3 2))
    ∷ [])
    3

-- The switches of N = 2 that have a clock, these cells for each output, which wait in its buffer, and a memory: a host
-- may lend them, though no fresh switch need come to them.
unfoldable pub all_run_from : ℕ → List (List Cell) → Memory → List Call → ℕ → Bool
all_run_from clock queues m calls after =
    let s = switch_with 2 clock (tables ([] ∷ [] ∷ []) [] (flatten queues)) in
    let q : Pifo = record { ports = 2; clock = clock; queues = queues } in
    let x : Fair Switch = record { core = s; memory = m } in
    let y : Fair Pifo = record { core = q; memory = m } in
    sound_oq s
    && (sound_memory 2 m
    && (crossbar_runs x calls after
    && (pifo_runs y calls after
    && oq_runs x calls after)))

-- output 0 alone is fair; the rank that last left it, and the last rank given to flow 0 of input 0 for it
unfoldable pub remembering : ℕ → ℕ → Memory
remembering left given =
    let m = no_memory 1 in
    record { fair = 1; left = set m.left 0 left; given = set m.given 0 given }

-- 4,294,967,295 left last: any weight passes the end, with 15, and a bad weight has 14 before it. At output 1 the rank
-- stands.
unfoldable pub left_at_end : Bool
left_at_end =
    all_run_from 7 ([] ∷ [] ∷ []) (remembering 4294967295 0)
    (call (arrival 0 0 0 1025 1 ∷ []) (refuses 14 1)
    ∷ call (arrival 0 0 0 0 1 ∷ []) (refuses 14 1)
    ∷ call (arrival 0 0 0 1024 1 ∷ []) (refuses 15 1)
    ∷ call (arrival 0 1 0 1024 1 ∷ arrival 1 0 7 1 2 ∷ []) (refuses 15 2)
    ∷ call (arrival 0 0 8 1 1 ∷ []) (refuses 5 1)
    ∷ call (arrival 0 1 0 1024 1 ∷ []) (second (cell 0 1 0 1024 1 7))
    ∷ [])
    8

-- 4,294,966,272 was given last: + 1,024 passes the end. Another flow, of which none was given, is 0 + 1,024.
unfoldable pub given_past_end : Bool
given_past_end =
    all_run_from 7 ([] ∷ [] ∷ []) (remembering 0 4294966272)
    (call (arrival 0 0 0 1024 1 ∷ []) (refuses 15 1)
    ∷ call (arrival 0 0 1 1024 1 ∷ []) (first (cell 0 0 1 1024 1 7))
    ∷ [])
    8

-- one less was given: + 1,024 is 4,294,967,295, the last rank there is
unfoldable pub given_to_end : Bool
given_to_end =
    all_run_from 7 ([] ∷ [] ∷ []) (remembering 0 4294966271)
    (call (arrival 0 0 0 1024 1 ∷ []) (first (cell 0 0 0 4294967295 1 7))
    ∷ call (arrival 0 0 0 1024 1 ∷ []) (refuses 15 1)
    ∷ [])
    8

-- 4,094 times 1,048,576 was given last, 4,292,870,144. Of weight 1 comes 4,095 times it, 4,293,918,720; once more passes
-- the end, 4,294,967,296. Of weight 2 it is 4,293,918,720 + 524,288 = 4,294,443,008.
unfoldable pub near_end : Bool
near_end =
    all_run_from 7 ([] ∷ [] ∷ []) (remembering 0 4292870144)
    (call (arrival 0 0 0 1 1 ∷ []) (first (cell 0 0 0 4293918720 1 7))
    ∷ call (arrival 0 0 0 1 2 ∷ []) (refuses 15 1)
    ∷ call (arrival 0 0 0 2 3 ∷ []) (first (cell 0 0 0 4294443008 3 8))
    ∷ [])
    9

-- A 5,000 of the flow waits, though only 3,000 is remembered: 3,000 + 1,024 = 4,024 is below it and is refused with 7, by
-- the rank made and not the weight. 14 comes before it. Of weight 512 it is 3,000 + 2,048 = 5,048, behind the 5,000.
unfoldable pub below_waiting : Bool
below_waiting =
    let w = cell 0 0 0 5000 9 3 in
    all_run_from 7 ((w ∷ []) ∷ [] ∷ []) (remembering 0 3000)
    (call (arrival 0 0 0 1024 1 ∷ []) (refuses 7 1)
    ∷ call (arrival 0 0 0 1025 1 ∷ []) (refuses 14 1)
    ∷ call (arrival 0 0 0 512 2 ∷ []) (first w)
    ∷ call [] (first (cell 0 0 0 5048 2 7))
    ∷ [])
    9

-- 64 cells of input 0 wait: 14 and 15 come before 8.
unfoldable pub full_input : Bool
full_input =
    all_run_from 64 (map (λ s. cell 0 0 1 9 0 s) (up_to 64) ∷ [] ∷ []) (remembering 0 4294967295)
    (call (arrival 0 0 0 0 1 ∷ []) (refuses 14 1)
    ∷ call (arrival 0 0 0 1 1 ∷ []) (refuses 15 1)
    ∷ call (arrival 0 0 2 1 1 ∷ []) (refuses 8 1)
    ∷ [])
    64

-- A return winds the memory back. a is 0 + 1,024; the cue is set; b is 1,024 + 1,048,576 = 1,049,600. After the return
-- the same flow goes on from 1,024, + 2,048 = 3,072.
unfoldable pub wound_back : Bool
wound_back =
    rehearsed_marked 2 0 1
    (plays (call (arrival 0 0 0 1024 1 ∷ []) (first (cell 0 0 0 1024 1 0)))
    ∷ set_cue name_a 0
    ∷ plays (call (arrival 0 0 0 1 2 ∷ []) (first (cell 0 0 0 1049600 2 1)))
    ∷ back name_a 0
    ∷ plays (call (arrival 0 0 0 512 3 ∷ []) (first (cell 0 0 0 3072 3 1)))
    ∷ [])
    2 (some name_a ∷ free_places 3)

-- two memories are the same, word for word
unfoldable pub same_memory : Memory → Memory → Bool
same_memory m n =
    eqb m.fair n.fair && (same_list eqb m.left n.left && same_list eqb m.given n.given)

-- Output 0 is fair and output 1 is not, and of both a rank that left and one given are remembered: 11 and 33 of output 0,
-- 22 and 44 of output 1. A cell of rank 5 goes through output 1, and its words stay; a cell through output 0 is 33 + 1,024
-- = 1,057, given and left. The word of flow 0 of input 0 is the first for output 0, and the ninth for output 1.
unfoldable pub other_words_stay : Bool
other_words_stay =
    let memory : ℕ → ℕ → Memory =
    λ left given.
    record {
      fair = 1;
      left = set (set (no_memory 1).left 0 left) 1 22;
      given = set (set (no_memory 1).given 0 given) 8 44;
    } in
    let m = memory 11 33 in
    let x : Fair Switch = record { core = fresh 2 0; memory = m } in
    let y : Fair Pifo = record { core = fresh_pifo 2 0; memory = m } in
    let one = some (arrival 0 1 0 5 1 ∷ []) in
    let two = some (arrival 0 0 0 1024 2 ∷ []) in
    same_memory (fair_after x one (fair_slot x one)).memory m
    && (same_memory (fair_after_pifo y one (fair_slot_pifo y one)).memory m
    && (same_memory (fair_after_oq x one (fair_slot_oq x one)).memory m
    && (same_memory (fair_after x two (fair_slot x two)).memory (memory 1057 1057)
    && (same_memory (fair_after_pifo y two (fair_slot_pifo y two)).memory (memory 1057 1057)
    && same_memory (fair_after_oq x two (fair_slot_oq x two)).memory (memory 1057 1057)))))

-- N = 1, and one flow of weight 1: so many slots, each of which sends a cell of 1,048,576 more than the last
unfoldable pub climbing : ℕ → ℕ → List Call → List Call
climbing slot zero calls = calls
climbing slot (suc n) calls =
    call (arrival 0 0 0 1 7 ∷ []) (sends (some (cell 0 0 0 ((slot + 1) * 1048576) 7 slot) ∷ []) 0 0)
    ∷ climbing (slot + 1) n calls

-- 4,095 slots, and 15 in the next. The PIFO switch alone is asked, for the time that it takes: the others are proved to
-- answer as it does.
unfoldable pub climb : Bool
climb = pifo_runs (marked 1 (fresh_pifo 1 0)) (climbing 0 4095 (call (arrival 0 0 0 1 7 ∷ []) (refuses 15 1) ∷ [])) 4095
