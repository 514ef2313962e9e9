-- Fair ranks. At a fair output the rank of a record is a weight, and the switch makes the rank of its cell from what it
-- remembers: the last rank given to each flow, and the rank of the last cell that left each output. One text for the
-- three switches, each of which has a memory of its own.
use Rattle.std.specs.Prelude.{ℕ, ◌+◌, ◌*◌, ◌/◌, ◌%◌, ◌^◌, max, Bool, true, false, cond, not, ◌&&◌, List, [], ◌∷◌, map, ltb, leb, eqb, length, replicate, set, get_or}
use Rattle.std.proofs.Math.Option.{Option, none, some}
use Rattle.laws.specs.Lists.{all?}
use Rattle.cell.specs.declared.Arrival.{Arrival}
use Rattle.cell.specs.declared.Cell.{Cell}
use Rattle.cell.specs.declared.Refusal.{Refusal}
use Rattle.cell.specs.declared.Refusal.TheVariants.{BadSize, BrokenTable, ClockEnd, NoSuchPort, BadWeight, RankEnd}
use Rattle.cell.specs.Cell.{accepted}
use Rattle.cell.specs.Limits.{port_limit, flow_limit, clock_end, fits32, ports_in_range}
use Rattle.model.specs.State.{Switch, fresh, cells}
use Rattle.model.specs.Checks.{Outcome, done, refused, fault}
use Rattle.model.specs.Crossbar.{Course, run}
use Rattle.model.specs.Oq.{Served, run_oq}
use Rattle.model.specs.Pifo.{Pifo, queued, Sent, run_pifo}

-- a weight is 1 to 1,024
abbrev pub weight_limit : ℕ
weight_limit = 1024

unfoldable pub weight_in_range : ℕ → Bool
weight_in_range w = leb 1 w && leb w weight_limit

-- the stride of a weight: 1,048,576 ÷ w, rounded down
abbrev pub stride_top : ℕ
stride_top = 1048576

unfoldable pub stride : ℕ → ℕ
stride w = stride_top / w

-- A word of memory for each flow: input, output and flow number.
abbrev pub flow_count : ℕ
flow_count = port_limit * (port_limit * flow_limit)

unfoldable pub flow_index : Arrival → ℕ
flow_index a = port_limit * flow_limit * a.input + (flow_limit * a.output + a.flow)

-- Which outputs are fair, output o by bit o of a number; the rank of the last cell that left each output; and the last
-- rank given to each flow. A rank is 0 where there was none.
pub record Memory : Type 0 where
  pub fair : ℕ
  pub left : List ℕ
  pub given : List ℕ

-- nothing has left yet, and nothing was given
unfoldable pub no_memory : ℕ → Memory
no_memory marks = record { fair = marks; left = replicate port_limit 0; given = replicate flow_count 0 }

unfoldable pub is_fair : Memory → ℕ → Bool
is_fair m o = eqb (m.fair / 2 ^ o % 2) 1

-- marks are only at outputs below N
unfoldable pub marks_in_range : ℕ → ℕ → Bool
marks_in_range ports marks = ltb marks (2 ^ ports)

-- marks only below N, and any ranks
unfoldable pub sound_memory : ℕ → Memory → Bool
sound_memory ports m =
    marks_in_range ports m.fair
    && (eqb (length m.left) port_limit
    && (eqb (length m.given) flow_count
    && (all? fits32 m.left && all? fits32 m.given)))

-- The rank of a record's cell. At a fair output: the larger of the last rank given to its flow and the rank of the last
-- cell that left that output, plus the stride of the weight.
unfoldable pub made_rank : Memory → Arrival → ℕ
made_rank m a =
    cond (is_fair m a.output)
    (max (get_or m.given (flow_index a) 0) (get_or m.left a.output 0) + stride a.rank)
    a.rank

-- the record with that rank
unfoldable pub make : Memory → Arrival → Arrival
make m a =
    record { input = a.input; output = a.output; flow = a.flow; rank = made_rank m a; tag = a.tag }

-- 14: a weight is not 1 to 1,024
unfoldable pub bad_weight : Memory → Arrival → Bool
bad_weight m a = is_fair m a.output && not (weight_in_range a.rank)

-- 15: the sum passes 4,294,967,295
unfoldable pub rank_end : Memory → Arrival → Bool
rank_end m a = is_fair m a.output && not (fits32 (made_rank m a))

-- The checks of a record: 4, 5 and 6, which look at no waiting cell; then 14 and 15; then, by the rank made, 7 and 8.
unfoldable pub record_fault : ℕ → ℕ → List Cell → Memory → Option Cell → Arrival → Option Refusal
record_fault ports clock waiting m before a =
    let c = accepted clock (make m a) in
    elim (fault ports [] before c) [
      | some r ↦ some r
      | none ↦
          cond (bad_weight m a) (some BadWeight)
          (cond (rank_end m a) (some RankEnd)
          (fault ports waiting before c))
    ]

-- the first fault of the records from this place on, and its place
unfoldable pub record_fault_from : ℕ → ℕ → List Cell → Memory → ℕ → Option Cell → List Arrival → Option (Refusal × ℕ)
record_fault_from ports clock waiting m place before [] = none
record_fault_from ports clock waiting m place before (a ∷ records) =
    elim (record_fault ports clock waiting m before a) [
      | some r ↦ some (r, place)
      | none ↦ record_fault_from ports clock waiting m (place + 1) (some (accepted clock (make m a))) records
    ]

-- What an accepted slot leaves in the memory. Its ranks are made from the memory before the slot, and only fair outputs
-- remember: the words of others keep what they hold.
unfoldable pub given_after : Memory → List Arrival → List ℕ → List ℕ
given_after m [] given = given
given_after m (a ∷ records) given =
    given_after m records (cond (is_fair m a.output) (set given (flow_index a) (made_rank m a)) given)

-- the departures from this output on
unfoldable pub left_after : Memory → ℕ → List (Option Cell) → List ℕ → List ℕ
left_after m o [] left = left
left_after m o (none ∷ departures) left = left_after m (o + 1) departures left
left_after m o (some c ∷ departures) left =
    left_after m (o + 1) departures (cond (is_fair m o) (set left o c.rank) left)

unfoldable pub remembered : Memory → List Arrival → List (Option Cell) → Memory
remembered m records departures =
    record {
      fair = m.fair;
      left = left_after m 0 departures m.left;
      given = given_after m records m.given;
    }

-- A switch with its memory.
pub record Fair (S : Type 0) : Type 0 where
  pub core : S
  pub memory : Memory

-- a fresh switch, marked at start
unfoldable pub marked : {S : Type 0} → ℕ → S → Fair S
marked marks s = record { core = s; memory = no_memory marks }

-- A switch is given by its N, its clock and its waiting cells, and by what a slot of its cells does.
module _ {S R : Type 0} (ports clock : S → ℕ) (waiting : S → List Cell) (runs : S → List Cell → R) where
  -- One slot. The arrivals are lent as records, or are no whole number of records; then the clock's end; then record by
  -- record 4, 5, 6, 14, 15, 7, 8, by the cells in the switch and the memory before the slot.
  unfoldable pub slot_of : Fair S → Option (List Arrival) → Outcome R
  slot_of x none = refused BrokenTable 0
  slot_of x (some records) =
      let s = x.core in
      let m = x.memory in
      elim (eqb (clock s) clock_end) [
        | true ↦ refused ClockEnd 0
        | false ↦
            elim (record_fault_from (ports s) (clock s) (waiting s) m 1 none records) [
              | some f ↦ refused f.0 f.1
              | none ↦ done (runs s (map (λ a. accepted (clock s) (make m a)) records))
            ]
      ]

-- the switch after the call, by the departures and the state that a slot gives: a refused slot moves no cell, the clock
-- stands still, and nothing is remembered
module _ {S R : Type 0} (departures : R → List (Option Cell)) (state : R → S) where
  unfoldable pub after_of : Fair S → Option (List Arrival) → Outcome R → Fair S
  after_of x arrivals (refused r place) = x
  after_of x none (done c) = x
  after_of x (some records) (done c) =
      record { core = state c; memory = remembered x.memory records (departures c) }

-- The crossbar, the PIFO switch and the output-queued switch.
abbrev pub fair_slot : Fair Switch → Option (List Arrival) → Outcome Course
fair_slot = slot_of (λ s. s.ports) (λ s. s.clock) cells run

abbrev pub fair_after : Fair Switch → Option (List Arrival) → Outcome Course → Fair Switch
fair_after = after_of (λ c. c.departures) (λ c. c.switch)

abbrev pub fair_slot_pifo : Fair Pifo → Option (List Arrival) → Outcome Sent
fair_slot_pifo = slot_of (λ s. s.ports) (λ s. s.clock) queued run_pifo

abbrev pub fair_after_pifo : Fair Pifo → Option (List Arrival) → Outcome Sent → Fair Pifo
fair_after_pifo = after_of (λ c. c.departures) (λ c. c.pifo)

abbrev pub fair_slot_oq : Fair Switch → Option (List Arrival) → Outcome Served
fair_slot_oq = slot_of (λ s. s.ports) (λ s. s.clock) cells run_oq

abbrev pub fair_after_oq : Fair Switch → Option (List Arrival) → Outcome Served → Fair Switch
fair_after_oq = after_of (λ c. c.departures) (λ c. c.switch)

-- Start: 1, N is not 1 to 16; 4, a mark at an output of N or more.
unfoldable pub start_fair : ℕ → ℕ → ℕ → Outcome (Fair Switch)
start_fair ports first marks =
    elim (ports_in_range ports) [
      | false ↦ refused BadSize 0
      | true ↦ elim (marks_in_range ports marks) [
        | false ↦ refused NoSuchPort 0
        | true ↦ done (marked marks (fresh ports first))
      ]
    ]
