-- Scope 3, one slot: the crossbar's slot, with its refusals.
use Rattle.std.specs.Prelude.{ℕ, ◌+◌, Bool, true, false, not, ◌&&◌, List, [], ◌∷◌, map, eqb, replicate}
use Rattle.std.proofs.Math.Option
use Rattle.std.proofs.Math.Option.{Option, none, some}
use Rattle.laws.specs.Lists.{keep, some?, none?, least, update, first?, up_to}
use Rattle.cell.specs.declared.Cell.{Cell}
use Rattle.cell.specs.declared.Arrival.{Arrival}
use Rattle.cell.specs.declared.Refusal.TheVariants.{BrokenTable, ClockEnd}
use Rattle.cell.specs.Cell.{accepted}
use Rattle.cell.specs.Flow.{same_flow}
use Rattle.cell.specs.Limits.{clock_end}
use Rattle.model.specs.State.{listed, Entry, Switch, cells, is_listed, is_buffered}
use Rattle.model.specs.Checks.{Outcome, done, refused, no_departures, first_fault}
use Rattle.model.specs.Phase.{Waiting, numbered, waiting, beats, among, output_choice, Phase, phase, moved}

-- Arrival.
unfoldable pub in_list_of : Cell → Entry → Bool
in_list_of c e = is_listed e.place && same_flow e.cell c

unfoldable pub new_entry : Cell → Entry
new_entry c = record { cell = c; place = listed }

-- right after the last cell of its flow in the list, which has one
unfoldable pub enter_after : Cell → List Entry → List Entry
enter_after c [] = []
enter_after c (e ∷ es) =
    elim (in_list_of c e && none? (in_list_of c) es) [ true ↦ e ∷ new_entry c ∷ es | false ↦ e ∷ enter_after c es ]

-- right after the last cell of its flow in the list, or to the front if the list has none of its flow
unfoldable pub enter : Cell → List Entry → List Entry
enter c es = elim (some? (in_list_of c) es) [ true ↦ enter_after c es | false ↦ new_entry c ∷ es ]

-- each new cell enters the list of its input
unfoldable pub arrive : List Cell → List (List Entry) → List (List Entry)
arrive [] sections = sections
arrive (c ∷ cs) sections = arrive cs (update c.input (enter c) sections)

-- Departure. Each output sends the cell of highest output priority in its buffer, if it has one.
unfoldable pub leaving : ℕ → List Waiting → List Waiting
leaving ports all = least (beats ports) (keep (λ e. is_buffered e.place) all)

-- for each output the cell that it sends, or none
unfoldable pub departures_of : ℕ → List Waiting → List (Option Cell)
departures_of ports out =
    map (λ o. Option.map (λ e. e.cell) (first? (keep (λ e. eqb e.cell.output o) out))) (up_to ports)

unfoldable pub without : List Waiting → List (List Entry) → List (List Entry)
without out sections =
    map (λ s. map (λ e. record { cell = e.cell; place = e.place }) (keep (λ e. not (among out e)) s)) (numbered sections)

-- The course of an accepted slot: the sections after arrival, the first phase, the sections after it, the second phase,
-- the sections after that, and the departures.
pub record Course : Type 0 where
  pub arrived : List (List Entry)
  pub one : Phase
  pub between : List (List Entry)
  pub two : Phase
  pub settled : List (List Entry)
  pub departures : List (Option Cell)
  pub switch : Switch

unfoldable pub run : Switch → List Cell → Course
run s cs =
    let arrived = arrive cs s.sections in
    let one = phase s.ports (waiting arrived) in
    let between = moved one arrived in
    let two = phase s.ports (waiting between) in
    let settled = moved two between in
    let out = leaving s.ports (waiting settled) in
    record {
      arrived = arrived;
      one = one;
      between = between;
      two = two;
      settled = settled;
      departures = departures_of s.ports out;
      switch = record { ports = s.ports; clock = s.clock + 1; sections = without out settled };
    }

-- The answer holds for each output a cell or none, and for each phase the number of proposals made and how many
-- crosspoints of each output held a cell.
pub record Answer : Type 0 where
  pub departures : List (Option Cell)
  pub first : ℕ
  pub second : ℕ
  pub occupancy_one : List ℕ
  pub occupancy_two : List ℕ

-- what the outputs' choices in a phase tell of their crosspoints, output by output
unfoldable pub occupancies : ℕ → Phase → List ℕ
occupancies ports p = map (λ o. (output_choice ports p.filled o).occupancy) (up_to ports)

unfoldable pub answer_of : Course → Answer
answer_of c =
    record {
      departures = c.departures;
      first = c.one.proposals;
      second = c.two.proposals;
      occupancy_one = occupancies c.switch.ports c.one;
      occupancy_two = occupancies c.switch.ports c.two;
    }

-- A refused slot has no departures and all counts 0.
unfoldable pub refused_answer : ℕ → Answer
refused_answer ports =
    record {
      departures = no_departures ports;
      first = 0;
      second = 0;
      occupancy_one = replicate ports 0;
      occupancy_two = replicate ports 0;
    }

-- the answer of a slot call of a switch of so many ports, whatever its outcome
unfoldable pub slot_answer : ℕ → Outcome Course → Answer
slot_answer ports (done c) = answer_of c
slot_answer ports (refused r place) = refused_answer ports

-- One slot of records whose ranks stand; where outputs may be fair it is `fair_slot` (Fair). The arrivals are lent as
-- records, or are no whole number of records. For 7 and 8 the cells in the switch are those before the slot.
unfoldable pub slot : Switch → Option (List Arrival) → Outcome Course
slot s none = refused BrokenTable 0
slot s (some records) =
    elim (eqb s.clock clock_end) [
      | true ↦ refused ClockEnd 0
      | false ↦
          let cs = map (accepted s.clock) records in
          elim (first_fault s.ports (cells s) cs) [ some f ↦ refused f.0 f.1 | none ↦ done (run s cs) ]
    ]

-- the switch after the call: a refused slot moves no cell, and the clock stands still
unfoldable pub switch_after : Switch → Outcome Course → Switch
switch_after s (done c) = c.switch
switch_after s (refused r place) = s
