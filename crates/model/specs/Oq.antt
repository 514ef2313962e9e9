-- The output-queued switch as an engine, a model of the outputs. It has no lists, crosspoints or phases: a new cell goes to
-- the buffer of its output at once. Its state is that of a switch whose cells all wait in the buffers of their outputs, so
-- that the checks of a record, the departures and the bytes of a table are the same for both.
use Rattle.std.specs.Prelude.{ℕ, ◌+◌, Bool, true, false, ◌&&◌, eqb}
use mathlib.Core.List.{List, [], ◌∷◌, ◌++◌, map, flatten}
use Rattle.std.proofs.Math.Option.{Option, none, some}
use Rattle.laws.specs.Lists.{all?, update}
use Rattle.cell.specs.declared.Arrival.{Arrival}
use Rattle.cell.specs.declared.Cell.{Cell}
use Rattle.cell.specs.declared.Refusal.TheVariants.{BrokenTable, ClockEnd}
use Rattle.cell.specs.Cell.{accepted}
use Rattle.cell.specs.Limits.{clock_end}
use Rattle.model.specs.State.{buffered, Entry, Switch, cells, is_buffered}
use Rattle.model.specs.Checks.{Outcome, done, refused, no_departures, first_fault}
use Rattle.model.specs.Phase.{waiting}
use Rattle.model.specs.Crossbar.{leaving, departures_of, without}
use Rattle.model.specs.Sound.{sound}

-- a new cell goes to the buffer of its output; in the section of its input it stands last
unfoldable pub join_buffer : Cell → List Entry → List Entry
join_buffer c es = es ++ (record { cell = c; place = buffered } ∷ [])

-- each new cell
unfoldable pub join_buffers : List Cell → List (List Entry) → List (List Entry)
join_buffers [] sections = sections
join_buffers (c ∷ cs) sections = join_buffers cs (update c.input (join_buffer c) sections)

-- all cells wait in buffers
unfoldable pub all_buffered : Switch → Bool
all_buffered s = all? (λ e. is_buffered e.place) (flatten s.sections)

-- a sound state: that of a switch, and no cell is in a list or at a crosspoint
unfoldable pub sound_oq : Switch → Bool
sound_oq s = sound s && all_buffered s

-- An accepted slot: for each output the cell that it sends, or none, and the switch after it. No proposals are made, and
-- no crosspoints are told of.
pub record Served : Type 0 where
  pub departures : List (Option Cell)
  pub switch : Switch

-- the new cells join, then each output sends the cell of highest output priority in its buffer, and the clock rises
unfoldable pub run_oq : Switch → List Cell → Served
run_oq s cs =
    let joined = join_buffers cs s.sections in
    let out = leaving s.ports (waiting joined) in
    record {
      departures = departures_of s.ports out;
      switch = record { ports = s.ports; clock = s.clock + 1; sections = without out joined };
    }

-- One slot: arrivals that are no whole number of records, then the clock's end, then record by record the checks with the
-- cells in the switch before the slot; otherwise the slot runs.
unfoldable pub slot_oq : Switch → Option (List Arrival) → Outcome Served
slot_oq s none = refused BrokenTable 0
slot_oq s (some records) =
    elim (eqb s.clock clock_end) [
      | true ↦ refused ClockEnd 0
      | false ↦
          let cs = map (accepted s.clock) records in
          elim (first_fault s.ports (cells s) cs) [ some f ↦ refused f.0 f.1 | none ↦ done (run_oq s cs) ]
    ]

-- the departures of a slot call of a switch of so many ports, whatever its outcome
unfoldable pub served_departures : ℕ → Outcome Served → List (Option Cell)
served_departures ports (done d) = d.departures
served_departures ports (refused r place) = no_departures ports

-- the switch after the call: a refused slot moves no cell, and the clock stands still
unfoldable pub oq_after : Switch → Outcome Served → Switch
oq_after s (done d) = d.switch
oq_after s (refused r place) = s
