-- Scope 6, refusals 3 to 8: what turns a slot back, by its table and its records.
use Rattle.std.specs.Prelude.{ℕ, ◌+◌, ◌<◌, Bool, true, false, cond, ◌&&◌, List, [], map, ltb, eqb, get_or}
use Rattle.std.proofs.Math.Option.{Option, none, some}
use Rattle.cell.specs.Checked.{Checked, no_fault, fault_with}
use Rattle.cell.specs.declared.Arrival.{Arrival}
use Rattle.cell.specs.declared.Cell.{Cell}
use Rattle.cell.specs.declared.Refusal.{Refusal}
use Rattle.cell.specs.declared.Refusal.TheVariants.{ClockEnd, RankOrder, Full}
use Rattle.cell.specs.Cell.{accepted}
use Rattle.cell.specs.Flow.{same_flow}
use Rattle.cell.specs.Limits.{clock_end, flow_limit}
use Rattle.model.specs.State.{Entry, Switch, cells}
use Rattle.model.specs.Checks.{falling_rank, full, fault, first_fault}
use Rattle.layout.specs.Table.{state_of}

-- the entries of an input
abbrev pub section_in : List ℕ → ℕ → List Entry
section_in table input = get_or (state_of table).sections input []

-- the cells that the records of a slot would become
unfoldable pub coming : Switch → List Arrival → List Cell
coming s records = map (accepted s.clock) records

-- the fault of a record of a slot, by the record before it
abbrev pub fault_by : Switch → Option Cell → Arrival → Option Refusal
fault_by s before a = fault s.ports (cells s) before (accepted s.clock a)

-- a record's ports and its flow are there
pub record InPorts (ports : ℕ) (c : Cell) : Type 0 where
  pub input : c.input < ports
  pub output : c.output < ports
  pub flow : c.flow < flow_limit

-- the fault of a record by the waiting cells alone
unfoldable pub waiting_fault : List Cell → Cell → Option Refusal
waiting_fault waiting c = cond (falling_rank waiting c) (some RankOrder) (cond (full waiting c) (some Full) none)

-- the fault of the record at this place, as the code answers it
unfoldable pub fault_at : ℕ → Option Refusal → Checked
fault_at place none = no_fault
fault_at place (some r) = fault_with r place

-- the first fault of the records, as the code answers it
unfoldable pub fault_of : Option (Refusal × ℕ) → Checked
fault_of none = no_fault
fault_of (some f) = fault_with f.0 f.1

-- the fault of a slot's records: the clock's end, or the first fault of a record, or none
unfoldable pub fault_in : Switch → List Arrival → Checked
fault_in s records =
    elim (eqb s.clock clock_end) [
      | true ↦ fault_with ClockEnd 0
      | false ↦ fault_of (first_fault s.ports (cells s) (coming s records))
    ]

-- the lowest input whose turn it is after a record
unfoldable pub turn_after : Option Cell → ℕ
turn_after none = 0
turn_after (some before) = before.input + 1

-- d is of c's flow and has a higher rank
unfoldable pub outranks : Cell → Cell → Bool
outranks c d = same_flow d c && ltb c.rank d.rank
