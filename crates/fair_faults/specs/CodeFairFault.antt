-- What turns a slot back where some outputs are fair, by its table, its memory and its records.
use Rattle.std.specs.Prelude.{ℕ, true, false, cond, List, eqb}
use Rattle.std.proofs.Math.Option.{Option, none, some}
use Rattle.cell.specs.Checked.{Checked, no_fault, fault_with}
use Rattle.cell.specs.declared.Arrival.{Arrival}
use Rattle.cell.specs.declared.Cell.{Cell}
use Rattle.cell.specs.declared.Refusal.{Refusal}
use Rattle.cell.specs.declared.Refusal.TheVariants.{ClockEnd, BadWeight, RankEnd}
use Rattle.cell.specs.Limits.{clock_end}
use Rattle.model.specs.State.{Switch, cells}
use Rattle.model.specs.Fair.{Memory, bad_weight, rank_end, record_fault, record_fault_from}
use Rattle.slot_faults.specs.CodeFault.{fault_of}

-- the fault of a record of a slot, by the record before it
abbrev pub fair_fault_by : Switch → Memory → Option Cell → Arrival → Option Refusal
fair_fault_by s m before a = record_fault s.ports s.clock (cells s) m before a

-- the fault of a record by the rank made alone
unfoldable pub rank_fault : Memory → Arrival → Option Refusal
rank_fault m a = cond (bad_weight m a) (some BadWeight) (cond (rank_end m a) (some RankEnd) none)

-- the first fault of the records
abbrev pub first_fair : Switch → Memory → List Arrival → Option (Refusal × ℕ)
first_fair s m records = record_fault_from s.ports s.clock (cells s) m 1 none records

-- the fault of a slot's records: the clock's end, or the first fault of a record, or none
unfoldable pub fair_fault_in : Switch → Memory → List Arrival → Checked
fair_fault_in s m records =
    elim (eqb s.clock clock_end) [
      | true ↦ fault_with ClockEnd 0
      | false ↦ fault_of (first_fair s m records)
    ]
