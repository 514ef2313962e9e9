-- The lent records of a slot when they have been looked at: their cells arrive if none of them has a fault.
use Rattle.std.specs.Prelude.{ℕ, ◌≤◌, List, Result, Ok, Err, ◌≡◌}
use Rattle.cell.specs.declared.Arrival.{Arrival}
use Rattle.cell.specs.declared.Fault.{Fault}
use Rattle.model.specs.Checks.{done, refused}
use Rattle.layout.specs.Answer.{answer_size}
use Rattle.layout.specs.Table.{state_of, IsTable}
use Rattle.slot_arrival.specs.CodeArrival.{arrived}
use Rattle.slot_check.specs.declared.Sets.{Sets}
use Rattle.slot_course.specs.Code.{course_of, SetsIn}
use Rattle.slot_records.specs.Records.{records_slot}

-- the table when the records have arrived
abbrev pub Entered : List ℕ → List Arrival → List ℕ → Type 0
Entered table records new = IsTable new × (state_of new ≡ arrived (state_of table) records)

-- the sets of a table's cells by place, if it is a table
abbrev pub SetsIf : List ℕ → Sets → Type 0
SetsIf table sets = IsTable table → SetsIn table sets

-- the slot goes on from the new table, or it is refused and the table is as it was
abbrev pub Taken : {T : Type 0} → List ℕ → ℕ → List Arrival → Result T Fault → List ℕ → Type 0
Taken table room records (Ok _) new =
    (answer_size ≤ room) × (IsTable new × (records_slot table room records ≡ done (course_of (state_of new))))
Taken table room records (Err fault) new =
    (new ≡ table) × (records_slot table room records ≡ refused fault.refusal fault.place)
