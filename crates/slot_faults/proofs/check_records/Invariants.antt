-- The first n records have no fault.
use Rattle.layout.specs.Table.{state_of}
use Rattle.slot_faults.proofs.Records.{Passed}
use Rattle.slot_faults.proofs.check_records.Given as goal

abbrev pub invariant-loop-n : goal.invariant-loop-n
invariant-loop-n l = Passed (state_of l.table) l.records l.n l.turn
