-- The first n records have no fault.
use Rattle.layout.specs.Memory.{memory_of}
use Rattle.layout.specs.Table.{state_of}
use Rattle.fair_faults.proofs.Records.{Passed}
use Rattle.fair_faults.proofs.check_records.Given as goal

abbrev pub invariant-loop-n : goal.invariant-loop-n
invariant-loop-n l = Passed (state_of l.table) (memory_of l.memory) l.records l.n l.turn
