-- So far the first records have joined (proofs/Joining).
use Rattle.oq_slot.proofs.Joining.{Joins}
use Rattle.oq_slot.proofs.join_records.Given as goal

abbrev pub invariant-loop-a : goal.invariant-loop-a
invariant-loop-a l = Joins l.fn.table l.records l.a-index l.table
