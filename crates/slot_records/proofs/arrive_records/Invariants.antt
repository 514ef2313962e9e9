-- So far the first records have come, and the sets are those of the table so far.
use Rattle.slot_arrival.proofs.OneByOne.{Came}
use Rattle.slot_course.specs.Code.{SetsIn}
use Rattle.slot_records.proofs.arrive_records.Given as goal

abbrev pub invariant-loop-record : goal.invariant-loop-record
invariant-loop-record l = Came l.fn.table l.records l.record-index l.table × SetsIn l.table l.sets
