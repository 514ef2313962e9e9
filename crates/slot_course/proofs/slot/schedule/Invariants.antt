-- Where the phases stand after so many, and the view of the table.
use Rattle.std.proofs.Common.{◌≡◌, length}
use Rattle.layout.specs.Table.{state_of}
use Rattle.slot_view.specs.CodeViewed.{Viewed}
use Rattle.slot_course.specs.Code.{Phased}
use Rattle.slot_course.proofs.slot.schedule.Given as goal

abbrev pub invariant-loop-n : goal.invariant-loop-n
invariant-loop-n l =
    record {
      phased : Phased (state_of l.fn.table) l.n l.table l.reports;
      viewed : Viewed l.table l.sets.listed l.sets.heads l.cross l.keys l.best;
      both : length l.reports ≡ 2;
      crossed : l.sets.crossed ≡ l.fn.sets.crossed;
      buffered : l.sets.buffered ≡ l.fn.sets.buffered;
    }
