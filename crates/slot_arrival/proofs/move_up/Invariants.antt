-- The entries from k on have been moved.
use Rattle.std.proofs.Common.{◌≡◌, ◌≤◌}
use Rattle.layout.specs.Code.{record_start}
use Rattle.layout.specs.Table.{entry_size}
use Rattle.slot_arrival.specs.CodeArrival.{moved_up}
use Rattle.slot_arrival.proofs.move_up.Given as goal

abbrev pub invariant-loop-k : goal.invariant-loop-k
invariant-loop-k l =
    record {
      within : l.at ≤ l.k;
      moved : l.table ≡ moved_up (record_start l.k) (record_start l.end) entry_size l.initial.table;
    }
