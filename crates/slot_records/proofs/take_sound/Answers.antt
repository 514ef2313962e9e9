-- The fault is found, or the records arrive.
use Rattle.std.proofs.Common.{sym}
use Rattle.cell.proofs.Checked.{handed_on}
use Rattle.slot_arrival.proofs.OneByOne.{arriving}
use Rattle.slot_records.proofs.Taking.{taken, taken-refused}
use Rattle.slot_records.proofs.take_sound.Goals as goal

pub returns-in_err-first_fault-clause-by_index : goal.returns-in_err-first_fault-clause-by_index
returns-in_err-first_fault-clause-by_index c =
    taken-refused _ c.requires.table _ _ _ (handed_on _ _ c.from_residual.ensures.1) (sym c.in_err-first_fault.ensures)

pub arrive_records-requires : goal.arrive_records-requires
arrive_records-requires c =
    record {
      arriving = arriving _ _ c.requires.table (sym c.in_ok-first_fault.ensures);
      sets_in = c.requires.sets_in;
    }

pub returns-clause-by_index : goal.returns-clause-by_index
returns-clause-by_index c =
    taken _ c.requires.table _ (tt {0}) _ (sym c.in_ok-first_fault.ensures) c.arrive_records.ensures.entered
