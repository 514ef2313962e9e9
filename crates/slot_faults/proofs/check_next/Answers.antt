-- The record's cell is checked, with the table's clock as its slot.
use Rattle.slot_faults.proofs.Records.{next-says}
use Rattle.slot_faults.proofs.Stored.{table-length}
use Rattle.slot_faults.proofs.check_next.Goals as goal

pub clock_of-requires : goal.clock_of-requires
clock_of-requires c = table-length _ c.requires.table

pub returns : goal.returns
returns c =
    next-says _ c.requires.table _ _ _ _ _ _ c.clock_of.ensures c.cell_of-c.ensures c.check_record.ensures
