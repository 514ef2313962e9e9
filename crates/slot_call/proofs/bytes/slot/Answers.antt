-- Torn records refuse the slot; else it is the slot on the first records and the tally.
use Rattle.slot_call.proofs.FromBytes.{lent-torn, lent-called}
use Rattle.slot_call.proofs.bytes.slot.Goals as goal

pub returns-then-arrivals-ne0 : goal.returns-then-arrivals-ne0
returns-then-arrivals-ne0 c =
    let a = c.args in
    lent-torn a.table.now a.arrivals.now a.answer.now a.tally.now c.if-arrivals-ne0.true c.read-counts.result
    c.counted.result _ c.read-counts.ensures c.counted.ensures c.write.ensures

pub returns : goal.returns
returns c =
    let a = c.args in
    let called = c.slot-checked.ensures in
    lent-called a.table.now a.arrivals.now a.answer.now a.tally.now c.if-arrivals-ne0.false
    c.read_records-records.result c.few-many.result c.few-many.ensures c.read_records-records.ensures
    _ c.read-counts.result _ _ _ _ c.read-counts.ensures called.value called.tally_after called.table_after
    called.answer_after c.write-2.ensures
