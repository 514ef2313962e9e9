-- A tally of another length, or the slot on what is lent, counted in the tally.
use Rattle.std.proofs.Common.{arith}
use Rattle.oq.proofs.Slots.{clear_room, slot-tally, slot-called}
use Rattle.oq.proofs.oq_slot.Goals as goal

pub returns-then-tally-ne-TALLY_BYTES : goal.returns-then-tally-ne-TALLY_BYTES
returns-then-tally-ne-TALLY_BYTES c = slot-tally _ _ _ _ c.if-tally-ne-TALLY_BYTES.true _ c.number.ensures

pub counted_by-after-requires : goal.counted_by-after-requires
counted_by-after-requires c e =
    omega (arith, clear_room _ _ _ _ c.take_slot-checked.ensures.0 e, c.take_slot-checked.auto.answer)

pub returns : goal.returns
returns c =
    slot-called _ _ _ _ c.if-tally-ne-TALLY_BYTES.false c.take_slot-checked.result _ _ _ c.take_slot-checked.ensures
    c.read-before.result c.counted_by-after.result c.read-before.ensures c.counted_by-after.ensures c.write.ensures _
    c.result_of.ensures
