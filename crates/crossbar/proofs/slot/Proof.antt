-- `crossbar::slot` meets its contract: a tally of another length, or what the slot on the lent bytes answers.
-- Assumes nothing.
use borrow.Author.Rules.{rules}
use Rattle.crossbar.proofs.Slots.{slot-tally, slot-called}
use Rattle.crossbar.proofs.slot.Statement.{statement}
use Rattle.crossbar.proofs.slot.Tie as tie

number-requires : tie.Need-number-requires
number-requires c κs = search rules

cast-result : tie.Need-overflow_cast-result
cast-result c = search rules

returns : tie.Need-returns-then-tally-ne-TALLY_BYTES
returns c =
    slot-tally _ _ _ _ c.if-tally-ne-TALLY_BYTES.true _ c.number.ensures

slot-requires : tie.Need-slot-requires
slot-requires c κs = search rules

result-of-requires : tie.Need-result_of-requires
result-of-requires c κs = search rules

same_length : tie.Need-shape_of-table
same_length c = search rules

same-length-2 : tie.Need-shape_of-answer
same-length-2 c = search rules

same-length-3 : tie.Need-shape_of-tally
same-length-3 c = search rules

returns-2 : tie.Need-returns
returns-2 c =
    slot-called _ _ _ _ c.if-tally-ne-TALLY_BYTES.false _ _ _ _ c.slot.ensures _ c.result_of.ensures

pub slot_spec : {M : Type 1} → statement M
slot_spec =
    tie.close
    (tie.spec
    number-requires
    cast-result
    returns
    slot-requires
    result-of-requires
    same_length
    same-length-2
    same-length-3
    returns-2)
