-- The cells alone where no output is fair; else the slot, and the tally counted from what comes of it.
use Rattle.std.proofs.Common.{sym, ◌∙◌, arith}
use Rattle.layout.specs.Fair.{fair_number}
use Rattle.layout.proofs.Fair.{framed-size}
use Rattle.layout_table.proofs.Places.{known_bytes}
use Rattle.fair_slot.proofs.Calls.{clear_room, slot-leaves}
use Rattle.fair_slot.proofs.Plain.{plain-framed, plain-leaves}
use Rattle.fair_slot.proofs.slot.Goals as goal

pub slice_bounds-slot-end : goal.slice_bounds-slot-end
slice_bounds-slot-end c =
    let size = framed-size fair_number _ (plain-framed _ (sym c.is_plain.ensures ∙ c.if-is_plain.true)) in omega arith

pub returns-then-is_plain : goal.returns-then-is_plain
returns-then-is_plain c =
    let a = c.args in
    plain-leaves a.table.now a.arrivals.now (known_bytes _ c.slice_known-1.given)
    (sym c.is_plain.ensures ∙ c.if-is_plain.true) a.answer.now a.tally.now _ _ _ _ c.slot.ensures

pub counted_by-after-requires : goal.counted_by-after-requires
counted_by-after-requires c e =
    let room = clear_room c.args.table.now c.args.arrivals.now _ _ c.take_slot-checked.ensures.0 e in
    omega arith

pub returns : goal.returns
returns c =
    let a = c.args in
    slot-leaves a.table.now a.arrivals.now a.answer.now c.read-before.result a.tally.now _ _ _ _
    c.take_slot-checked.ensures _ c.read-before.ensures c.counted_by-after.ensures c.write.ensures
