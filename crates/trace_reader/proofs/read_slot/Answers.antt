-- Each `return` is a case of what stands at the line of `slot`.
use Rattle.trace.specs.declared.Key.TheVariants.{Slot}
use Rattle.trace_line_reader.proofs.Lines.{number-bad, number-got, number-within}
use Rattle.trace_reader.proofs.Answers.{slot-bad, slot-other, slot_same}
use Rattle.trace_reader.proofs.read_slot.Goals as goal

pub returns-in_default : goal.returns-in_default
returns-in_default c =
    let d = slot-bad _ _ c.requires (number-bad Slot 0 _ c.read_line.ensures c.in_default.is) _ in
    record { value = d.0; numbers_after = d.1 }

pub returns-then-slot-clock : goal.returns-then-slot-clock
returns-then-slot-clock c =
    let p = number-got Slot 0 _ c.read_line.ensures c.in-Some.is in
    let d = slot-other _ _ c.requires c.in-Some.slot.length p c.if-slot-clock.true _ in
    record { value = d.0; numbers_after = d.1 }

pub read_arrivals-requires : goal.read_arrivals-requires
read_arrivals-requires c = number-within Slot 0 _ c.read_line.ensures c.in-Some.is

pub returns : goal.returns
returns c =
    let p = number-got Slot 0 _ c.read_line.ensures c.in-Some.is in
    let d = slot_same _ _ c.requires c.in-Some.slot.length p c.if-slot-clock.false _
    c.read_arrivals.ensures.value c.read_arrivals.ensures.numbers_after in
    record { value = d.0; numbers_after = d.1 }
