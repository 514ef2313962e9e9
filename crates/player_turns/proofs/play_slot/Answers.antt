-- The slot on the block's records, and what it comes to as text.
use Rattle.std.proofs.Common.{arith, take}
use Rattle.trace.specs.Flat.{arrivals_from}
use Rattle.trace.specs.Lines.{refusal_text}
use Rattle.trace_writer.proofs.Flat.{fit32-i, arrivals_from-fits}
use Rattle.player_lines.proofs.Lines.{wrote-refusal}
use Rattle.player_turns.proofs.Slots.{slot-stopped, slot-ran}
use Rattle.player_turns.proofs.play_slot.Goals as goal

pub returns-in-Err : goal.returns-in-Err
unfolding refusal_text
returns-in-Err c =
    let a = c.args in
    let wrote = wrote-refusal c.in-Err.fault.refusal c.line_of.result (omega arith) c.requires.turn_room_in_bounds
    (omega arith) c.put_refusal.ensures in
    slot-stopped a.engine a.table.now c.requires.table_of (take a.count c.records_of-records.result)
    (arrivals_from a.count a.numbers.now) c.records_of-records.ensures a.clock a.line a.out.now
    c.slot_on.result c.slot_on.new.table c.slot_on.new.answer c.slot_on.ensures
    c.in-Err.is c.put_refusal.new.out c.put_refusal.result c.line_of.result
    c.line_of.ensures wrote

pub returns-in-Ok : goal.returns-in-Ok
returns-in-Ok c =
    let a = c.args in
    slot-ran a.engine a.table.now c.requires.table_of (take a.count c.records_of-records.result)
    (arrivals_from a.count a.numbers.now) c.records_of-records.ensures a.clock a.line a.out.now
    c.slot_on.result c.slot_on.new.table c.slot_on.new.answer c.slot_on.ensures
    (arrivals_from-fits a.count a.numbers.now (fit32-i a.numbers.now c.type_inv.numbers)) c.in-Ok.is c.put_slot.new.out
    c.put_slot.result c.put_slot.ensures
