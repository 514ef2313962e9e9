-- The records, then the course of the slot.
use Rattle.std.proofs.Common.{arith}
use Rattle.cell.proofs.Checked.{handed_on}
use Rattle.slot_call.proofs.Ending.{refused-ended, refused-table, refused-answer, ran-ended, ran-table, ran-answer}
use Rattle.slot_call.proofs.run_slot.Goals as goal

pub returns-in_err-take_records : goal.returns-in_err-take_records
returns-in_err-take_records c =
    let h = c.in_err-take_records.ensures.taken in
    record {
      value = refused-ended _ _ h.1 _ (handed_on _ _ c.from_residual.ensures.1);
      table_after = refused-table _ _ h.1 _ _ h.0;
      answer_after = refused-answer _ _ h.1 _;
    }

pub run-requires : goal.run-requires
run-requires c =
    let h = c.in_ok-take_records.ensures.taken in
    record { table = (h.1.0, h.0); sets_in = c.in_ok-take_records.ensures.sets_if h.1.0 }

pub departures_in-requires : goal.departures_in-requires
departures_in-requires c = omega (arith, c.in_ok-take_records.ensures.taken.0, c.run.auto.answer)

pub returns : goal.returns
returns c =
    let h = c.in_ok-take_records.ensures.taken in
    record {
      value = ran-ended _ _ h.1.1 h.1.0 _ _ _ c.run.ensures.answer_after c.departures_in.ensures;
      table_after = ran-table _ _ h.1.1 _ _ c.run.ensures.table_after;
      answer_after = ran-answer _ _ h.1.1 _ _ c.run.ensures.answer_after;
    }
