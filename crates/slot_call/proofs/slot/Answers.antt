-- No record behind the seventeenth is looked at, so the slot with the first of them is the slot with all.
use Rattle.std.proofs.Common.{◌≡◌, ℕ, min, List, length, take, ◌∙◌, ap}
use Rattle.cell.specs.declared.Arrival.{Arrival}
use Rattle.layout.specs.Host.{table_after, answer_after}
use Rattle.model.specs.Checks.{refusal_of}
use Rattle.model.specs.Tally.{tally_after}
use Rattle.slot_records.specs.Records.{records_slot}
use Rattle.slot_records.proofs.Looking.{first-seventeen, lent-first}
use Rattle.slot_call.proofs.Ending.{ended-ran, ended-refused}
use Rattle.slot_call.proofs.slot.Goals as goal

same : (table : List ℕ) (room : ℕ) (records : List Arrival) (n : ℕ) → n ≡ min (length records) 17
    → records_slot table room (take n records) ≡ records_slot table room records
same table room records n few =
    ap (records_slot table room) (ap (λ k. take k records) few ∙ first-seventeen records)
    ∙ lent-first table room records

pub returns-in-Ok : goal.returns-in-Ok
returns-in-Ok c =
    let all = same c.args.table.now (length c.args.answer.now) c.args.records.now c.few.result c.few.ensures in
    let ran = ended-ran _ _ c.in-Ok.ensures.value in
    record {
      value = ran.0 ∙ ap refusal_of all;
      table_after = c.in-Ok.ensures.table_after ∙ ap (table_after c.args.table.now) all;
      answer_after = c.in-Ok.ensures.answer_after ∙ ap (answer_after c.args.answer.now) all;
      tally_after =
          c.count.ensures
          ∙ ran.1 (length c.args.records.now) c.args.tally.now
          ∙ ap (λ o. tally_after (length c.args.records.now) o c.args.tally.now) all;
    }

pub returns-in-Err : goal.returns-in-Err
returns-in-Err c =
    let all = same c.args.table.now (length c.args.answer.now) c.args.records.now c.few.result c.few.ensures in
    let refused = ended-refused _ _ c.in-Err.ensures.value in
    record {
      value = refused.0 ∙ ap refusal_of all;
      table_after = c.in-Err.ensures.table_after ∙ ap (table_after c.args.table.now) all;
      answer_after = c.in-Err.ensures.answer_after ∙ ap (answer_after c.args.answer.now) all;
      tally_after =
          c.count-in-Err.ensures
          ∙ refused.1 (length c.args.records.now) c.args.tally.now
          ∙ ap (λ o. tally_after (length c.args.records.now) o c.args.tally.now) all;
    }
