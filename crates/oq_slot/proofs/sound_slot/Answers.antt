-- A slot with a fault leaves everything as it was; a slot without one runs (proofs/Serving).
use Rattle.std.proofs.Common.{sym, ◌∙◌}
use Rattle.cell.proofs.Checked.{handed_on}
use Rattle.slot_arrival.proofs.OneByOne.{arriving}
use Rattle.oq_slot.proofs.Serving.{served-refused, served-runs}
use Rattle.oq_slot.proofs.sound_slot.Goals as goal

pub returns-in_err-first_fault : goal.returns-in_err-first_fault
returns-in_err-first_fault c =
    served-refused c.args.table.now c.args.answer.now c.args.records.now _ _
    (sym c.first_fault.ensures ∙ c.in_err-first_fault.was) (handed_on _ _ c.from_residual.ensures.1)

pub run-requires-clause-arriving : goal.run-requires-clause-arriving
run-requires-clause-arriving c =
    arriving _ _ c.requires.table.0 (sym c.first_fault.ensures ∙ c.in_ok-first_fault.was)

pub returns : goal.returns
returns c =
    served-runs c.args.table.now c.args.answer.now c.args.records.now
    (sym c.first_fault.ensures ∙ c.in_ok-first_fault.was) _ _ c.run.ensures.table_after c.run.ensures.answer_after
