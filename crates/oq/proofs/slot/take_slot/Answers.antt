-- What is found before the records, or the slot with the first of them.
use Rattle.std.proofs.Common.{◌≡◌, length, sym, ap, ◌∙◌}
use Rattle.cell.specs.Checked.{no_fault}
use Rattle.cell.proofs.Checked.{handed_on}
use Rattle.layout.specs.Answer.{departures_size}
use Rattle.layout.specs.CodeFair.{is_fair_oq_table}
use Rattle.layout_table.proofs.Places.{known_bytes}
use Rattle.fair_faults.specs.Lent.{lent_fault}
use Rattle.fair_faults.proofs.Lent.{Lends, lent-room, lent-whole}
use Rattle.oq.proofs.Slots.{lent-refuses, lent-held, firsts-fit}
use Rattle.oq.proofs.slot.take_slot.Goals as goal
use Rattle.oq.proofs.slot.take_slot.Goals.{After-lent_fault}

found : (c : After-lent_fault)
    → let a = c.args in
    c.lent_fault.result
    ≡ lent_fault (is_fair_oq_table a.table.now) (length a.arrivals.now) (length a.answer.now) departures_size
found c =
    c.lent_fault.ensures
    ∙ ap (λ t. lent_fault t (length c.args.arrivals.now) (length c.args.answer.now) departures_size) c.is_lent.ensures
    ∙ lent-whole _ _ _ _

-- nothing was found there
clear : (c : After-lent_fault) → c.lent_fault.result ≡ no_fault
    → let a = c.args in
    Lends (is_fair_oq_table a.table.now) (length a.arrivals.now) (length a.answer.now) departures_size
clear c was = lent-room _ _ _ _ (sym (found c) ∙ was)

pub returns-in_err-lent_fault : goal.returns-in_err-lent_fault
returns-in_err-lent_fault c =
    let a = c.args in
    lent-refuses a.table.now a.arrivals.now a.answer.now _ _
    (sym (found (goal.at.returns-in_err-lent_fault c).After-lent_fault) ∙ c.in_err-lent_fault.was)
    (handed_on _ _ c.from_residual.ensures.1)

pub held_slot-requires-clause-sound : goal.held_slot-requires-clause-sound
held_slot-requires-clause-sound c =
    (clear (goal.at.held_slot-requires-clause-sound c).After-lent_fault c.in_ok-lent_fault.was).sound

pub held_slot-requires-clause-fits : goal.held_slot-requires-clause-fits
held_slot-requires-clause-fits c =
    let a = c.args in
    firsts-fit a.table.now a.arrivals.now a.answer.now
    (clear (goal.at.held_slot-requires-clause-fits c).After-lent_fault c.in_ok-lent_fault.was)
    c.read_records-records.result c.few-many.result c.few-many.ensures c.read_records-records.ensures
    (known_bytes _ c.type_inv.arrivals)

pub held_slot-requires-clause-room : goal.held_slot-requires-clause-room
held_slot-requires-clause-room c =
    (clear (goal.at.held_slot-requires-clause-room c).After-lent_fault c.in_ok-lent_fault.was).long

pub returns : goal.returns
returns c =
    let a = c.args in
    lent-held a.table.now a.arrivals.now a.answer.now
    (clear (goal.at.returns c).After-lent_fault c.in_ok-lent_fault.was)
    c.read_records-records.result c.few-many.result c.few-many.ensures c.read_records-records.ensures c.held_slot.result
    _ _ c.held_slot.ensures
