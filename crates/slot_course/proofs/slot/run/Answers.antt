-- The two phases and the departure make the course of the slot.
use Rattle.slot_course.proofs.Course.{ran-table, ran-answer}
use Rattle.slot_course.proofs.slot.run.Goals as goal

pub returns-clause-table_after : goal.returns-clause-table_after
returns-clause-table_after c = ran-table _ _ _ _ c.schedule-reports.ensures.scheduled _ c.depart.ensures.table_after

pub returns-clause-answer_after : goal.returns-clause-answer_after
returns-clause-answer_after c =
    ran-answer _ _ _ _ c.schedule-reports.ensures.scheduled _ _ _ _ _ c.requires.table.1 c.depart.ensures.answer_after
    c.write_proposals.ensures c.write_occupancies.ensures c.write_occupancies-2.ensures
