-- The cells join, then each output sends the best of its buffer (proofs/Serving).
use Rattle.oq_slot.proofs.Serving.{joined-buffers, ran-table, ran-answer}
use Rattle.oq_slot.proofs.run.Goals as goal

pub best_of_each-best-requires : goal.best_of_each-best-requires
best_of_each-best-requires c =
    let (good, state) = c.join_records.ensures in
    (good, joined-buffers _ _ _ good state c.requires.buffered)

pub returns-clause-table_after : goal.returns-clause-table_after
returns-clause-table_after c =
    let (good, state) = c.join_records.ensures in
    ran-table _ _ _ good state _ c.depart.ensures.table_after

pub returns-clause-answer_after : goal.returns-clause-answer_after
returns-clause-answer_after c =
    let (good, state) = c.join_records.ensures in
    ran-answer _ _ _ good state _ _ c.depart.ensures.answer_after
