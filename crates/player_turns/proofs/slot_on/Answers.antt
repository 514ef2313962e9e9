-- The slot of either engine.
use Rattle.player_turns.proofs.Engines.{table_is, table-buffered}
use Rattle.player_turns.proofs.Slots.{course-left, served-left}
use Rattle.player_turns.proofs.slot_on.Goals as goal

pub sound_slot-requires-clause-table : goal.sound_slot-requires-clause-table
sound_slot-requires-clause-table c = table_is _ _ c.requires.table_of

pub sound_slot-requires-in-Oq-clause-table : goal.sound_slot-requires-in-Oq-clause-table
sound_slot-requires-in-Oq-clause-table c =
    (table_is _ _ c.requires.table_of, table-buffered _ _ c.in-Oq.is c.requires.table_of)

pub returns-in-Crossbar : goal.returns-in-Crossbar
returns-in-Crossbar c =
    course-left _ _ _ _ _ _ _ c.in-Crossbar.is c.requires.table_of c.requires.answer_size_in_bounds c.sound_slot.ensures

pub returns-in-Oq : goal.returns-in-Oq
returns-in-Oq c = served-left _ _ _ _ _ _ _ c.in-Oq.is c.sound_slot-in-Oq.ensures
