-- The table, the room for the answer, then as on a sound table.
use Rattle.std.proofs.Common.{refl, sym, ◌∙◌}
use Rattle.std.proofs.lemmas.Bool.{false≢true}
use Rattle.layout.specs.Table.{state_of}
use Rattle.layout.proofs.Table.{is-table, is_table-some}
use Rattle.slot_view.proofs.Handed.{handed-sets}
use Rattle.slot_records.proofs.Looking.{lent-table, lent-short}
use Rattle.slot_records.proofs.take_records.Goals as goal

pub returns-in_default-clause-taken : goal.returns-in_default-clause-taken
returns-in_default-clause-taken c = (refl, lent-table _ _ (sym c.in_default.ensures.value) _)

pub returns-in_default-clause-sets_if : goal.returns-in_default-clause-sets_if
returns-in_default-clause-sets_if c = λ t.
    absurd (false≢true (c.in_default.ensures.value ∙ is_table-some _ (state_of _) t))

pub returns-then-room-lt-ANSWER_BYTES-clause-taken : goal.returns-then-room-lt-ANSWER_BYTES-clause-taken
returns-then-room-lt-ANSWER_BYTES-clause-taken c =
    (refl, lent-short _ _ (is-table _ (sym c.in-Some.ensures.value)) c.if-room-lt-ANSWER_BYTES.true _)

pub returns-then-room-lt-ANSWER_BYTES-clause-sets_if : goal.returns-then-room-lt-ANSWER_BYTES-clause-sets_if
returns-then-room-lt-ANSWER_BYTES-clause-sets_if c = λ t.
    handed-sets _ t _ _ _ _ c.in-Some.ensures.handed

pub take_sound-requires-clause-table : goal.take_sound-requires-clause-table
take_sound-requires-clause-table c = is-table _ (sym c.in-Some.ensures.value)

pub take_sound-requires-clause-sets_in : goal.take_sound-requires-clause-sets_in
take_sound-requires-clause-sets_in c =
    handed-sets _ (is-table _ (sym c.in-Some.ensures.value)) _ _ _ _ c.in-Some.ensures.handed

pub returns-clause-taken : goal.returns-clause-taken
returns-clause-taken c = c.take_sound.ensures.by_index _ c.if-room-lt-ANSWER_BYTES.false
