-- The sets of the table, the records, then the course of the slot.
use Rattle.std.proofs.Common.{length}
use Rattle.cell.proofs.Checked.{handed_on}
use Rattle.slot_call.proofs.Ending.{refused-slot, refused-table, refused-answer, ran-slot, ran-table, ran-answer}
use Rattle.slot_call.proofs.sound_slot.Goals as goal

pub returns-in_err-take_sound : goal.returns-in_err-take_sound
returns-in_err-take_sound c =
    let h = c.in_err-take_sound.ensures.by_index (length c.args.answer.now) c.requires.answer_size_in_bounds in (
      refused-slot _ _ h.1 _ (handed_on _ _ c.from_residual.ensures.1),
      (refused-table _ _ h.1 _ _ h.0, refused-answer _ _ h.1 _),
    )

pub run-requires : goal.run-requires
run-requires c =
    let h = c.in_ok-take_sound.ensures.by_index (length c.args.answer.now) c.requires.answer_size_in_bounds in
    record { table = (h.1.0, h.0); sets_in = c.in_ok-take_sound.ensures.sets_in_2 }

pub returns : goal.returns
returns c =
    let h = c.in_ok-take_sound.ensures.by_index (length c.args.answer.now) c.requires.answer_size_in_bounds in (
      ran-slot _ _ h.1.1,
      (ran-table _ _ h.1.1 _ _ c.run.ensures.table_after, ran-answer _ _ h.1.1 _ _ c.run.ensures.answer_after),
    )
