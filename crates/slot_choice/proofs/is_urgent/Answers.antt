-- A head is urgent, by the keys at the crosspoints and the best cell of its output.
use Rattle.slot_choice.proofs.Walk.{cell-number, best_key, best-known}
use Rattle.slot_choice.proofs.Walk.{urgent-behind, urgent-tied, urgent-apart}
use Rattle.slot_choice.proofs.is_urgent.Goals as goal

pub returns-then-position-scheduled : goal.returns-then-position-scheduled
returns-then-position-scheduled c =
    urgent-behind c.requires.best_known.known c.requires.cell_at c.if-position-scheduled.true

pub goes_first-first-requires-clause-table_len : goal.goes_first-first-requires-clause-table_len
goes_first-first-requires-clause-table_len c =
    let known = c.requires.best_known in
    let here = c.requires.cell_at in (
      known.known.readable.size,
      cell-number known.known here,
      best-known known.known here c.output_of-output.ensures known c.key_of-key.ensures c.if-key-rival.true,
    )

pub goes_first-first-requires-clause-key_value : goal.goes_first-first-requires-clause-key_value
goes_first-first-requires-clause-key_value c =
    let known = c.requires.best_known in
    let here = c.requires.cell_at in
    let out = c.output_of-output.ensures in
    let key = c.key_of-key.ensures in
    (key, best_key known.known here out known key (best-known known.known here out known key c.if-key-rival.true))

pub returns-then-key-rival : goal.returns-then-key-rival
returns-then-key-rival c =
    let known = c.requires.best_known in
    urgent-tied known.known c.requires.cell_at c.output_of-output.ensures known c.key_of-key.ensures
    c.if-position-scheduled.false c.goes_first-first.ensures

pub returns : goal.returns
returns c =
    let known = c.requires.best_known in
    urgent-apart known.known c.requires.cell_at c.output_of-output.ensures known c.key_of-key.ensures
    c.if-position-scheduled.false c.if-key-rival.false
