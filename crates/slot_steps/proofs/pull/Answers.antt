-- For no cell nothing changes.
use Rattle.slot_steps.proofs.Steps.{taken_none}
use Rattle.slot_steps.proofs.pull.Goals as goal

pub returns-then-number-ge-NOWHERE : goal.returns-then-number-ge-NOWHERE
returns-then-number-ge-NOWHERE c =
    let p = c.requires.table_len in
    taken_none _ c.if-number-ge-NOWHERE.true _ _ p.0 _ _ p.2 p.3 _
